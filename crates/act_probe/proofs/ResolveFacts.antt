-- The candidates of one zone among all candidates.
use Rattle.std.proofs.Common.{◌≡◌, ℕ, zero, suc, ◌+◌, ◌-◌, ◌≤◌, ◌<◌, ◌++◌, sym, ap, ◌∙◌, subst, arith, List, length, map, take, drop, get_or}
use Rattle.std.specs.Prelude.{◌≤ℤ◌, sum_by}
use Rattle.std.specs.List.{All}
use Rattle.std.proofs.Math.ListN.{set}
use Rattle.std.proofs.Math.Seq.{take-add}
use Rattle.std.proofs.lemmas.Int.{ints}
use Rattle.std.proofs.lemmas.List.{drop-drop, drop-set-lt, get_or-drop, get_or-take, get_or_default, length-drop, length-map, length-take-le, map-append, take-append-drop, take_at}
use Rattle.std.proofs.lemmas.List.Sums.{sum_by-append}
use Rattle.std.proofs.lemmas.Slice.{drop-put_mid, take-put_mid}
use borrow.Rule.Slice.PartMut.{put_mid}
use Rattle.act_base.specs.Sight.{Sight}
use Rattle.act_super.specs.declared.entry.Zone.{Zone}
use Rattle.act_probe.specs.declared.buffers.Candidate.{Candidate}
use Rattle.act_probe.specs.Chains.{ChainAt}
use Rattle.act_probe.specs.Batches.{Asks}
use Rattle.act_probe.specs.Sweeps.{Ascends, IsRun, RunsAscend}
use Rattle.act_probe.proofs.SettleFacts.{no_candidate}

-- the chains of all of them begin at the row of the first one's
pub chains_of : (x : Sight) (zones : ℕ → Zone) (run : List Candidate) → 0 < length run → IsRun run 0 (length run) → All (λ (c : Candidate). Asks x (zones c.slot) c) run
    → All (λ (c : Candidate). ChainAt x (zones c.slot) (get_or run 0 no_candidate).row) run
chains_of x zones run some rows all k d inside =
    let row : (get_or run k d).row ≡ (get_or run 0 no_candidate).row = rows k d (omega arith) inside ∙ ap (λ (c : Candidate). c.row) (get_or_default run 0 d no_candidate some) in
    subst (ChainAt x (zones (get_or run k d).slot)) row (all k d inside).chain

-- those between two places of a list whose front was changed
module _ (xs l : List Candidate) (start end : ℕ) (before : start < end) (within : end ≤ length xs) (long : length l ≡ length xs) (rest : drop start l ≡ drop start xs) where
  abbrev part : List Candidate
  part = take (end - start) (drop start l)

  part_long : length part ≡ end - start
  part_long = length-take-le (end - start) (drop start l) (omega (arith, length-drop start l, within, before, long))

  here : (k : ℕ) (d : Candidate) → k < end - start → get_or part k d ≡ get_or l (start + k) d
  here k d inside = get_or-take (end - start) (drop start l) k d inside ∙ get_or-drop start l k d

  moved : (k : ℕ) (d : Candidate) → get_or l (start + k) d ≡ get_or xs (start + k) d
  moved k d = sym (get_or-drop start l k d) ∙ ap (λ (z : List Candidate). get_or z k d) rest ∙ get_or-drop start xs k d

  stays : (k : ℕ) (d : Candidate) → start ≤ k → get_or l k d ≡ get_or xs k d
  stays k d past =
      let e : k ≡ start + (k - start) = omega (arith, past) in
      ap (λ n. get_or l n d) e ∙ moved (k - start) d ∙ ap (λ n. get_or xs n d) (sym e)

  pub part_all : (P : Candidate → Type 0) → All P xs → All P part
  part_all P all k d inside =
      subst P (sym (here k d (omega (arith, inside, part_long)) ∙ moved k d)) (all (start + k) d (omega (arith, inside, part_long, within)))

  pub part_run : IsRun l start end → IsRun part 0 (length part)
  part_run run k d past inside =
      let none : start + 0 ≡ start = omega arith in
      ap (λ (c : Candidate). c.row) (here k d (omega (arith, inside, part_long))) ∙ run (start + k) d (omega arith) (omega (arith, inside, part_long))
      ∙ ap (λ n. (get_or l n d).row) (sym none) ∙ ap (λ (c : Candidate). c.row) (sym (here 0 d (omega (arith, before))))

  far : RunsAscend xs → IsRun l start end → (i m : ℕ) (d : Candidate) → start ≤ i → i + m < end → (get_or xs i d).point.y ≤ℤ (get_or xs (i + m) d).point.y
  far up run i zero d past inside =
      let e : i ≡ i + zero = omega arith in
      let same : (get_or xs i d).point.y ≡ (get_or xs (i + zero) d).point.y = ap (λ n. (get_or xs n d).point.y) e in
      omega (arith, ints, same)
  far up run i (suc m) d past inside =
      let e : i + m + 1 ≡ i + suc m = omega arith in
      let row : (get_or xs (i + m + 1) d).row ≡ (get_or xs (i + m) d).row =
      ap (λ (c : Candidate). c.row) (sym (stays (i + m + 1) d (omega (arith, past)))) ∙ run (i + m + 1) d (omega (arith, past)) (omega (arith, inside))
      ∙ sym (run (i + m) d (omega (arith, past)) (omega (arith, inside))) ∙ ap (λ (c : Candidate). c.row) (stays (i + m) d (omega (arith, past))) in
      let step : (get_or xs (i + m) d).point.y ≤ℤ (get_or xs (i + m + 1) d).point.y = up (i + m) d (omega (arith, inside, within)) row in
      let same : (get_or xs (i + m + 1) d).point.y ≡ (get_or xs (i + suc m) d).point.y = ap (λ n. (get_or xs n d).point.y) e in
      omega (arith, ints, step, same, far up run i m d past (omega (arith, inside)))

  pub part_ascends : RunsAscend xs → IsRun l start end → Ascends part
  part_ascends up run i j d first inside =
      let e : start + i + (j - i) ≡ start + j = omega (arith, first) in
      let one : get_or part i d ≡ get_or xs (start + i) d = here i d (omega (arith, first, inside, part_long)) ∙ moved i d in
      let two : get_or part j d ≡ get_or xs (start + j) d = here j d (omega (arith, inside, part_long)) ∙ moved j d in
      let y_one : (get_or part i d).point.y ≡ (get_or xs (start + i) d).point.y = ap (λ (c : Candidate). c.point.y) one in
      let y_two : (get_or part j d).point.y ≡ (get_or xs (start + i + (j - i)) d).point.y = ap (λ (c : Candidate). c.point.y) two ∙ ap (λ n. (get_or xs n d).point.y) (sym e) in
      omega (arith, ints, y_one, y_two, far up run (start + i) (j - i) d (omega arith) (omega (arith, first, inside, part_long)))

  parts : end ≡ start + (end - start)
  parts = omega (arith, before)

  part_is : part ≡ take (end - start) (drop start xs)
  part_is = ap (take (end - start)) rest

  joined : take end xs ≡ take start xs ++ take (end - start) (drop start xs)
  joined = ap (λ n. take n xs) parts ∙ take-add start (end - start) xs

  pub part_sum : (g : Candidate → ℕ) → sum_by g (take end xs) ≡ sum_by g (take start xs) + sum_by g part
  part_sum g =
      ap (sum_by g) joined ∙ sum_by-append g (take start xs) (take (end - start) (drop start xs)) ∙ ap (λ (z : List Candidate). sum_by g (take start xs) + sum_by g z) (sym part_is)

  end_rest : drop end l ≡ drop end xs
  end_rest =
      ap (λ n. drop n l) parts ∙ sym (drop-drop (end - start) start l) ∙ ap (drop (end - start)) rest ∙ drop-drop (end - start) start xs ∙ ap (λ n. drop n xs) (sym parts)

  -- once they were written
  module _ (ys : List Candidate) (same : length ys ≡ length part) where
    abbrev new : List Candidate
    new = put_mid start (end - start) l ys

    back : drop end new ≡ drop end l
    back = drop-put_mid start (end - start) l ys end (omega (arith, parts)) (omega (arith, long, before, within)) (same ∙ part_long)

    pub new_rest : drop end new ≡ drop end xs
    new_rest = back ∙ end_rest

    pub new_all : (f : Candidate → Candidate) → l ≡ map f (take start xs) ++ drop start xs → ys ≡ map f part → new ≡ map f (take end xs) ++ drop end xs
    new_all f so_far is =
        let front : take end new ≡ take start l ++ ys = take-put_mid start (end - start) l ys end (omega (arith, same, part_long, before)) (omega (arith, long, before, within)) in
        let done : take start l ≡ map f (take start xs) =
        ap (take start) so_far ∙ take_at (map f (take start xs)) (drop start xs) start (length-map (take start xs) f ∙ length-take-le start xs (omega (arith, before, within))) in
        sym (take-append-drop end new)
        ∙ ap (λ (z : List Candidate). z ++ drop end new) (
        front ∙ ap (λ (z : List Candidate). z ++ ys) done ∙ ap (λ (z : List Candidate). map f (take start xs) ++ z) (is ∙ ap (map f) part_is)
        ∙ sym (map-append f (take start xs) (take (end - start) (drop start xs))) ∙ ap (map f) (sym joined)
        )
        ∙ ap (λ (z : List Candidate). map f (take end xs) ++ z) new_rest

-- a candidate that stands as it stood
pub unchanged : (xs l : List Candidate) (i : ℕ) (d : Candidate) → drop i l ≡ drop i xs → get_or l i d ≡ get_or xs i d
unchanged xs l i d rest =
    let e : i ≡ i + 0 = omega arith in
    ap (λ n. get_or l n d) e ∙ sym (get_or-drop i l 0 d) ∙ ap (λ (z : List Candidate). get_or z 0 d) rest ∙ get_or-drop i xs 0 d ∙ ap (λ n. get_or xs n d) (sym e)

-- those behind it stay
pub rest_stays : (xs l : List Candidate) (i : ℕ) (c : Candidate) → drop i l ≡ drop i xs → drop (i + 1) (set l i c) ≡ drop (i + 1) xs
rest_stays xs l i c rest = drop-set-lt (i + 1) l i c (omega arith) ∙ sym (drop-drop 1 i l) ∙ ap (drop 1) rest ∙ drop-drop 1 i xs
