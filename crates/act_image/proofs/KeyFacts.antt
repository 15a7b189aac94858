-- The cells that are trained in one of two states alone, by keys.
use Rattle.std.proofs.Common.{◌≡◌, ℕ, ◌+◌, ◌<◌, ◌≤◌, ◌⊎◌, inl, inr, Bool, true, false, if◌then◌else◌, cond, refl, sym, ap, ◌∙◌, subst, arith, append-nil, append_assoc, List, [], ◌∷◌, ◌++◌, ◌&&◌, ◌||◌, count_by, drop, get_or, int_le, length, length-append, map, nat_lt, take, IsPermutation}
use Rattle.std.proofs.lemmas.Bool.Decides.{nat_tests}
use Rattle.std.proofs.lemmas.Int.{ints}
use Rattle.std.proofs.lemmas.List.{get_or-map, length-map, nil_from_length, take-append-drop, take-append-le, take_all}
use Rattle.std.proofs.lemmas.List.Folds.{list_any-append}
use Rattle.std.proofs.lemmas.List.Sums.{length-filter, sum_by-cons}
use Rattle.act_grid.specs.declared.Point.{Point}
use Rattle.act_grid.specs.declared.Settings.{Settings}
use Rattle.act_grid.specs.declared.hull.Hull.{Hull}
use Rattle.act_grid.specs.Hull.{IsIn}
use Rattle.act_grid.specs.Cell.{Address, IsCell, hull_of, id_of}
use Rattle.act_super.specs.declared.entry.Entry.{Entry}
use Rattle.act_super.specs.declared.entry.Entry.TheVariants as entry
use Rattle.act_super.specs.declared.entry.State.{State}
use Rattle.act_super.specs.declared.entry.Zone.{Zone}
use Rattle.act_super.specs.Choices.{StandFor, spans}
use Rattle.act_super.specs.Grounds.{is_among, same_cell}
use Rattle.act_super.specs.States.{after, changed, trained_after}
use Rattle.act_super.specs.Training.{fit, fit_after, fits, holds}
use Rattle.act_super.proofs.SpanFacts.{stand_more, stand_moved}
use Rattle.act_image.specs.Turned.{KeysTell}
use Rattle.act_image.proofs.FillFacts.{same_is}

-- ---- one list begins with the other
module _ (settings : Settings) (zones : List Zone) where
  taken_more : (taken cells : List Address) → (rest : List Address) × (taken ++ cells ≡ fit_after settings zones taken cells ++ rest)
  taken_more taken [] = ([], refl)
  taken_more taken (c ∷ cells) = by (fits settings zones (taken ++ (c ∷ []))) (taken_more (taken ++ (c ∷ [])) cells)
    where
      by : (b : Bool) → (rest : List Address) × ((taken ++ (c ∷ [])) ++ cells ≡ fit_after settings zones (taken ++ (c ∷ [])) cells ++ rest)
          → (rest : List Address) × (taken ++ (c ∷ cells) ≡ (if b then fit_after settings zones (taken ++ (c ∷ [])) cells else taken) ++ rest)
      by true t = (t.0, sym (append_assoc taken (c ∷ []) cells) ∙ t.1)
      by false t = (c ∷ cells, refl)

  fit_begins : (cells : List Address) → (rest : List Address) × (cells ≡ fit settings zones cells ++ rest)
  unfolding fit
  fit_begins cells = taken_more [] cells

abbrev Begins : List Address → List Address → Type 0
Begins xs ys = (rest : List Address) × (ys ≡ xs ++ rest)

one_begins : (settings : Settings) (old : State) (e : Entry) → Begins old.trained (trained_after settings old e) ⊎ Begins (trained_after settings old e) old.trained
one_begins settings old (entry.Add key shape) = inr (fit_begins settings (changed old.zones (entry.Add key shape)) old.trained)
one_begins settings old (entry.DropZone key) = inr (fit_begins settings (changed old.zones (entry.DropZone key)) old.trained)
one_begins settings old (entry.Replace key shape) = inr (fit_begins settings (changed old.zones (entry.Replace key shape)) old.trained)
one_begins settings old (entry.Train cells) = inl (cells, refl)

behind : (xs ys : List Address) → Begins xs ys → ys ≡ xs ++ drop (length xs) ys
behind xs ys h =
    let front : take (length xs) ys ≡ xs = ap (take (length xs)) h.1 ∙ take-append-le (length xs) xs h.0 (omega arith) ∙ take_all (length xs) xs (omega arith) in
    sym (take-append-drop (length xs) ys) ∙ ap (λ r. r ++ drop (length xs) ys) front

-- what the longer list has behind the shorter one
abbrev pub rest_in : List Address → List Address → List Address
rest_in xs ys = cond (nat_lt (length xs) (length ys)) (drop (length xs) ys) (drop (length ys) xs)

rest_is : (xs ys : List Address) → Begins xs ys ⊎ Begins ys xs → (ys ≡ xs ++ rest_in xs ys) ⊎ (xs ≡ ys ++ rest_in xs ys)
rest_is xs ys h = by (nat_lt (length xs) (length ys)) refl h
  where
    less : (a b : ℕ) → nat_lt a b ≡ true → a < b
    less a b h = grind (arith, nat_tests)

    not_less : (a b : ℕ) → nat_lt a b ≡ false → b ≤ a
    not_less a b h = grind (arith, nat_tests)

    by : (b : Bool) → nat_lt (length xs) (length ys) ≡ b → Begins xs ys ⊎ Begins ys xs
        → (ys ≡ xs ++ cond b (drop (length xs) ys) (drop (length ys) xs)) ⊎ (xs ≡ ys ++ cond b (drop (length xs) ys) (drop (length ys) xs))
    by true e (inl begins) = inl (behind xs ys begins)
    by true e (inr begins) = absurd (omega (arith, less (length xs) (length ys) e, ap (λ r. length r) begins.1, length-append ys begins.0))
    by false e (inl begins) =
        let none : begins.0 ≡ [] = nil_from_length begins.0 (omega (arith, not_less (length xs) (length ys) e, ap (λ r. length r) begins.1, length-append xs begins.0)) in
        let same : ys ≡ xs = begins.1 ∙ ap (λ r. xs ++ r) none ∙ append-nil xs in
        inr (behind ys xs ([], sym same ∙ sym (append-nil ys)))
    by false e (inr begins) = inr (behind ys xs begins)

or_false : (b : Bool) → (b || false) ≡ b
or_false true = refl
or_false false = refl

alike : (xs ys rest : List Address) (d : Address) → (ys ≡ xs ++ rest) ⊎ (xs ≡ ys ++ rest) → is_among rest d ≡ false → is_among xs d ≡ is_among ys d
alike xs ys rest d h none = by h
  where
    longer : (a b : List Address) → b ≡ a ++ rest → is_among b d ≡ is_among a d
    longer a b e = ap (λ r. is_among r d) e ∙ list_any-append (λ x. same_cell x d) a rest ∙ ap (λ k. is_among a d || k) none ∙ or_false (is_among a d)

    by : (ys ≡ xs ++ rest) ⊎ (xs ≡ ys ++ rest) → is_among xs d ≡ is_among ys d
    by (inl e) = sym (longer xs ys e)
    by (inr e) = longer ys xs e

-- ---- keys
abbrev pub first_points : List Address → List Point
first_points cells = map (λ c. (hull_of c).lo) cells

in_hull : (h : Hull) (p : Point) → IsIn h p → ((int_le h.lo.x p.x && int_le p.x h.hi.x) && (int_le h.lo.y p.y && int_le p.y h.hi.y)) ≡ true
in_hull h p i = grind (arith, ints)

none_held : (cells : List Address) (c d : Address) → count_by (holds c) (first_points cells) ≡ 0 → IsIn (hull_of c) (hull_of d).lo → is_among cells d ≡ false
none_held [] c d none inside = refl
none_held (x ∷ cells) c d none inside =
    let parts = sum_by-cons (λ (p : Point). cond (holds c p) 1 0) (hull_of x).lo (first_points cells) in
    let rest : count_by (holds c) (first_points cells) ≡ 0 = omega (arith, parts, none) in
    let here : ◌≡◌ {A = ℕ} (cond (holds c (hull_of x).lo) 1 0) 0 = omega (arith, parts, none) in
    by (same_cell x d) refl here (none_held cells c d rest inside)
  where
    by : (b : Bool) → same_cell x d ≡ b → ◌≡◌ {A = ℕ} (cond (holds c (hull_of x).lo) 1 0) 0 → is_among cells d ≡ false → (b || is_among cells d) ≡ false
    by true e here rest =
        let held : holds c (hull_of x).lo ≡ true = ap (λ (a : Address). holds c (hull_of a).lo) (same_is x d e) ∙ in_hull (hull_of c) (hull_of d).lo inside in
        absurd (never (holds c (hull_of x).lo) held here)
      where
        never : (b : Bool) → b ≡ true → ◌≡◌ {A = ℕ} (cond b 1 0) 0 → ⊥
        never true e h = omega (arith, h)
        never false e h = cc
    by false e here rest = rest

pub keys_tell : (settings : Settings) (old : State) (e : Entry) (before later rest : List Address) (ids keys : List ℕ) → before ≡ old.trained → later ≡ trained_after settings old e → rest ≡ rest_in before later
    → StandFor ids (first_points rest) → IsPermutation ids keys → KeysTell old (after settings old e) keys
keys_tell settings old e before later rest ids keys b l r stand moved = λ c cell none d is_cell inside. (
    let count : count_by (holds c) (first_points rest) ≡ 0 = sym ((stand_moved ids keys (first_points rest) moved stand).counts c cell) ∙ sym (length-filter (spans c) keys) ∙ ap (λ ks. length ks) none in
    let is : rest ≡ rest_in old.trained (trained_after settings old e) = r ∙ (λ i. rest_in (b i) (l i)) in
    alike old.trained (trained_after settings old e) (rest_in old.trained (trained_after settings old e)) d (rest_is old.trained (trained_after settings old e) (one_begins settings old e))
    (ap (λ cells. is_among cells d) (sym is) ∙ none_held rest c d count inside))

pub one_more : (cells : List Address) (ids : List ℕ) (i key : ℕ) (c d : Address) → i < length cells → c ≡ get_or cells i c → StandFor ids (take i (first_points cells))
    → IsCell d → d.level ≡ 30 → IsIn (hull_of d) (hull_of c).lo → key ≡ id_of d → StandFor (ids ++ key ∷ []) (take (i + 1) (first_points cells))
one_more cells ids i key c d low is stand cell level inside k =
    let point : get_or (first_points cells) i (hull_of c).lo ≡ (hull_of c).lo = get_or-map (λ (a : Address). (hull_of a).lo) cells i c (hull_of c).lo low ∙ ap (λ (a : Address). (hull_of a).lo) (sym is) in
    stand_more ids (first_points cells) i key d (hull_of c).lo (omega (arith, low, length-map cells (λ (a : Address). (hull_of a).lo))) stand cell level
    (subst (λ p. IsIn (hull_of d) p) (sym point) inside) k

pub all_ids : (cells : List Address) (ids : List ℕ) (i : ℕ) → length cells ≤ i → StandFor ids (take i (first_points cells)) → StandFor ids (first_points cells)
all_ids cells ids i high stand = subst (λ ps. StandFor ids ps) (take_all i (first_points cells) (omega (arith, high, length-map cells (λ (a : Address). (hull_of a).lo)))) stand
