-- Updates that are decided one after another.
use Rattle.std.proofs.Common.{◌≡◌, ℕ, suc, zero, ◌+◌, ◌≤◌, ◌++◌, ◌∷◌, Bool, true, false, List, [], take, length, refl, arith, ap, sym, ◌∙◌, subst, append_assoc, append-nil, length-append}
use Rattle.std.specs.Prelude.{if◌then◌else◌, slice_index}
use Rattle.std.proofs.Math.Dec.{ltb}
use Rattle.std.proofs.lemmas.Bool.{lt-ltb, ltb-true}
use Rattle.act_grid.specs.declared.Point.{Point}
use Rattle.act_grid.specs.declared.Settings.{Settings}
use Rattle.act_super.specs.declared.entry.Entry.{Entry}
use Rattle.act_super.specs.declared.entry.State.{State}
use Rattle.act_super.specs.Histories.{IsLegalFrom, state_from}
use Rattle.act_super.specs.States.{after}
use Rattle.act_rows.specs.Versions.{newest}
use Rattle.act_rows.specs.History.{History}
use Rattle.act_index.specs.Codes.{code, codes, updates_in}
use Rattle.act_index.specs.Whole.{Writing}
use Rattle.act_super.specs.declared.entry.Entry.TheVariants as entry
use Rattle.act_script.specs.declared.segment.Update.{Update}
use Rattle.act_script.specs.History.{accepted_from, decided, entry_of, is_made, made_by, updates_of}
use Rattle.act_script.specs.Turns.Turn.{Asks}
use Rattle.act_join.specs.Working.{AreDecided, IsAlong, IsDone, Makes, Steps, asks_of, counted, counts_from, left_from}
use Rattle.act_join.specs.declared.decide.Decided.{Decided}
use Rattle.act_join.specs.declared.decide.Stepped.TheVariants as stepped
use Rattle.act_join.specs.declared.updating.Updating.{Updating}
use Rattle.act_join.proofs.HeldFacts.{state_more, updates_add}

-- ---- entries in two parts

pub codes_both : (k : Settings) (xs ys : List Entry) → codes k (xs ++ ys) ≡ codes k xs ++ codes k ys
codes_both k [] ys = refl
codes_both k (x ∷ xs) ys = ap (λ z. code k x ∷ z) (codes_both k xs ys)

pub legal_both : (k : Settings) (state : State) (xs ys : List Entry) → IsLegalFrom k state xs → IsLegalFrom k (state_from k state xs) ys → IsLegalFrom k state (xs ++ ys)
legal_both k state [] ys a b = b
legal_both k state (x ∷ xs) ys a b = (a.0, legal_both k (after k state x) xs ys a.1 b)

pub makes_none : (w : Writing) → Makes w w []
makes_none w = record { history = sym (append-nil w.desk.history); settings = refl; state = refl; table = refl; legal = tt }

pub makes_more : (w m w' : Writing) (xs ys : List Entry) → Makes w m xs → Makes m w' ys → Makes w w' (xs ++ ys)
makes_more w m w' xs ys a b = record {
  history = b.history ∙ ((λ i. a.history i ++ codes (a.settings i) ys) ∙ (append_assoc w.desk.history (codes w.settings xs) (codes w.settings ys) ∙ ap (λ z. w.desk.history ++ z) (sym (codes_both w.settings xs ys))));
  settings = b.settings ∙ a.settings;
  state = b.state ∙ ((λ i. state_from (a.settings i) (a.state i) ys) ∙ sym (state_more w.settings w.state xs ys));
  table = b.table ∙ a.table;
  legal = legal_both w.settings w.state xs ys a.legal (subst (λ (z : Settings × State). IsLegalFrom z.0 z.1 ys) (λ i. (a.settings i, a.state i)) b.legal);
}

updates_both : (h g : History) → updates_in (h ++ g) ≡ updates_in h + updates_in g
updates_both [] g = let e : updates_in g ≡ 0 + updates_in g = omega arith in e
updates_both (x ∷ h) g = let r = updates_both h g in omega arith

codes_updates : (k : Settings) (es : List Entry) → updates_in (codes k es) ≡ updates_of es
codes_updates k [] = refl
codes_updates k (entry.Add key shape ∷ es) = let h = codes_updates k es in omega arith
codes_updates k (entry.DropZone key ∷ es) = let h = codes_updates k es in omega arith
codes_updates k (entry.Replace key shape ∷ es) = let h = codes_updates k es in omega arith
codes_updates k (entry.Train cells ∷ es) = let h = codes_updates k es in omega arith

-- how many updates there are then, and how many entries
pub makes_updates : (w w' : Writing) (es : List Entry) → Makes w w' es → updates_in w'.desk.history ≡ updates_in w.desk.history + updates_of es
makes_updates w w' es m =
    ap updates_in m.history ∙ updates_both w.desk.history (codes w.settings es) ∙ ap (λ n. updates_in w.desk.history + n) (codes_updates w.settings es)

pub length-codes : (k : Settings) (es : List Entry) → length (codes k es) ≡ length es
length-codes k [] = refl
length-codes k (x ∷ xs) = ap suc (length-codes k xs)

pub makes_version : (w w' : Writing) (es : List Entry) → Makes w w' es → newest w'.desk ≡ newest w.desk + length es
makes_version w w' es m =
    ap length m.history ∙ length-append w.desk.history (codes w.settings es) ∙ ap (λ n. length w.desk.history + n) (length-codes w.settings es)

-- ---- counts

pub counts_more : (n : ℕ) (xs : List Entry) (e : Entry) → counts_from n (xs ++ e ∷ []) ≡ counts_from n xs ++ (n + updates_of (xs ++ e ∷ [])) ∷ []
counts_more n [] e = refl
counts_more n (x ∷ xs) e =
    let both = updates_add (x ∷ []) (xs ++ e ∷ []) in
    let same : (n + updates_of (x ∷ [])) + updates_of (xs ++ e ∷ []) ≡ n + updates_of (x ∷ xs ++ e ∷ []) = omega arith in
    ap (λ z. n ∷ z) (counts_more (n + updates_of (x ∷ [])) xs e) ∙ ap (λ z. n ∷ counts_from (n + updates_of (x ∷ [])) xs ++ z ∷ []) same

pub length-counts : (n : ℕ) (xs : List Entry) → length (counts_from n xs) ≡ suc (length xs)
length-counts n [] = refl
length-counts n (x ∷ xs) = ap suc (length-counts (n + updates_of (x ∷ [])) xs)

pub count_at : (n : ℕ) (xs : List Entry) (k : ℕ) → k ≤ length xs → slice_index (counts_from n xs) k ≡ n + updates_of (take k xs)
count_at n [] zero h = let e : n ≡ n + 0 = omega arith in e
count_at n [] (suc k) h = absurd (omega (arith, h))
count_at n (x ∷ xs) zero h = let e : n ≡ n + 0 = omega arith in e
count_at n (x ∷ xs) (suc k) h =
    let both = updates_add (x ∷ []) (take k xs) in
    let same : (n + updates_of (x ∷ [])) + updates_of (take k xs) ≡ n + updates_of (x ∷ take k xs) = omega arith in
    count_at (n + updates_of (x ∷ [])) xs k (omega (arith, h)) ∙ same

-- one entry at most is counted
abbrev one_if : Bool → Entry → List Entry
one_if b e = if b then e ∷ [] else []

counted_if : (b : Bool) (e : Entry) (n before now updates : ℕ) (es : List Entry) → now ≡ before + length (one_if b e) → updates ≡ n + updates_of (es ++ one_if b e)
    → counts_from n es ++ counted before now updates ≡ counts_from n (es ++ one_if b e)
counted_if true e n before now updates es long is =
    let more : ltb before now ≡ true = lt-ltb before now (omega (arith, long)) in
    rw more (ap (λ z. counts_from n es ++ z ∷ []) is ∙ sym (counts_more n es e))
counted_if false e n before now updates es long is =
    let same : now ≡ before = omega (arith, long) in
    rw (same, not_more before) (append-nil (counts_from n es) ∙ ap (counts_from n) (sym (append-nil es)))
  where
    not_more : (m : ℕ) → ltb m m ≡ false
    not_more m = go (ltb m m) refl
      where
        go : (b : Bool) → ltb m m ≡ b → ltb m m ≡ false
        go true is = absurd (let lt = ltb-true m m is in omega arith)
        go false is = is

-- ---- one update more is decided

pub decided_is : (settings : Settings) (state : State) (e : Entry) → state_from settings state (one_if (is_made settings state e) e) ≡ decided settings state e
decided_is settings state e = go (is_made settings state e)
  where
    go : (b : Bool) → state_from settings state (one_if b e) ≡ (if b then after settings state e else state)
    go true = refl
    go false = refl

pub along_done : (start : Writing) (points : List Point) (updates : List Update) (now now' : Updating) (asked : Update) (says : Decided)
    → IsAlong start points updates now → now.waiting.items ≡ asked ∷ now'.waiting.items
    → Steps now.writer now'.writer now.points.items now'.points.items asked (stepped.Done says)
    → now'.decided.items ≡ now.decided.items ++ says ∷ []
    → now'.counts.items ≡ now.counts.items ++ counted (newest now.writer.desk) (newest now'.writer.desk) (updates_in now'.writer.desk.history)
    → IsAlong start points updates now'
along_done start points updates now now' asked says along next s told counts =
    let w = now.writer in
    let w' = now'.writer in
    let e = entry_of w.settings w.state now.points.items asked in
    let made : List Entry = made_by w.settings w.state (Asks now.points.items asked) in
    let both = makes_more start w w' along.entries made along.makes s.2 in
    let rest = now'.waiting.items in
    let left = now'.points.items in
    let state : w'.state ≡ decided w.settings w.state e = s.2.state ∙ decided_is w.settings w.state e in
    record {
      entries = along.entries ++ made;
      makes = both;
      rest = append_assoc along.entries made (accepted_from w'.settings w'.state (asks_of left rest))
          ∙ ap (λ z. along.entries ++ z) ((λ i. made ++ accepted_from (s.2.settings i) (state i) (asks_of (s.3 i) rest))
          ∙ (λ i. accepted_from w.settings w.state (asks_of now.points.items (sym next i))))
          ∙ along.rest;
      left = (λ i. left_from (s.3 i) rest) ∙ (λ i. left_from now.points.items (sym next i)) ∙ along.left;
      told = λ more are.
          subst (AreDecided start.settings start.state points updates) (sym (ap (λ z. z ++ more) told ∙ append_assoc now.decided.items (says ∷ []) more))
          (along.told (says ∷ more) (subst (λ (z : List Update). AreDecided w.settings w.state now.points.items z (says ∷ more)) (sym next)
          (s.0, s.1, subst (λ (z : Settings × State × List Point). AreDecided z.0 z.1 z.2 rest more) (λ i. (s.2.settings i, state i, s.3 i)) are)));
      counts = counts ∙ ap (λ z. z ++ counted (newest w.desk) (newest w'.desk) (updates_in w'.desk.history)) along.counts
          ∙ counted_if (is_made w.settings w.state e) e (updates_in start.desk.history) (newest w.desk) (newest w'.desk) (updates_in w'.desk.history) along.entries
          (makes_version w w' made s.2) (makes_updates start w' (along.entries ++ made) both);
    }

-- nothing is decided, where the update that is tried is held
pub along_held : (start : Writing) (points : List Point) (updates : List Update) (now now' : Updating) (asked back : Update)
    → IsAlong start points updates now → Steps now.writer now'.writer now.points.items now'.points.items asked (stepped.Held back)
    → now'.waiting.items ≡ now.waiting.items → now'.decided.items ≡ now.decided.items → now'.counts.items ≡ now.counts.items → IsAlong start points updates now'
along_held start points updates now now' asked back along s waiting told counts =
    let w = now.writer in
    let w' = now'.writer in
    let m = s.1 in
    let both = makes_more start w w' along.entries [] along.makes m in
    record {
      entries = along.entries;
      makes = subst (Makes start w') (append-nil along.entries) both;
      rest = (λ i. along.entries ++ accepted_from (m.settings i) (m.state i) (asks_of (s.2 i) (waiting i))) ∙ along.rest;
      left = (λ i. left_from (s.2 i) (waiting i)) ∙ along.left;
      told = λ more are.
          subst (λ (z : List Decided). AreDecided start.settings start.state points updates (z ++ more)) (sym told)
          (along.told more (subst (λ (z : Settings × State × List Point × List Update). AreDecided z.0 z.1 z.2 z.3 more) (λ i. (m.settings i, m.state i, s.2 i, waiting i)) are));
      counts = counts ∙ along.counts;
    }

-- the same, where the writer differs in nothing that is spoken of
pub along_moved : (start : Writing) (points : List Point) (updates : List Update) (now now' : Updating)
    → IsAlong start points updates now → Makes now.writer now'.writer [] → now'.points.items ≡ now.points.items
    → now'.waiting.items ≡ now.waiting.items → now'.decided.items ≡ now.decided.items → now'.counts.items ≡ now.counts.items → IsAlong start points updates now'
along_moved start points updates now now' along m left waiting told counts =
    let w' = now'.writer in
    let both = makes_more start now.writer w' along.entries [] along.makes m in
    record {
      entries = along.entries;
      makes = subst (Makes start w') (append-nil along.entries) both;
      rest = (λ i. along.entries ++ accepted_from (m.settings i) (m.state i) (asks_of (left i) (waiting i))) ∙ along.rest;
      left = (λ i. left_from (left i) (waiting i)) ∙ along.left;
      told = λ more are.
          subst (λ (z : List Decided). AreDecided start.settings start.state points updates (z ++ more)) (sym told)
          (along.told more (subst (λ (z : Settings × State × List Point × List Update). AreDecided z.0 z.1 z.2 z.3 more) (λ i. (m.settings i, m.state i, left i, waiting i)) are));
      counts = counts ∙ along.counts;
    }

-- before the first
pub along_start : (start : Writing) (points : List Point) (updates : List Update) (now : Updating) → Makes start now.writer [] → now.points.items ≡ points
    → now.waiting.items ≡ updates → now.decided.items ≡ [] → now.counts.items ≡ updates_in start.desk.history ∷ [] → IsAlong start points updates now
along_start start points updates now m left waiting told counts = record {
  entries = [];
  makes = m;
  rest = λ i. accepted_from (m.settings i) (m.state i) (asks_of (left i) (waiting i));
  left = λ i. left_from (left i) (waiting i);
  told = λ more are.
      subst (λ (z : List Decided). AreDecided start.settings start.state points updates (z ++ more)) (sym told)
      (subst (λ (z : Settings × State × List Point × List Update). AreDecided z.0 z.1 z.2 z.3 more) (λ i. (m.settings i, m.state i, left i, waiting i)) are);
  counts = counts;
}

-- after the last
pub all_done : (start : Writing) (points : List Point) (updates : List Update) (now : Updating) → IsAlong start points updates now → now.waiting.items ≡ []
    → IsDone start points updates now
all_done start points updates now along none =
    let w = now.writer in
    let all : along.entries ≡ accepted_from start.settings start.state (asks_of points updates) =
    sym (append-nil along.entries) ∙ (λ i. along.entries ++ accepted_from w.settings w.state (asks_of now.points.items (sym none i))) ∙ along.rest in
    record {
      makes = subst (Makes start w) all along.makes;
      left = (λ i. left_from now.points.items (sym none i)) ∙ along.left;
      told = subst (AreDecided start.settings start.state points updates) (append-nil now.decided.items)
          (along.told [] (subst (λ (z : List Update). AreDecided w.settings w.state now.points.items z []) (sym none) tt));
      counts = along.counts ∙ ap (counts_from (updates_in start.desk.history)) all;
    }
