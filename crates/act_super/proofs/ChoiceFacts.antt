-- What the choices under a cell depend on, and that they are the leaves of the definitions.
use Rattle.std.proofs.Common.{◌≡◌, ◌⊎◌, inl, inr, ℕ, zero, suc, ◌+◌, ◌-◌, ◌*◌, ◌<◌, ◌≤◌, refl, sym, ap, ◌∙◌, arith, zero-mul, Bool, true, false, cond, ◌&&◌, nat_le, nat_lt, List, [], ◌∷◌, ◌++◌, length, map, All, count_by, filter}
use Rattle.std.proofs.lemmas.Bool.Decides.{nat_tests}
use Rattle.std.proofs.lemmas.List.{map-append}
use Rattle.std.proofs.lemmas.List.Elements.{All-append, All-cons, All-nil, filter-append}
use Rattle.std.proofs.lemmas.List.Sums.{length-filter, sum_by-cons}
use Rattle.act_grid.specs.declared.Point.{Point}
use Rattle.act_grid.specs.Cell.{Address, IsCell, child_of, root_cell}
use Rattle.act_geom.specs.declared.class.Class.{Class}
use Rattle.act_geom.specs.declared.class.Class.TheVariants.{Inside, Outside, Mixed}
use Rattle.act_cover.proofs.Placed.{child_cell}
use Rattle.act_cover.specs.Covering.{is_on}
use Rattle.act_super.specs.declared.chosen.Choice.{Choice}
use Rattle.act_super.specs.Choices.{StandFor, choice_at, choice_of, choices_for, choices_of_four, choices_under, choices_within, cost_by, spans}
use Rattle.act_super.specs.Grounds.{Ground, is_mixed, is_split, on, some_asks}
use Rattle.act_super.specs.Training.{cost_of}
use Rattle.act_super.specs.Trees.{leaves_of, leaves_within}
use Rattle.act_super.proofs.SpanFacts.{span_goes_down}
use Rattle.act_super.proofs.TopFacts.{root_is_cell}
use Rattle.act_super.proofs.TreeFacts.{GoesDown, asks_on, filter_twice, on_again, on_below}
use Rattle.act_super.proofs.UnderFacts.{split_low}

cases : (b : Bool) → (b ≡ true) ⊎ (b ≡ false)
cases true = inl refl
cases false = inr refl

-- 1 where it passes
abbrev one_if : Bool → ℕ
one_if b = cond b 1 0

-- the items on a cell have all those that are Mixed on it
mixed_on : {X : Type 0} (g : Ground X) (items : List X) (c : Address) → count_by (λ x. is_mixed (g.class x c)) (on g items c) ≡ count_by (λ x. is_mixed (g.class x c)) items
mixed_on g [] c = refl
mixed_on g (x ∷ items) c = step (g.class x c) refl (mixed_on g items c)
  where
    step : (k : Class) → g.class x c ≡ k → count_by (λ x. is_mixed (g.class x c)) (on g items c) ≡ count_by (λ x. is_mixed (g.class x c)) items
        → count_by (λ x. is_mixed (g.class x c)) (cond (is_on k) (x ∷ on g items c) (on g items c)) ≡ count_by (λ x. is_mixed (g.class x c)) (x ∷ items)
    step Inside e h =
        omega (arith, sum_by-cons (λ x. one_if (is_mixed (g.class x c))) x items, sum_by-cons (λ x. one_if (is_mixed (g.class x c))) x (on g items c), h)
    step Outside e h =
        omega (arith, sum_by-cons (λ x. one_if (is_mixed (g.class x c))) x items, h, ap (λ k. one_if (is_mixed k)) e)
    step Mixed e h =
        omega (arith, sum_by-cons (λ x. one_if (is_mixed (g.class x c))) x items, sum_by-cons (λ x. one_if (is_mixed (g.class x c))) x (on g items c), h)

-- the items on a cell and the keys in its span tell its cost
cost_here : {X : Type 0} (g : Ground X) (items others : List X) (keys more : List ℕ) (c : Address)
    → on g items c ≡ on g others c → filter (spans c) keys ≡ filter (spans c) more → cost_by g items keys c ≡ cost_by g others more c
cost_here g items others keys more c e f =
    let points : count_by (spans c) keys ≡ count_by (spans c) more =
    sym (length-filter (spans c) keys) ∙ ap (λ r. length r) f ∙ length-filter (spans c) more in
    let mixed : count_by (λ x. is_mixed (g.class x c)) items ≡ count_by (λ x. is_mixed (g.class x c)) others =
    sym (mixed_on g items c) ∙ ap (λ r. count_by (λ x. is_mixed (g.class x c)) r) e ∙ mixed_on g others c in
    ap (λ n. n * count_by (λ x. is_mixed (g.class x c)) items) points ∙ ap (λ n. count_by (spans c) more * n) mixed

module _ {X : Type 0} (g : Ground X) (down : GoesDown g) (threshold : ℕ) where
  -- they tell all choices under it
  same_choices : (n : ℕ) (items others : List X) (keys more : List ℕ) (c : Address) → IsCell c → c.level + n ≤ 30
      → on g items c ≡ on g others c → filter (spans c) keys ≡ filter (spans c) more
      → choices_within g n items keys threshold c ≡ choices_within g n others more threshold c
  unfolding choices_within
  same_choices zero items others keys more c cell low e f = ap (choice_of c threshold) (cost_here g items others keys more c e f)
  same_choices (suc n) items others keys more c cell low e f =
      let here : c.level < 30 = omega arith in
      let below : (q : ℕ) → q < 4 → on g items (child_of c q) ≡ on g others (child_of c q) =
      λ q four. sym (on_below g down items c q cell here four) ∙ ap (λ r. on g r (child_of c q)) e ∙ on_below g down others c q cell here four in
      let under : (q : ℕ) → q < 4 → filter (spans (child_of c q)) keys ≡ filter (spans (child_of c q)) more =
      λ q four. sym (filter_twice (spans c) (spans (child_of c q)) keys (span_goes_down c q cell here four)) ∙ ap (λ r. filter (spans (child_of c q)) r) f
      ∙ filter_twice (spans c) (spans (child_of c q)) more (span_goes_down c q cell here four) in
      let sub : (q : ℕ) → q < 4 → choices_within g n items keys threshold (child_of c q) ≡ choices_within g n others more threshold (child_of c q) =
      λ q four. same_choices n items others keys more (child_of c q) (child_cell c q cell here four) (omega arith) (below q four) (under q four) in
      let test : some_asks g c items ≡ some_asks g c others =
      sym (asks_on g c items) ∙ ap (some_asks g c) e ∙ asks_on g c others in
      let leaf : choice_at g items keys threshold c ≡ choice_at g others more threshold c = ap (choice_of c threshold) (cost_here g items others keys more c e f) in
      rw (test, sub 0 (omega arith), sub 1 (omega arith), sub 2 (omega arith), sub 3 (omega arith), leaf) refl

  filter_again : (c : Address) (keys : List ℕ) → filter (spans c) (filter (spans c) keys) ≡ filter (spans c) keys
  filter_again c keys = filter_twice (spans c) (spans c) keys (λ k e. e)

  -- a descent may carry along the items on a cell and the keys in its span
  pub narrow_choices : (items : List X) (keys : List ℕ) (c : Address) → IsCell c → c.level ≤ 28
      → choices_under g (on g items c) (filter (spans c) keys) threshold c ≡ choices_under g items keys threshold c
  unfolding choices_under
  narrow_choices items keys c cell low =
      same_choices (28 - c.level) (on g items c) items (filter (spans c) keys) keys c cell (omega arith) (on_again g items c) (filter_again c keys)

  split_asks : (items : List X) (c : Address) → is_split g items c ≡ true → some_asks g c items ≡ true
  split_asks items c e = second (nat_lt c.level 28) (some_asks g c items) e
    where
      second : (a b : Bool) → (a && b) ≡ true → b ≡ true
      second true b e = e
      second false b e = absurd (cc)

  split_four : (items : List X) (keys : List ℕ) (c : Address) → is_split g items c ≡ true → choices_under g items keys threshold c ≡ choices_of_four g items keys threshold c
  unfolding choices_under choices_within
  split_four items keys c e =
      let low : c.level < 28 = split_low g items c e in
      let n = 27 - c.level in
      let fuel : 28 - c.level ≡ suc n = omega arith in
      let less : 28 - (c.level + 1) ≡ n = omega arith in
      rw (fuel, less, split_asks items c e) refl

  -- the choices of a split cell are those of its children, by what is on the cell
  pub split_choices : (items : List X) (keys : List ℕ) (c : Address) → IsCell c → is_split g items c ≡ true
      → choices_of_four g (on g items c) (filter (spans c) keys) threshold c ≡ choices_under g items keys threshold c
  split_choices items keys c cell e =
      let low : c.level < 28 = split_low g items c e in
      let test : is_split g (on g items c) c ≡ true = ap (λ b. nat_lt c.level 28 && b) (asks_on g c items) ∙ e in
      sym (split_four (on g items c) (filter (spans c) keys) c test) ∙ narrow_choices items keys c cell (omega arith)

  -- a cell that isn't split is a leaf
  pub leaf_choice : (items : List X) (keys : List ℕ) (c : Address) → is_split g items c ≡ false
      → choice_at g (on g items c) (filter (spans c) keys) threshold c ≡ choices_under g items keys threshold c
  unfolding choices_under choices_within
  leaf_choice items keys c e =
      ap (choice_of c threshold) (cost_here g (on g items c) items (filter (spans c) keys) keys c (on_again g items c) (filter_again c keys))
      ∙ sym (by_level (nat_lt c.level 28) refl)
    where
      at : (n : ℕ) → some_asks g c items ≡ false → choices_within g n items keys threshold c ≡ choice_at g items keys threshold c
      at zero h = refl
      at (suc n) h = rw h refl

      none : (n : ℕ) → nat_lt n 28 ≡ false → 28 - n ≡ 0
      none n h = grind (arith, nat_tests)

      second : (a b : Bool) → a ≡ true → (a && b) ≡ false → b ≡ false
      second a b h e = grind arith

      by_level : (b : Bool) → nat_lt c.level 28 ≡ b → choices_within g (28 - c.level) items keys threshold c ≡ choice_at g items keys threshold c
      by_level true h = at (28 - c.level) (second (nat_lt c.level 28) (some_asks g c items) h e)
      by_level false h = let zero : 28 - c.level ≡ 0 = none c.level h in rw zero refl

  pub leaf_by_length : (items : List X) (keys : List ℕ) (here : List X) (spanned : List ℕ) (c : Address) → here ≡ on g items c → spanned ≡ filter (spans c) keys → is_split g items c ≡ false
      → choice_of c threshold (length spanned * count_by (λ x. is_mixed (g.class x c)) here) ≡ choices_under g items keys threshold c
  leaf_by_length items keys here spanned c e f leaf =
      let points : length spanned ≡ count_by (spans c) (filter (spans c) keys) =
      ap (λ r. length r) (f ∙ sym (filter_again c keys)) ∙ length-filter (spans c) (filter (spans c) keys) in
      ap (λ n. choice_of c threshold (n * count_by (λ x. is_mixed (g.class x c)) here)) points
      ∙ ap (λ r. choice_of c threshold (count_by (spans c) (filter (spans c) keys) * count_by (λ x. is_mixed (g.class x c)) r)) e
      ∙ leaf_choice items keys c leaf

  -- no cell of level 28 is chosen
  pub too_deep : (items : List X) (keys : List ℕ) (c : Address) → 28 ≤ c.level → choices_under g items keys threshold c ≡ []
  unfolding choices_under choices_within
  too_deep items keys c deep =
      let zero : 28 - c.level ≡ 0 = omega arith in
      let high : nat_lt c.level 28 ≡ false = above c.level 28 deep in
      rw (zero, high) refl
    where
      above : (n m : ℕ) → m ≤ n → nat_lt n m ≡ false
      above n m h = grind (arith, nat_tests)

  no_leaf : (items : List X) (keys : List ℕ) (c : Address) → filter (spans c) keys ≡ [] → 1 ≤ threshold → choice_at g items keys threshold c ≡ []
  no_leaf items keys c e some =
      let none : count_by (spans c) keys ≡ 0 = sym (length-filter (spans c) keys) ∙ ap (λ r. length r) e in
      ap (choice_of c threshold) (ap (λ n. n * count_by (λ x. is_mixed (g.class x c)) items) none ∙ zero-mul (count_by (λ x. is_mixed (g.class x c)) items)) ∙ by (nat_le threshold 0) (nat_lt c.level 28) (low threshold some)
    where
      low : (t : ℕ) → 1 ≤ t → nat_le t 0 ≡ false
      low t h = grind (arith, nat_tests)

      by : (a b : Bool) → a ≡ false → ◌≡◌ {A = List Choice} (cond (b && a) (record { cost = 0; cell = c } ∷ []) []) []
      by a b e = rw e (last b)
        where
          last : (b : Bool) → ◌≡◌ {A = List Choice} (cond (b && false) (record { cost = 0; cell = c } ∷ []) []) []
          last true = refl
          last false = refl

  no_choices_within : 1 ≤ threshold → (n : ℕ) (items : List X) (keys : List ℕ) (c : Address) → IsCell c → c.level + n ≤ 30 → filter (spans c) keys ≡ []
      → choices_within g n items keys threshold c ≡ []
  unfolding choices_within
  no_choices_within some zero items keys c cell low e = no_leaf items keys c e some
  no_choices_within some (suc n) items keys c cell low e =
      let here : c.level < 30 = omega arith in
      let under : (q : ℕ) → q < 4 → filter (spans (child_of c q)) keys ≡ [] =
      λ q four. sym (filter_twice (spans c) (spans (child_of c q)) keys (span_goes_down c q cell here four)) ∙ ap (λ r. filter (spans (child_of c q)) r) e in
      let sub : (q : ℕ) → q < 4 → choices_within g n items keys threshold (child_of c q) ≡ [] =
      λ q four. no_choices_within some n items keys (child_of c q) (child_cell c q cell here four) (omega arith) (under q four) in
      let leaf : choice_at g items keys threshold c ≡ [] = no_leaf items keys c e some in
      rw (sub 0 (omega arith), sub 1 (omega arith), sub 2 (omega arith), sub 3 (omega arith), leaf) (either (some_asks g c items))
    where
      either : (b : Bool) → ◌≡◌ {A = List Choice} (cond b ([] ++ [] ++ [] ++ []) []) []
      either true = refl
      either false = refl

  -- where no key is in the span nothing is chosen
  pub no_choices : 1 ≤ threshold → (items : List X) (keys : List ℕ) (c : Address) → IsCell c → c.level ≤ 28 → filter (spans c) keys ≡ [] → choices_under g items keys threshold c ≡ []
  unfolding choices_under
  no_choices some items keys c cell low e = no_choices_within some (28 - c.level) items keys c cell (omega arith) e

-- the leaves are cells
pub leaves_are_cells : {X : Type 0} (g : Ground X) (n : ℕ) (items : List X) (c : Address) → IsCell c → c.level + n ≤ 30 → All IsCell (leaves_within g n items c)
unfolding leaves_within
leaves_are_cells g zero items c cell low = All-cons IsCell c [] cell (All-nil IsCell)
leaves_are_cells g (suc n) items c cell low =
    let here : c.level < 30 = omega arith in
    let sub : (q : ℕ) → q < 4 → All IsCell (leaves_within g n items (child_of c q)) =
    λ q four. leaves_are_cells g n items (child_of c q) (child_cell c q cell here four) (omega arith) in
    by _ _ (some_asks g c items)
    (All-append IsCell _ _ (All-append IsCell _ _ (All-append IsCell _ _ (sub 0 (omega arith)) (sub 1 (omega arith))) (sub 2 (omega arith))) (sub 3 (omega arith)))
    (All-cons IsCell c [] cell (All-nil IsCell))
  where
    by : (xs ys : List Address) (b : Bool) → All IsCell xs → All IsCell ys → All IsCell (cond b xs ys)
    by xs ys true x y = x
    by xs ys false x y = y

module _ {X : Type 0} (g : Ground X) (items : List X) (keys : List ℕ) (sample : List Point) (threshold : ℕ) (stand : StandFor keys sample) where
  abbrev with_cost : Address → Choice
  with_cost c = record { cost = cost_of g items sample c; cell = c }

  abbrev is_chosen : Address → Bool
  is_chosen c = nat_lt c.level 28 && nat_le threshold (cost_of g items sample c)

  cost_is : (c : Address) → IsCell c → cost_by g items keys c ≡ cost_of g items sample c
  unfolding cost_of
  cost_is c cell = ap (λ n. n * count_by (λ x. is_mixed (g.class x c)) items) (stand.counts c cell)

  one_is : (c : Address) → IsCell c → choice_at g items keys threshold c ≡ map with_cost (filter is_chosen (c ∷ []))
  one_is c cell = ap (choice_of c threshold) (cost_is c cell) ∙ by (is_chosen c)
    where
      by : (b : Bool) → cond b (with_cost c ∷ []) [] ≡ map with_cost (cond b (c ∷ []) [])
      by true = refl
      by false = refl

  join : (x y : List Address) (a b : List Choice) → a ≡ map with_cost (filter is_chosen x) → b ≡ map with_cost (filter is_chosen y) → a ++ b ≡ map with_cost (filter is_chosen (x ++ y))
  join x y a b e f =
      ap (λ r. r ++ b) e ∙ ap (λ r. map with_cost (filter is_chosen x) ++ r) f
      ∙ sym (map-append with_cost (filter is_chosen x) (filter is_chosen y)) ∙ ap (map with_cost) (sym (filter-append is_chosen x y))

  choices_are : (n : ℕ) (c : Address) → IsCell c → c.level + n ≤ 30 → choices_within g n items keys threshold c ≡ map with_cost (filter is_chosen (leaves_within g n items c))
  unfolding choices_within leaves_within
  choices_are zero c cell low = one_is c cell
  choices_are (suc n) c cell low =
      let here : c.level < 30 = omega arith in
      let sub : (q : ℕ) → q < 4 → choices_within g n items keys threshold (child_of c q) ≡ map with_cost (filter is_chosen (leaves_within g n items (child_of c q))) =
      λ q four. choices_are n (child_of c q) (child_cell c q cell here four) (omega arith) in
      let x = λ (q : ℕ). leaves_within g n items (child_of c q) in
      by (x 0 ++ x 1 ++ x 2 ++ x 3) (c ∷ []) _ _ (some_asks g c items)
      (join (x 0 ++ x 1 ++ x 2) (x 3) _ _ (join (x 0 ++ x 1) (x 2) _ _ (join (x 0) (x 1) _ _ (sub 0 (omega arith)) (sub 1 (omega arith))) (sub 2 (omega arith))) (sub 3 (omega arith)))
      (one_is c cell)
    where
      by : (xs ys : List Address) (vs ws : List Choice) (b : Bool) → vs ≡ map with_cost (filter is_chosen xs) → ws ≡ map with_cost (filter is_chosen ys)
          → cond b vs ws ≡ map with_cost (filter is_chosen (cond b xs ys))
      by xs ys vs ws true x y = x
      by xs ys vs ws false x y = y

  -- the choices under the root are those of the definitions
  pub all_choices : choices_under g items keys threshold root_cell ≡ choices_for g items sample threshold
  unfolding choices_under choices_for leaves_of
  all_choices = choices_are 28 root_cell root_is_cell (omega arith)
