-- The standings of zones have the super covering of the zones.
use Rattle.std.proofs.Common.{◌≡◌, ℕ, zero, suc, ◌+◌, ◌-◌, ◌≤◌, refl, sym, ap, ◌∙◌, arith, Bool, true, false, cond, ◌&&◌, ◌||◌, List, [], ◌∷◌, length, map}
use Rattle.std.specs.Prelude.{nat_lt, sum_by}
use Rattle.std.proofs.lemmas.List.Elements.{All-head, All-tail}
use Rattle.std.proofs.lemmas.List.Sums.{sum_by-cons}
use Rattle.act_grid.specs.declared.Point.{Point}
use Rattle.act_grid.specs.declared.Settings.{Settings}
use Rattle.act_grid.specs.Cell.{Address, IsCell, root_cell, child_of}
use Rattle.act_cover.specs.Covering.{class_at, is_on}
use Rattle.act_cover.specs.Level.{level_of}
use Rattle.act_super.specs.declared.entry.Zone.{Zone}
use Rattle.act_super.specs.declared.standing.Standing.{Standing}
use Rattle.act_super.specs.Grounds.{Ground, is_among, is_mixed, on, some_asks, asks, zone_ground}
use Rattle.act_super.specs.Packs.{node_rows}
use Rattle.act_super.specs.Sizes.{chain_rows, chains_of, most_references, rows_with, tree_rows}
use Rattle.act_super.specs.Standings.{AreLevelled, shapes_in, standing_ground, standing_most, standing_rows}
use Rattle.act_super.specs.Trees.{Tree, most, tree_of, under}
use Rattle.act_super.proofs.TreeFacts.{GoesDown, narrow, same_counts}
use Rattle.act_super.proofs.UnderFacts.{length_on, under_leaf}

abbrev pub zone_shapes : List Zone → List (List (List Point))
zone_shapes zones = map (λ (zone : Zone). zone.shape) zones

same_head : {A : Type 0} (x y : A) (xs ys : List A) → ◌≡◌ {A = List A} (x ∷ xs) (y ∷ ys) → x ≡ y
same_head x y xs ys e = cc

same_tail : {A : Type 0} (x y : A) (xs ys : List A) → ◌≡◌ {A = List A} (x ∷ xs) (y ∷ ys) → xs ≡ ys
same_tail x y xs ys e = cc

module _ (settings : Settings) (trained : List Address) where
  same_on : (zones : List Zone) (standings : List Standing) (c : Address) → zone_shapes zones ≡ shapes_in standings
      → length (on (standing_ground trained) standings c) ≡ length (on (zone_ground settings trained) zones c)
  same_on [] [] c e = refl
  same_on [] (s ∷ standings) c e = absurd (cc)
  same_on (z ∷ zones) [] c e = absurd (cc)
  same_on (z ∷ zones) (s ∷ standings) c e =
      let shape = same_head z.shape s.shape _ _ e in
      counted (is_on (class_at s.shape c)) (is_on (class_at z.shape c)) (ap (λ r. is_on (class_at r c)) (sym shape)) (same_on zones standings c (same_tail z.shape s.shape _ _ e))
    where
      counted : (a b : Bool) → a ≡ b → length (on (standing_ground trained) standings c) ≡ length (on (zone_ground settings trained) zones c)
          → length (cond a (s ∷ on (standing_ground trained) standings c) (on (standing_ground trained) standings c))
          ≡ length (cond b (z ∷ on (zone_ground settings trained) zones c) (on (zone_ground settings trained) zones c))
      counted true true f h = ap suc h
      counted true false f h = absurd (cc)
      counted false true f h = absurd (cc)
      counted false false f h = h

  pub same_asked : (zones : List Zone) (standings : List Standing) (c : Address) → zone_shapes zones ≡ shapes_in standings → AreLevelled settings.cells standings
      → some_asks (standing_ground trained) c standings ≡ some_asks (zone_ground settings trained) c zones
  same_asked [] [] c e levels = refl
  same_asked [] (s ∷ standings) c e levels = absurd (cc)
  same_asked (z ∷ zones) [] c e levels = absurd (cc)
  same_asked (z ∷ zones) (s ∷ standings) c e levels =
      let shape = same_head z.shape s.shape _ _ e in
      let level : s.level ≡ level_of z.shape settings.cells = All-head (λ (s : Standing). s.level ≡ level_of s.shape settings.cells) s standings levels ∙ ap (λ r. level_of r settings.cells) (sym shape) in
      let one : asks (standing_ground trained) c s ≡ asks (zone_ground settings trained) c z =
      ap (λ r. is_mixed (class_at r c) && (nat_lt c.level s.level || is_among trained c)) (sym shape)
      ∙ ap (λ n. is_mixed (class_at z.shape c) && (nat_lt c.level n || is_among trained c)) level in
      let rest = same_asked zones standings c (same_tail z.shape s.shape _ _ e) (All-tail (λ (s : Standing). s.level ≡ level_of s.shape settings.cells) s standings levels) in
      ap (λ b. b || some_asks (standing_ground trained) c standings) one ∙ ap (λ b. asks (zone_ground settings trained) c z || b) rest

  pub same_under : (zones : List Zone) (standings : List Standing) (c : Address) → zone_shapes zones ≡ shapes_in standings → AreLevelled settings.cells standings
      → under (standing_ground trained) standings c ≡ under (zone_ground settings trained) zones c
  unfolding under
  same_under zones standings c e levels =
      same_counts (standing_ground trained) (zone_ground settings trained) standings zones (λ c. same_on zones standings c e) (λ c. same_asked zones standings c e levels) (28 - c.level) c

same_chains : (zones : List Zone) (standings : List Standing) → zone_shapes zones ≡ shapes_in standings → sum_by (λ (s : Standing). chain_rows s.shape) standings ≡ chains_of zones
same_chains [] [] e = refl
same_chains [] (s ∷ standings) e = absurd (cc)
same_chains (z ∷ zones) [] e = absurd (cc)
same_chains (z ∷ zones) (s ∷ standings) e =
    let shape = same_head z.shape s.shape _ _ e in
    let rest = same_chains zones standings (same_tail z.shape s.shape _ _ e) in
    sum_by-cons (λ (s : Standing). chain_rows s.shape) s standings
    ∙ (ap (λ r. chain_rows r + sum_by (λ (s : Standing). chain_rows s.shape) standings) (sym shape) ∙ ap (λ n. chain_rows z.shape + n) rest)
    ∙ sym (sum_by-cons (λ (z : Zone). chain_rows z.shape) z zones)

pub same_rows : (settings : Settings) (trained : List Address) (zones : List Zone) (standings : List Standing) → zone_shapes zones ≡ shapes_in standings → AreLevelled settings.cells standings
    → standing_rows trained standings ≡ rows_with settings zones trained
unfolding standing_rows rows_with tree_rows
same_rows settings trained zones standings e levels =
    ap (λ t. node_rows t + sum_by (λ (s : Standing). chain_rows s.shape) standings) (same_under settings trained zones standings root_cell e levels)
    ∙ ap (λ n. node_rows (under (zone_ground settings trained) zones root_cell) + n) (same_chains zones standings e)

pub same_most : (settings : Settings) (zones : List Zone) (standings : List Standing) → zone_shapes zones ≡ shapes_in standings → AreLevelled settings.cells standings
    → standing_most standings ≡ most_references settings zones
unfolding standing_most most_references
same_most settings zones standings e levels = ap most (same_under settings [] zones standings root_cell e levels)

-- a descent may begin with the items on its cell
pub narrow_under : {X : Type 0} (g : Ground X) → GoesDown g → (items : List X) (c : Address) → IsCell c → c.level ≤ 28 → under g (on g items c) c ≡ under g items c
unfolding under
narrow_under g down items c cell low = narrow g down (28 - c.level) items c cell (omega arith)

-- no leaf has more references than there are items
most_few : {X : Type 0} (g : Ground X) (n : ℕ) (items : List X) (c : Address) → most (tree_of g n items c) ≤ length items
unfolding tree_of
most_few g zero items c = length_on g items c
most_few g (suc n) items c =
    let a = most_few g n items (child_of c 0) in
    let b = most_few g n items (child_of c 1) in
    let d = most_few g n items (child_of c 2) in
    let e = most_few g n items (child_of c 3) in
    either (some_asks g c items) _ _ (omega (arith, a, b, d, e)) (length_on g items c)
  where
    either : (b : Bool) (s t : Tree) → most s ≤ length items → most t ≤ length items → most (cond b s t) ≤ length items
    either true s t h k = h
    either false s t h k = k

pub most_under_within : (trained : List Address) (standings : List Standing) → most (under (standing_ground trained) standings root_cell) ≤ length standings
unfolding under
most_under_within trained standings = most_few (standing_ground trained) 28 standings root_cell

pub most_within : (standings : List Standing) → standing_most standings ≤ length standings
unfolding standing_most under
most_within standings = most_few (standing_ground []) 28 standings root_cell

-- no zones take the root node alone
pub rows_of_none : (settings : Settings) → rows_with settings [] [] ≡ 1
unfolding rows_with tree_rows
rows_of_none settings = ap (λ t. node_rows t + chains_of []) (under_leaf (zone_ground settings []) [] root_cell refl)

pub most_of_none : (settings : Settings) → most_references settings [] ≡ 0
unfolding most_references
most_of_none settings = ap most (under_leaf (zone_ground settings []) [] root_cell refl)
