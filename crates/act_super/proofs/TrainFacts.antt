-- What training adds to the size of a state, at most.
use Rattle.std.proofs.Common.{◌≡◌, ℕ, zero, suc, ◌+◌, ◌*◌, ◌<◌, ◌≤◌, ◌⊎◌, inl, inr, refl, arith, Bool, true, false, ◌&&◌, ◌||◌, List, [], ◌∷◌, length}
use Rattle.std.specs.Prelude.{nat_lt}
use Rattle.std.specs.List.{list_any}
use Rattle.act_grid.specs.declared.Settings.{Settings}
use Rattle.act_grid.specs.Cell.{Address, IsCell, child_of, root_cell}
use Rattle.act_cover.proofs.Placed.{child_cell}
use Rattle.act_super.specs.declared.entry.Zone.{Zone}
use Rattle.act_super.specs.Grounds.{Ground, is_mixed, on, asks, some_asks, is_among, zone_ground}
use Rattle.act_super.specs.Laws.{TrainingIsBounded}
use Rattle.act_super.specs.Packs.{node_rows}
use Rattle.act_super.specs.Sizes.{rows_with, tree_rows}
use Rattle.act_super.specs.Trees.{Tree, splits, tree_of, under}
use Rattle.act_super.specs.Trees.Tree.{Leaf, Split}
use Rattle.act_super.proofs.GrowFacts.{Refines, size_bound}
use Rattle.act_super.proofs.GrowFacts.Refines.{Same, Within, Grows}
use Rattle.act_super.proofs.StandingFacts.{outside_below}
use Rattle.act_super.proofs.TopFacts.{root_is_cell}
use Rattle.act_super.proofs.TreeFacts.{GoesDown, on_below}
use Rattle.act_super.proofs.UnderFacts.{length_on}

-- the same ground with other trained cells
abbrev pub trained_by : {X : Type 0} → Ground X → (Address → Bool) → Ground X
trained_by g trained = record { class = g.class; level = g.level; trained = trained }

-- the first cells are among the second
abbrev pub Fewer : (Address → Bool) → (Address → Bool) → Type 0
Fewer some all = (c : Address) → some c ≡ true → all c ≡ true

any_mono : {X : Type 0} (p q : X → Bool) (items : List X) → ((x : X) → p x ≡ true → q x ≡ true) → list_any p items ≡ true → list_any q items ≡ true
any_mono p q [] h e = e
any_mono p q (x ∷ items) h e = one (p x) (q x) (list_any p items) (list_any q items) (h x) (any_mono p q items h) e
  where
    one : (a b c d : Bool) → (a ≡ true → b ≡ true) → (c ≡ true → d ≡ true) → (a || c) ≡ true → (b || d) ≡ true
    one a b c d h k e = grind arith

pub fewer_below : {X : Type 0} (g : Ground X) → GoesDown g → (items : List X) (c : Address) (q : ℕ) → IsCell c → c.level < 30 → q < 4 → length (on g items (child_of c q)) ≤ length (on g items c)
fewer_below g down items c q cell low four = let e = length_on g (on g items c) (child_of c q) in rw (on_below g down items c q cell low four) at e

pub asks_more : {X : Type 0} (g : Ground X) (some all : Address → Bool) → Fewer some all → (c : Address) (items : List X)
    → some_asks (trained_by g some) c items ≡ true → some_asks (trained_by g all) c items ≡ true
asks_more g some all h c items e =
    any_mono (asks (trained_by g some) c) (asks (trained_by g all) c) items (λ x k. one (is_mixed (g.class x c)) (nat_lt c.level (g.level x)) (some c) (all c) (h c) k) e
  where
    one : (a b u v : Bool) → (u ≡ true → v ≡ true) → (a && (b || u)) ≡ true → (a && (b || v)) ≡ true
    one a b u v h e = grind arith

pub cases : (b : Bool) → (b ≡ true) ⊎ (b ≡ false)
cases true = inl refl
cases false = inr refl

-- a tree comes from one leaf with the references of its cell, by all its splits
from_leaf : {X : Type 0} (g : Ground X) (trained : Address → Bool) → GoesDown g → (n : ℕ) (items : List X) (c : Address) → IsCell c → c.level + n ≤ 28
    → Refines (Leaf (length (on g items c))) (tree_of (trained_by g trained) n items c) (splits (tree_of (trained_by g trained) n items c))
unfolding tree_of
from_leaf g trained down zero items c cell low = Same _
from_leaf g trained down (suc n) items c cell low =
    let here : c.level < 30 = omega arith in
    let ih : (q : ℕ) → q < 4 → Refines (Leaf (length (on g items (child_of c q)))) (tree_of (trained_by g trained) n items (child_of c q)) (splits (tree_of (trained_by g trained) n items (child_of c q))) =
    λ q four. from_leaf g trained down n items (child_of c q) (child_cell c q cell here four) (omega arith) in
    let fewer : (q : ℕ) → q < 4 → length (on g items (child_of c q)) ≤ length (on g items c) = λ q four. fewer_below g down items c q cell here four in
    elim (cases (some_asks (trained_by g trained) c items)) [
      | inl a ↦
          rw a
          (Grows _ _ _ _ _ _ _ _ _ _ _ _ _ (fewer 0 (omega arith)) (fewer 1 (omega arith)) (fewer 2 (omega arith)) (fewer 3 (omega arith)) (ih 0 (omega arith)) (ih 1 (omega arith)) (ih 2 (omega arith)) (ih 3 (omega arith)))
      | inr a ↦ rw a (Same _)
    ]

-- t grows into u by so many splits as u has more
record GrowsInto (t u : Tree) : Type 0 where
  pub more : ℕ
  pub sum : more + splits t ≡ splits u
  pub refines : Refines t u more

within : (a b c d a' b' c' d' : Tree) → GrowsInto a a' → GrowsInto b b' → GrowsInto c c' → GrowsInto d d' → GrowsInto (Split a b c d) (Split a' b' c' d')
within a b c d a' b' c' d' p q r v = record {
  more = p.more + q.more + r.more + v.more;
  sum = omega (arith, p.sum, q.sum, r.sum, v.sum);
  refines = Within _ _ _ _ _ _ _ _ _ _ _ _ p.refines q.refines r.refines v.refines;
}

grows_into : {X : Type 0} (g : Ground X) (some all : Address → Bool) → GoesDown g → Fewer some all → (n : ℕ) (items : List X) (c : Address) → IsCell c → c.level + n ≤ 28
    → GrowsInto (tree_of (trained_by g some) n items c) (tree_of (trained_by g all) n items c)
unfolding tree_of
grows_into g some all down h zero items c cell low = record { more = 0; sum = omega arith; refines = Same _ }
grows_into g some all down h (suc n) items c cell low =
    let here : c.level < 30 = omega arith in
    let ih : (q : ℕ) → q < 4 → GrowsInto (tree_of (trained_by g some) n items (child_of c q)) (tree_of (trained_by g all) n items (child_of c q)) =
    λ q four. grows_into g some all down h n items (child_of c q) (child_cell c q cell here four) (omega arith) in
    elim (cases (some_asks (trained_by g some) c items)) [
      | inl a ↦
          let b = asks_more g some all h c items a in
          rw (a, b) (within _ _ _ _ _ _ _ _ (ih 0 (omega arith)) (ih 1 (omega arith)) (ih 2 (omega arith)) (ih 3 (omega arith)))
      | inr a ↦ elim (cases (some_asks (trained_by g all) c items)) [
        | inl b ↦
            let whole = from_leaf g all down (suc n) items c cell low in
            rw a (record { more = splits (tree_of (trained_by g all) (suc n) items c); sum = omega arith; refines = whole })
        | inr b ↦ rw (a, b) (record { more = 0; sum = omega arith; refines = Same _ })
      ]
    ]

pub bound_at : {X : Type 0} (g : Ground X) (first some all : Address → Bool) → GoesDown g → Fewer first some → Fewer some all → (n : ℕ) (items : List X) (c : Address) → IsCell c → c.level + n ≤ 28
    → node_rows (tree_of (trained_by g some) n items c) + 5 * splits (tree_of (trained_by g first) n items c)
    ≤ node_rows (tree_of (trained_by g first) n items c) + 5 * splits (tree_of (trained_by g all) n items c)
bound_at g first some all down h k n items c cell low =
    let p = grows_into g first some down h n items c cell low in
    let q = grows_into g some all down k n items c cell low in
    sums _ _ _ _ _ p.more q.more (size_bound _ _ _ p.refines) p.sum q.sum
  where
    sums : (a b x y z m o : ℕ) → a ≤ b + 5 * m → m + x ≡ y → o + y ≡ z → a + 5 * x ≤ b + 5 * z
    sums a b x y z m o h e f = omega arith

zones_go_down : (settings : Settings) → GoesDown (zone_ground settings [])
zones_go_down settings zone c q cell low four e = outside_below zone.shape c q cell low four e

nodes_bounded : (settings : Settings) (zones : List Zone) (first some all : List Address) → Fewer (is_among first) (is_among some) → Fewer (is_among some) (is_among all)
    → node_rows (under (zone_ground settings some) zones root_cell) + 5 * splits (under (zone_ground settings first) zones root_cell)
    ≤ node_rows (under (zone_ground settings first) zones root_cell) + 5 * splits (under (zone_ground settings all) zones root_cell)
unfolding under
nodes_bounded settings zones first some all h k = bound_at (zone_ground settings []) (is_among first) (is_among some) (is_among all) (zones_go_down settings) h k 28 zones root_cell root_is_cell (omega arith)

pub training_is_bounded : TrainingIsBounded
unfolding rows_with tree_rows
training_is_bounded settings zones first some all h k = omega (arith, nodes_bounded settings zones first some all h k)
