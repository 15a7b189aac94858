-- Rows that fall away where more cells are trained.
use Rattle.std.proofs.Common.{◌≡◌, ℕ, zero, suc, ◌+◌, ◌-◌, ◌/◌, ◌^◌, ◌<◌, ◌≤◌, ◌⊎◌, inl, inr, refl, sym, ap, ◌∙◌, arith, pow-suc, lit≤, Bool, true, false, cond, ◌&&◌, ◌||◌, List, [], ◌∷◌, length, take}
use Rattle.std.specs.Prelude.{nat_le, nat_lt}
use Rattle.std.proofs.Math.Nat.{pow-le-pow_right}
use Rattle.std.proofs.lemmas.Bool.Decides.{nat_tests}
use Rattle.act_grid.specs.Cell.{Address, IsCell, child_of, root_cell}
use Rattle.act_cover.proofs.Placed.{child_cell}
use Rattle.act_super.specs.declared.pack.Pack.{Pack}
use Rattle.act_super.specs.declared.standing.Standing.{Standing}
use Rattle.act_super.specs.Grounds.{Ground, is_among, is_mixed, is_split, on, same_cell, some_asks}
use Rattle.act_super.specs.Losses.{AreAmong, loss, loss_at, losses, losses_of, part_losses}
use Rattle.act_super.specs.Packs.{put, put_leaf, put_tree, inner, empty_pack, node_rows}
use Rattle.act_super.specs.Standings.{standing_ground, standing_rows}
use Rattle.act_super.specs.Trees.{Tree, tree_of, under}
use Rattle.act_super.specs.Trees.Tree.{Leaf, Split}
use Rattle.act_super.proofs.GrowFacts.{four_packs, rows_before}
use Rattle.act_super.proofs.PackFacts.{Added, Before, added_put, before_refl, before_trans, later, later_mono, leaf_later}
use Rattle.act_super.proofs.PackFacts.Added.{Fits, Opens}
use Rattle.act_super.proofs.PackFacts.Before.{SameRow, EarlierRow}
use Rattle.act_super.proofs.RoomFacts.{parted_rows}
use Rattle.act_super.proofs.StandingFacts.{standings_go_down}
use Rattle.act_super.proofs.TopFacts.{root_is_cell}
use Rattle.act_super.proofs.TrainFacts.{Fewer, asks_more, cases, fewer_below, trained_by}
use Rattle.act_super.proofs.TreeFacts.{GoesDown, asks_on, on_again, on_below}

-- a list moves what stands behind it by so many rows at most
leaf_less : (s : Pack) (n : ℕ) → Before (put_leaf s n) (later (loss n) s)
leaf_less s n = by (nat_lt n 3) refl
  where
    next : (t : Pack) → Added s (1 + (n + 1) / 2) t → (b : Bool) → nat_lt n 255 ≡ b → Before t (later (cond b 1 2) s)
    next t (Fits a b c) true e = EarlierRow (omega arith)
    next t (Fits a b c) false e = EarlierRow (omega arith)
    next t (Opens a b c) true e = SameRow (omega arith) (half n 255 s.at t.at e a c (omega arith))
      where
        half : (n m at to : ℕ) → nat_lt n m ≡ true → 256 < at + (1 + (n + 1) / 2) → to ≡ 1 + (n + 1) / 2 → m ≤ 255 → to ≤ at
        half n m at to e a c h = let low : n < m = grind (arith, nat_tests) in omega arith
    next t (Opens a b c) false e = EarlierRow (omega arith)

    by : (b : Bool) → nat_lt n 3 ≡ b → Before (cond b s (put s n)) (later (cond b 0 (cond (nat_lt n 255) 1 2)) s)
    by true e = SameRow (omega arith) (omega arith)
    by false e = next (put s n) (added_put s n) (nat_lt n 255) refl

tree_later : (k : ℕ) (s : Pack) (t : Tree) → Before s (put_tree k s t)
tree_later k s (Leaf n) = leaf_later s n
tree_later zero s (Split a b c d) = before_refl s
tree_later (suc k) s (Split a b c d) =
    let s1 = put_tree k s a in
    let s2 = put_tree k s1 b in
    let s3 = put_tree k s2 c in
    before_trans s s1 _ (tree_later k s a) (before_trans s1 s2 _ (tree_later k s1 b) (before_trans s2 s3 _ (tree_later k s2 c) (tree_later k s3 d)))

-- u comes from t by splits of leaves, whose lists took so many rows at most
data Loses : Tree → Tree → ℕ → Type 0 where
  Same : (n x : ℕ) → Loses (Leaf n) (Leaf n) x
  Within : (a b c d a' b' c' d' : Tree) (x y z w v : ℕ) → Loses a a' x → Loses b b' y → Loses c c' z → Loses d d' w → x + y + z + w ≤ v
      → Loses (Split a b c d) (Split a' b' c' d') v
  Falls : (n x : ℕ) (a b c d : Tree) → loss n ≤ x → Loses (Leaf n) (Split a b c d) x

-- rows of the node's lists, and rows below
record Fewest (k : ℕ) (t u : Tree) (x : ℕ) : Type 0 where
  pub lists : ℕ
  pub nodes : ℕ
  pub sum : lists + nodes ≤ x
  pub packs : (s : Pack) → Before (put_tree k s t) (later lists (put_tree k s u))
  pub rows : inner k t ≤ inner k u + nodes

fewest : (k : ℕ) (t u : Tree) (x : ℕ) → Loses t u x → Fewest k t u x
fewest k t u x (Same n x') = record { lists = 0; nodes = 0; sum = omega arith; packs = λ s. SameRow (omega arith) (omega arith); rows = omega arith }
fewest zero t u v' (Within a b c d a' b' c' d' x y z w v h i j l most) =
    let ba = fewest 3 a a' x h in
    let bb = fewest 3 b b' y i in
    let bc = fewest 3 c c' z j in
    let bd = fewest 3 d d' w l in
    let all = four_packs 3 ba.lists bb.lists bc.lists bd.lists a' b' c' d' a b c d ba.packs bb.packs bc.packs bd.packs empty_pack in
    record {
      lists = 0;
      nodes = (ba.lists + bb.lists + bc.lists + bd.lists) + (ba.nodes + bb.nodes + bc.nodes + bd.nodes);
      sum = omega (arith, ba.sum, bb.sum, bc.sum, bd.sum, most);
      packs = λ s. SameRow (omega arith) (omega arith);
      rows = omega (arith, rows_before _ _ all, ba.rows, bb.rows, bc.rows, bd.rows);
    }
fewest (suc k) t u v' (Within a b c d a' b' c' d' x y z w v h i j l most) =
    let ba = fewest k a a' x h in
    let bb = fewest k b b' y i in
    let bc = fewest k c c' z j in
    let bd = fewest k d d' w l in
    record {
      lists = ba.lists + bb.lists + bc.lists + bd.lists;
      nodes = ba.nodes + bb.nodes + bc.nodes + bd.nodes;
      sum = omega (arith, ba.sum, bb.sum, bc.sum, bd.sum, most);
      packs = four_packs k ba.lists bb.lists bc.lists bd.lists a' b' c' d' a b c d ba.packs bb.packs bc.packs bd.packs;
      rows = omega (arith, ba.rows, bb.rows, bc.rows, bd.rows);
    }
fewest k t u x (Falls n x' a b c d h) = record {
  lists = loss n;
  nodes = 0;
  sum = omega (arith, h);
  packs = λ s. before_trans (put_leaf s n) (later (loss n) s) (later (loss n) (put_tree k s (Split a b c d))) (leaf_less s n) (later_mono (loss n) s (put_tree k s (Split a b c d)) (tree_later k s (Split a b c d)));
  rows = omega arith;
}

size_least : (t u : Tree) (x : ℕ) → Loses t u x → node_rows t ≤ node_rows u + x
size_least t u x h =
    let b = fewest 4 t u x h in
    omega (arith, b.sum, b.rows, rows_before _ _ (b.packs empty_pack))

-- a cell that is split only where more are trained is one of these, and not one of the others
asked : {X : Type 0} (g : Ground X) (some all : Address → Bool) (c : Address) (items : List X) → some_asks (trained_by g all) c items ≡ true → some_asks (trained_by g some) c items ≡ false → all c ≡ true
asked g some all c [] e f = absurd (cc)
asked g some all c (x ∷ items) e f = one (is_mixed (g.class x c)) (nat_lt c.level (g.level x)) (all c) (some c) (some_asks (trained_by g all) c items) (some_asks (trained_by g some) c items) (asked g some all c items) e f
  where
    one : (a b t s u v : Bool) → (u ≡ true → v ≡ false → t ≡ true) → ((a && (b || t)) || u) ≡ true → ((a && (b || s)) || v) ≡ false → t ≡ true
    one a b t s u v h e f = grind arith

unasked : {X : Type 0} (g : Ground X) (some all : Address → Bool) (c : Address) (items : List X) → some_asks (trained_by g all) c items ≡ true → some_asks (trained_by g some) c items ≡ false → some c ≡ false
unasked g some all c [] e f = absurd (cc)
unasked g some all c (x ∷ items) e f = one (is_mixed (g.class x c)) (nat_lt c.level (g.level x)) (all c) (some c) (some_asks (trained_by g all) c items) (some_asks (trained_by g some) c items) (unasked g some all c items) e f
  where
    one : (a b t s u v : Bool) → (u ≡ true → v ≡ false → s ≡ false) → ((a && (b || t)) || u) ≡ true → ((a && (b || s)) || v) ≡ false → s ≡ false
    one a b t s u v h e f = grind arith

not_in : (a b : Bool) → (a ≡ true → b ≡ true) → b ≡ false → a ≡ false
not_in true b h e = absurd (let f = h refl in cc)
not_in false b h e = refl

-- under any trained cells between the first and all, the tree comes to that under all by splits that lose so much at most
falls : {X : Type 0} (g : Ground X) (first some all : Address → Bool) → Fewer first some → Fewer some all → (n : ℕ) (items : List X) (c : Address)
    → Loses (tree_of (trained_by g some) n items c) (tree_of (trained_by g all) n items c) (losses_of (trained_by g all) first n items c)
unfolding tree_of losses_of
falls g first some all h k zero items c = Same _ _
falls g first some all h k (suc n) items c =
    let ih : (q : ℕ) → Loses (tree_of (trained_by g some) n items (child_of c q)) (tree_of (trained_by g all) n items (child_of c q)) (losses_of (trained_by g all) first n items (child_of c q)) =
    λ q. falls g first some all h k n items (child_of c q) in
    elim (cases (some_asks (trained_by g some) c items)) [
      | inl a ↦
          let b = asks_more g some all k c items a in
          rw (a, b) (Within _ _ _ _ _ _ _ _ _ _ _ _ _ (ih 0) (ih 1) (ih 2) (ih 3) (behind (loss_at (all c) (first c) (length (on g items c))) _))
      | inr a ↦ elim (cases (some_asks (trained_by g all) c items)) [
        | inl b ↦
            let marked = asked g some all c items b a in
            let fresh = not_in (first c) (some c) (h c) (unasked g some all c items b a) in
            rw (a, b, marked, fresh) (Falls _ _ _ _ _ _ (before (loss (length (on g items c))) _))
        | inr b ↦ rw (a, b) (Same _ _)
      ]
    ]
  where
    behind : (m n : ℕ) → n ≤ m + n
    behind m n = omega arith

    before : (m n : ℕ) → m ≤ m + n
    before m n = omega arith

least_at : {X : Type 0} (g : Ground X) (first some all : Address → Bool) → Fewer first some → Fewer some all → (n : ℕ) (items : List X) (c : Address)
    → node_rows (tree_of (trained_by g some) n items c) ≤ node_rows (tree_of (trained_by g all) n items c) + losses_of (trained_by g all) first n items c
least_at g first some all h k n items c = size_least _ _ _ (falls g first some all h k n items c)

nodes_least : (first some all : List Address) (standings : List Standing) → AreAmong first some → AreAmong some all
    → node_rows (under (standing_ground some) standings root_cell) ≤ node_rows (under (standing_ground all) standings root_cell) + losses (standing_ground all) (is_among first) standings root_cell
unfolding under losses
nodes_least first some all standings h k = least_at (standing_ground []) (is_among first) (is_among some) (is_among all) h k 28 standings root_cell

at_most : (a b : ℕ) → nat_le a b ≡ true → a ≤ b
at_most a b e = grind (arith, nat_tests)

-- the rows under any trained cells between the first and all
pub rows_least : (first some all : List Address) (standings : List Standing) → AreAmong first some → AreAmong some all
    → standing_rows some standings ≤ standing_rows all standings + losses (standing_ground all) (is_among first) standings root_cell
rows_least first some all standings h k = omega (arith, nodes_least first some all standings h k, parted_rows some standings, parted_rows all standings)

pub rows_within : (limit : ℕ) (first all : List Address) (standings : List Standing) (rows lost : ℕ) → rows ≡ standing_rows all standings → lost ≡ losses (standing_ground all) (is_among first) standings root_cell
    → nat_le (rows + lost) limit ≡ true → (some : List Address) → AreAmong first some → AreAmong some all → standing_rows some standings ≤ limit
rows_within limit first all standings rows lost e f g some h k = omega (arith, rows_least first some all standings h k, e, f, at_most (rows + lost) limit g)

-- some of the first cells are among more of them
pub among_taken : (cells : List Address) (m n : ℕ) → m ≤ n → AreAmong (take m cells) (take n cells)
among_taken cells zero n low c e = absurd (cc)
among_taken [] (suc m) n low c e = absurd (cc)
among_taken (d ∷ cells) (suc m) zero low c e = absurd (omega arith)
among_taken (d ∷ cells) (suc m) (suc n) low c e = one (same_cell d c) (is_among (take m cells) c) (is_among (take n cells) c) (among_taken cells m n (omega arith) c) e
  where
    one : (a b b' : Bool) → (b ≡ true → b' ≡ true) → (a || b) ≡ true → (a || b') ≡ true
    one a b b' h e = grind arith

taken_among : (cells : List Address) (m : ℕ) → AreAmong (take m cells) cells
taken_among cells zero c e = absurd (cc)
taken_among [] (suc m) c e = absurd (cc)
taken_among (d ∷ cells) (suc m) c e = one (same_cell d c) (is_among (take m cells) c) (is_among cells c) (taken_among cells m c) e
  where
    one : (a b b' : Bool) → (b ≡ true → b' ≡ true) → (a || b) ≡ true → (a || b') ≡ true
    one a b b' h e = grind arith

none_among : (none some : List Address) → none ≡ [] → AreAmong none some
none_among none some e = rw e (λ c f. absurd (cc))

-- each list of the first cells fits
pub each_taken : (limit : ℕ) (standings : List Standing) (none cells : List Address) → none ≡ []
    → ((some : List Address) → AreAmong none some → AreAmong some cells → standing_rows some standings ≤ limit) → (n : ℕ) → standing_rows (take n cells) standings ≤ limit
each_taken limit standings none cells e more n = more (take n cells) (none_among none (take n cells) e) (taken_among cells n)

-- each of the portions fits
pub all_taken : (limit : ℕ) (standings : List Standing) (cells : List Address) (count last : ℕ) → count ≤ last
    → ((n : ℕ) → n ≤ count → standing_rows (take n cells) standings ≤ limit)
    → ((some : List Address) → AreAmong (take count cells) some → AreAmong some (take last cells) → standing_rows some standings ≤ limit)
    → (n : ℕ) → n ≤ last → standing_rows (take n cells) standings ≤ limit
all_taken limit standings cells count last order each more n low = by (order_of n count)
  where
    order_of : (m n : ℕ) → (m < n) ⊎ (n ≤ m)
    order_of m n = grind arith

    by : (n < count) ⊎ (count ≤ n) → standing_rows (take n cells) standings ≤ limit
    by (inl less) = each n (omega arith)
    by (inr least) = more (take n cells) (among_taken cells count n least) (among_taken cells n last low)

-- where fewer than three items are on a cell nothing is lost
few_losses : {X : Type 0} (g : Ground X) → GoesDown g → (old : Address → Bool) (n : ℕ) (items : List X) (c : Address) → IsCell c → c.level + n ≤ 28 → length (on g items c) < 3 → losses_of g old n items c ≡ 0
unfolding losses_of
few_losses g down old zero items c cell low few = refl
few_losses g down old (suc n) items c cell low few =
    let here : c.level < 30 = omega arith in
    let ih : (q : ℕ) → q < 4 → losses_of g old n items (child_of c q) ≡ 0 =
    λ q four. few_losses g down old n items (child_of c q) (child_cell c q cell here four) (omega arith) (omega (arith, fewer_below g down items c q cell here four)) in
    rw (ih 0 (omega arith), ih 1 (omega arith), ih 2 (omega arith), ih 3 (omega arith)) (none (some_asks g c items) (g.trained c) (old c) (length (on g items c)) few)
  where
    none : (a b d : Bool) (n : ℕ) → n < 3 → cond a (loss_at b d n + (0 + 0 + 0 + 0)) 0 ≡ 0
    none a b d n h = let e : nat_lt n 3 ≡ true = grind (arith, nat_tests) in rw e (zeros a b d)
      where
        zeros : (a b d : Bool) → cond a (cond b (cond d 0 0) 0 + (0 + 0 + 0 + 0)) 0 ≡ 0
        zeros true true true = refl
        zeros true true false = refl
        zeros true false d = refl
        zeros false b d = refl

pub losses_few : {X : Type 0} (g : Ground X) → GoesDown g → (old : Address → Bool) (items : List X) (c : Address) → IsCell c → c.level ≤ 28 → length (on g items c) < 3 → losses g old items c ≡ 0
unfolding losses
losses_few g down old items c cell low few = few_losses g down old (28 - c.level) items c cell (omega arith) few

-- a cell that isn't split loses nothing
pub losses_leaf : {X : Type 0} (g : Ground X) (old : Address → Bool) (items : List X) (c : Address) → is_split g items c ≡ false → losses g old items c ≡ 0
unfolding losses_of losses
losses_leaf g old items c e = by_level (nat_lt c.level 28) refl
  where
    at : (n : ℕ) → some_asks g c items ≡ false → losses_of g old n items c ≡ 0
    at zero h = refl
    at (suc n) h = rw h refl

    none : (n : ℕ) → nat_lt n 28 ≡ false → 28 - n ≡ 0
    none n h = grind (arith, nat_tests)

    second : (a b : Bool) → a ≡ true → (a && b) ≡ false → b ≡ false
    second a b h e = grind arith

    by_level : (b : Bool) → nat_lt c.level 28 ≡ b → losses_of g old (28 - c.level) items c ≡ 0
    by_level true h = at (28 - c.level) (second (nat_lt c.level 28) (some_asks g c items) h e)
    by_level false h = let zero : 28 - c.level ≡ 0 = none c.level h in rw zero refl

-- the items on a cell decide what is lost under it
same_losses : {X : Type 0} (g : Ground X) → GoesDown g → (old : Address → Bool) (n : ℕ) (items others : List X) (c : Address) → IsCell c → c.level + n ≤ 30
    → on g items c ≡ on g others c → losses_of g old n items c ≡ losses_of g old n others c
unfolding losses_of
same_losses g down old zero items others c cell low e = refl
same_losses g down old (suc n) items others c cell low e =
    let here : c.level < 30 = omega arith in
    let below : (q : ℕ) → q < 4 → on g items (child_of c q) ≡ on g others (child_of c q) =
    λ q four. sym (on_below g down items c q cell here four) ∙ ap (λ r. on g r (child_of c q)) e ∙ on_below g down others c q cell here four in
    let sub : (q : ℕ) → q < 4 → losses_of g old n items (child_of c q) ≡ losses_of g old n others (child_of c q) =
    λ q four. same_losses g down old n items others (child_of c q) (child_cell c q cell here four) (omega arith) (below q four) in
    let test : some_asks g c items ≡ some_asks g c others =
    sym (asks_on g c items) ∙ ap (some_asks g c) e ∙ asks_on g c others in
    rw (test, sub 0 (omega arith), sub 1 (omega arith), sub 2 (omega arith), sub 3 (omega arith), e) refl

narrow_losses : {X : Type 0} (g : Ground X) → GoesDown g → (old : Address → Bool) (n : ℕ) (items : List X) (c : Address) → IsCell c → c.level + n ≤ 30
    → losses_of g old n (on g items c) c ≡ losses_of g old n items c
narrow_losses g down old n items c cell low = same_losses g down old n (on g items c) items c cell low (on_again g items c)

-- what a split cell loses, and each of its parts
pub losses_split : {X : Type 0} (g : Ground X) → GoesDown g → (old : Address → Bool) (items : List X) (c : Address) → IsCell c → is_split g items c ≡ true
    → losses g old items c ≡ loss_at (g.trained c) (old c) (length (on g items c)) + (part_losses g old items c 0 + part_losses g old items c 1 + part_losses g old items c 2 + part_losses g old items c 3)
unfolding losses_of losses
losses_split g down old items c cell e =
    let low : c.level < 28 = low_of c.level (some_asks g c items) e in
    let n = 27 - c.level in
    let fuel : 28 - c.level ≡ suc n = omega arith in
    let less : 28 - (c.level + 1) ≡ n = omega arith in
    let sub : (q : ℕ) → q < 4 → losses_of g old n items (child_of c q) ≡ losses_of g old (28 - (c.level + 1)) (on g items (child_of c q)) (child_of c q) =
    λ q four. sym (narrow_losses g down old n items (child_of c q) (child_cell c q cell (omega arith) four) (omega arith))
    ∙ ap (λ m. losses_of g old m (on g items (child_of c q)) (child_of c q)) (sym less) in
    rw (fuel, second (nat_lt c.level 28) (some_asks g c items) e, sub 0 (omega arith), sub 1 (omega arith), sub 2 (omega arith), sub 3 (omega arith)) refl
  where
    low_of : (n : ℕ) (b : Bool) → (nat_lt n 28 && b) ≡ true → n < 28
    low_of n b e = grind (arith, nat_tests)

    second : (a b : Bool) → (a && b) ≡ true → b ≡ true
    second true b e = e
    second false b e = absurd (cc)

loss_most : (n : ℕ) → loss n ≤ 2
loss_most n = by (nat_lt n 3) (nat_lt n 255)
  where
    by : (a b : Bool) → cond a 0 (cond b 1 2) ≤ 2
    by true b = omega arith
    by false true = omega arith
    by false false = omega arith

pub loss_at_most : (a b : Bool) (n : ℕ) → loss_at a b n ≤ 2
loss_at_most true true n = omega arith
loss_at_most true false n = loss_most n
loss_at_most false b n = omega arith

-- at most two rows for each split cell
losses_low : {X : Type 0} (g : Ground X) (old : Address → Bool) (n : ℕ) (items : List X) (c : Address) → losses_of g old n items c + 1 ≤ 4 ^ n
unfolding losses_of
losses_low g old zero items c = omega arith
losses_low g old (suc n) items c =
    by (some_asks g c items) (loss_at (g.trained c) (old c) (length (on g items c))) _ _ _ _ (loss_at_most (g.trained c) (old c) (length (on g items c)))
    (losses_low g old n items (child_of c 0)) (losses_low g old n items (child_of c 1)) (losses_low g old n items (child_of c 2)) (losses_low g old n items (child_of c 3))
  where
    by : (b : Bool) (h x y z w : ℕ) → h ≤ 2 → x + 1 ≤ 4 ^ n → y + 1 ≤ 4 ^ n → z + 1 ≤ 4 ^ n → w + 1 ≤ 4 ^ n → cond b (h + (x + y + z + w)) 0 + 1 ≤ 4 ^ suc n
    by true h x y z w m a b c d = omega (arith, pow-suc 4 n)
    by false h x y z w m a b c d = omega (arith, pow-suc 4 n)

pub losses_fit : {X : Type 0} (g : Ground X) (old : Address → Bool) (items : List X) (c : Address) → losses g old items c < 2 ^ 56
unfolding losses
losses_fit g old items c =
    let low : 28 - c.level ≤ 28 = omega arith in
    let e : 4 ^ (28 - c.level) ≤ 4 ^ 28 = pow-le-pow_right {n = 4} (lit≤ tt) low in
    let f : 4 ^ 28 ≤ 2 ^ 56 = lit≤ tt in
    omega (arith, losses_low g old (28 - c.level) items c, e, f)

-- what is lost from the root down, by the items on it
pub top_losses : (trained : List Address) (old : Address → Bool) (zones here : List Standing) (root : Address) → root ≡ root_cell → here ≡ on (standing_ground trained) zones root
    → losses (standing_ground trained) old here root ≡ losses (standing_ground trained) old zones root_cell
unfolding losses
top_losses trained old zones here root r h =
    ap (λ c. losses (standing_ground trained) old here c) r
    ∙ ap (λ xs. losses (standing_ground trained) old xs root_cell) (h ∙ ap (λ c. on (standing_ground trained) zones c) r)
    ∙ narrow_losses (standing_ground trained) (standings_go_down trained) old (28 - root_cell.level) zones root_cell root_is_cell (omega arith)
