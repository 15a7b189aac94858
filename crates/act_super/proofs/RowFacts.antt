-- Bounds on the rows of a tree.
use Rattle.std.proofs.Common.{◌≡◌, ℕ, zero, suc, ◌+◌, ◌-◌, ◌*◌, ◌^◌, ◌<◌, ◌≤◌, ap, arith, pow-suc, Bool, true, false, cond, List, lit≤}
use Rattle.std.proofs.lemmas.Bool.Decides.{nat_tests}
use Rattle.std.proofs.Math.Nat.{pow-le-pow_right}
use Rattle.act_grid.specs.Cell.{Address, child_of}
use Rattle.act_super.specs.declared.pack.Pack.{Pack}
use Rattle.act_super.specs.Grounds.{Ground, some_asks}
use Rattle.act_super.specs.Trees.{Tree, tree_of, under}
use Rattle.act_super.specs.Trees.Tree.{Leaf, Split}
use Rattle.act_super.specs.Packs.{put_leaf, put_tree, inner, empty_pack, node_rows}
use Rattle.act_super.specs.Parts.{Four, put_four}
use Rattle.act_super.proofs.UnderFacts.{pow_one}

-- a list takes at most one row more, and the leaves within k levels number at most 4 ^ k
pub rows_more : (k : ℕ) (s : Pack) (t : Tree) → (put_tree k s t).rows ≤ s.rows + 4 ^ k
rows_more k s (Leaf n) = one k s n
  where
    one : (k : ℕ) (s : Pack) (n : ℕ) → (put_leaf s n).rows ≤ s.rows + 4 ^ k
    one k s n = grind (arith, nat_tests, pow_one k)
rows_more zero s (Split a b c d) = omega arith
rows_more (suc k) s (Split a b c d) =
    let s1 = put_tree k s a in
    let s2 = put_tree k s1 b in
    let s3 = put_tree k s2 c in
    omega (arith, pow-suc 4 k, rows_more k s a, rows_more k s1 b, rows_more k s2 c, rows_more k s3 d)

-- leaves within k levels, each of which has a list at most
leaves_in : ℕ → Tree → ℕ
leaves_in k (Leaf n) = 1
leaves_in zero (Split a b c d) = 0
leaves_in (suc k) (Split a b c d) = leaves_in k a + leaves_in k b + leaves_in k c + leaves_in k d

rows_leaves : (k : ℕ) (s : Pack) (t : Tree) → (put_tree k s t).rows ≤ s.rows + leaves_in k t
unfolding leaves_in
rows_leaves k s (Leaf n) = one s n
  where
    one : (s : Pack) (n : ℕ) → (put_leaf s n).rows ≤ s.rows + 1
    one s n = grind (arith, nat_tests)
rows_leaves zero s (Split a b c d) = omega arith
rows_leaves (suc k) s (Split a b c d) =
    let s1 = put_tree k s a in
    let s2 = put_tree k s1 b in
    let s3 = put_tree k s2 c in
    omega (arith, rows_leaves k s a, rows_leaves k s1 b, rows_leaves k s2 c, rows_leaves k s3 d)

-- a tree of at most n levels
abbrev IsLow : ℕ → Tree → Type 0
IsLow n (Leaf m) = Unit {0}
IsLow zero (Split a b c d) = ⊥
IsLow (suc n) (Split a b c d) = IsLow n a × IsLow n b × IsLow n c × IsLow n d

tree_low : {X : Type 0} (g : Ground X) (n : ℕ) (items : List X) (c : Address) → IsLow n (tree_of g n items c)
unfolding tree_of
tree_low g zero items c = tt
tree_low g (suc n) items c =
    either (some_asks g c items) _ _ (tree_low g n items (child_of c 0), tree_low g n items (child_of c 1), tree_low g n items (child_of c 2), tree_low g n items (child_of c 3)) tt
  where
    either : (b : Bool) (s t : Tree) → IsLow (suc n) s → IsLow (suc n) t → IsLow (suc n) (cond b s t)
    either true s t h k = h
    either false s t h k = k

inner_low : (n k : ℕ) (t : Tree) → IsLow n t → inner k t + leaves_in k t + 1 ≤ 2 * 4 ^ n
unfolding leaves_in
inner_low n k (Leaf m) h = pow n
  where
    pow : (n : ℕ) → 0 + 1 + 1 ≤ 2 * 4 ^ n
    pow zero = omega arith
    pow (suc n) = omega (arith, pow-suc 4 n, pow n)
inner_low zero k (Split a b c d) h = absurd h
inner_low (suc n) zero (Split a b c d) h =
    let s1 = put_tree 3 empty_pack a in
    let s2 = put_tree 3 s1 b in
    let s3 = put_tree 3 s2 c in
    omega (
      arith,
      pow-suc 4 n,
      inner_low n 3 a h.0,
      inner_low n 3 b h.1,
      inner_low n 3 c h.2,
      inner_low n 3 d h.3,
      rows_leaves 3 empty_pack a,
      rows_leaves 3 s1 b,
      rows_leaves 3 s2 c,
      rows_leaves 3 s3 d,
    )
inner_low (suc n) (suc k) (Split a b c d) h =
    omega (arith, pow-suc 4 n, inner_low n k a h.0, inner_low n k b h.1, inner_low n k c h.2, inner_low n k d h.3)

pub inner_fits : {X : Type 0} (g : Ground X) (items : List X) (c : Address) (k : ℕ) → inner k (under g items c) < 2 ^ 57
unfolding under
inner_fits g items c k =
    let low : 28 - c.level ≤ 28 = omega arith in
    let e : 4 ^ (28 - c.level) ≤ 4 ^ 28 = pow-le-pow_right {n = 4} (lit≤ tt) low in
    let f : 2 * 4 ^ 28 ≤ 2 ^ 57 = lit≤ tt in
    omega (arith, inner_low (28 - c.level) k (tree_of g (28 - c.level) items c) (tree_low g (28 - c.level) items c), e, f)

pub node_fits : {X : Type 0} (g : Ground X) (items : List X) (c : Address) → node_rows (under g items c) < 2 ^ 58
node_fits g items c = omega (arith, inner_fits g items c 4, rows_more 4 empty_pack (under g items c))

pub rows_after : (k : ℕ) (s s' : Pack) (t : Tree) → s' ≡ put_tree k s t → s'.rows ≤ s.rows + 4 ^ k
rows_after k s s' t e = omega (arith, ap (λ (p : Pack). p.rows) e, rows_more k s t)

pub rows_four : (k : ℕ) (s : Pack) (t : Four) → (put_four k s t).rows ≤ s.rows + 4 * 4 ^ k
rows_four k s t =
    let s1 = put_tree k s t.a in
    let s2 = put_tree k s1 t.b in
    let s3 = put_tree k s2 t.c in
    omega (arith, rows_more k s t.a, rows_more k s1 t.b, rows_more k s2 t.c, rows_more k s3 t.d)
