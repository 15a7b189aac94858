-- What splits by training add to the size.
use Rattle.std.proofs.Common.{ℕ, zero, suc, ◌+◌, ◌*◌, ◌≤◌, arith}
use Rattle.std.proofs.lemmas.Bool.Decides.{nat_tests}
use Rattle.act_super.specs.declared.pack.Pack.{Pack}
use Rattle.act_super.specs.Trees.{Tree}
use Rattle.act_super.specs.Trees.Tree.{Leaf, Split}
use Rattle.act_super.specs.Packs.{put_leaf, put_tree, inner, empty_pack, node_rows}
use Rattle.act_super.proofs.PackFacts.{Before, before_trans, later, later_mono, tree_mono, tree_shift, leaf_later, four_leaves}
use Rattle.act_super.proofs.PackFacts.Before.{SameRow, EarlierRow}

-- u comes from t by x splits of leaves, each child of which has no more references
pub data Refines : Tree → Tree → ℕ → Type 0 where
  Same : (n : ℕ) → Refines (Leaf n) (Leaf n) 0
  Within : (a b c d a' b' c' d' : Tree) (x y z w : ℕ) → Refines a a' x → Refines b b' y → Refines c c' z → Refines d d' w
      → Refines (Split a b c d) (Split a' b' c' d') (x + y + z + w)
  Grows : (n k l m o : ℕ) (a b c d : Tree) (x y z w : ℕ) → k ≤ n → l ≤ n → m ≤ n → o ≤ n
      → Refines (Leaf k) a x → Refines (Leaf l) b y → Refines (Leaf m) c z → Refines (Leaf o) d w
      → Refines (Leaf n) (Split a b c d) (x + y + z + w + 1)

-- rows of the node's lists, and rows below
pub record Bound (k : ℕ) (t u : Tree) (x : ℕ) : Type 0 where
  pub lists : ℕ
  pub nodes : ℕ
  pub sum : lists + nodes ≤ 5 * x
  pub packs : (s : Pack) → Before (put_tree k s u) (later lists (put_tree k s t))
  pub rows : inner k u ≤ inner k t + nodes

-- four parts one after the other
pub four_packs : (k p q r v : ℕ) (a b c d a' b' c' d' : Tree)
    → ((s : Pack) → Before (put_tree k s a') (later p (put_tree k s a)))
    → ((s : Pack) → Before (put_tree k s b') (later q (put_tree k s b)))
    → ((s : Pack) → Before (put_tree k s c') (later r (put_tree k s c)))
    → ((s : Pack) → Before (put_tree k s d') (later v (put_tree k s d)))
    → (s : Pack) → Before (put_tree k (put_tree k (put_tree k (put_tree k s a') b') c') d') (later (p + q + r + v) (put_tree k (put_tree k (put_tree k (put_tree k s a) b) c) d))
four_packs k p q r v a b c d a' b' c' d' f g h i s =
    let e1 = f s in
    let e2 = next (put_tree k s a') (put_tree k s a) b b' p q g e1 in
    let e3 = next _ _ c c' (p + q) r h e2 in
    next _ _ d d' (p + q + r) v i e3
  where
    join : (m n : ℕ) (t : Pack) → Before (later n (later m t)) (later (m + n) t)
    join m n t = SameRow (omega arith) (omega arith)

    next : (s t : Pack) (u u' : Tree) (m n : ℕ) → ((s : Pack) → Before (put_tree k s u') (later n (put_tree k s u))) → Before s (later m t) → Before (put_tree k s u') (later (m + n) (put_tree k t u))
    next s t u u' m n f b =
        let e = later_mono n _ _ (tree_mono k s (later m t) u b) in
        let e' = rw (tree_shift k m t u) at e in
        before_trans _ _ _ (f s) (before_trans _ _ _ e' (join m n (put_tree k t u)))

pub rows_before : (s t : Pack) → Before s t → s.rows ≤ t.rows
rows_before s t (SameRow a b) = omega arith
rows_before s t (EarlierRow a) = omega arith

four_rows : (k l m o : ℕ) → (put_leaf (put_leaf (put_leaf (put_leaf empty_pack k) l) m) o).rows ≤ 4
four_rows k l m o = omega (arith, one empty_pack k, one (put_leaf empty_pack k) l, one (put_leaf (put_leaf empty_pack k) l) m, one (put_leaf (put_leaf (put_leaf empty_pack k) l) m) o)
  where
    one : (s : Pack) (n : ℕ) → (put_leaf s n).rows ≤ s.rows + 1
    one s n = grind (arith, nat_tests)

pub bounded : (k : ℕ) (t u : Tree) (x : ℕ) → Refines t u x → Bound k t u x
bounded k t u x (Same n) = record { lists = 0; nodes = 0; sum = omega arith; packs = λ s. SameRow (omega arith) (omega arith); rows = omega arith }
bounded zero t u x' (Within a b c d a' b' c' d' x y z w h i j l) =
    let ba = bounded 3 a a' x h in
    let bb = bounded 3 b b' y i in
    let bc = bounded 3 c c' z j in
    let bd = bounded 3 d d' w l in
    let all = four_packs 3 ba.lists bb.lists bc.lists bd.lists a b c d a' b' c' d' ba.packs bb.packs bc.packs bd.packs empty_pack in
    record {
      lists = 0;
      nodes = (ba.lists + bb.lists + bc.lists + bd.lists) + (ba.nodes + bb.nodes + bc.nodes + bd.nodes);
      sum = omega (arith, ba.sum, bb.sum, bc.sum, bd.sum);
      packs = λ s. SameRow (omega arith) (omega arith);
      rows = omega (arith, rows_before _ _ all, ba.rows, bb.rows, bc.rows, bd.rows);
    }
bounded (suc k) t u x' (Within a b c d a' b' c' d' x y z w h i j l) =
    let ba = bounded k a a' x h in
    let bb = bounded k b b' y i in
    let bc = bounded k c c' z j in
    let bd = bounded k d d' w l in
    record {
      lists = ba.lists + bb.lists + bc.lists + bd.lists;
      nodes = ba.nodes + bb.nodes + bc.nodes + bd.nodes;
      sum = omega (arith, ba.sum, bb.sum, bc.sum, bd.sum);
      packs = four_packs k ba.lists bb.lists bc.lists bd.lists a b c d a' b' c' d' ba.packs bb.packs bc.packs bd.packs;
      rows = omega (arith, ba.rows, bb.rows, bc.rows, bd.rows);
    }
bounded zero t u x' (Grows n p q r v a b c d x y z w hp hq hr hv h i j l) =
    let ba = bounded 3 (Leaf p) a x h in
    let bb = bounded 3 (Leaf q) b y i in
    let bc = bounded 3 (Leaf r) c z j in
    let bd = bounded 3 (Leaf v) d w l in
    let all = four_packs 3 ba.lists bb.lists bc.lists bd.lists (Leaf p) (Leaf q) (Leaf r) (Leaf v) a b c d ba.packs bb.packs bc.packs bd.packs empty_pack in
    record {
      lists = 0;
      nodes = 5 + ((ba.lists + bb.lists + bc.lists + bd.lists) + (ba.nodes + bb.nodes + bc.nodes + bd.nodes));
      sum = omega (arith, ba.sum, bb.sum, bc.sum, bd.sum);
      packs = λ s. before_trans _ _ _ (leaf_later s n) (SameRow (omega arith) (omega arith));
      rows = omega (arith, rows_before _ _ all, four_rows p q r v, ba.rows, bb.rows, bc.rows, bd.rows);
    }
bounded (suc k) t u x' (Grows n p q r v a b c d x y z w hp hq hr hv h i j l) =
    let ba = bounded k (Leaf p) a x h in
    let bb = bounded k (Leaf q) b y i in
    let bc = bounded k (Leaf r) c z j in
    let bd = bounded k (Leaf v) d w l in
    let all = four_packs k ba.lists bb.lists bc.lists bd.lists (Leaf p) (Leaf q) (Leaf r) (Leaf v) a b c d ba.packs bb.packs bc.packs bd.packs in
    record {
      lists = 3 + (ba.lists + bb.lists + bc.lists + bd.lists);
      nodes = ba.nodes + bb.nodes + bc.nodes + bd.nodes;
      sum = omega (arith, ba.sum, bb.sum, bc.sum, bd.sum);
      packs = λ s. before_trans _ _ _ (all s) (before_trans _ _ _ (later_mono _ _ _ (four_leaves s p q r v n hp hq hr hv)) (SameRow (omega arith) (omega arith)));
      rows = omega (arith, ba.rows, bb.rows, bc.rows, bd.rows);
    }

pub size_bound : (t u : Tree) (x : ℕ) → Refines t u x → node_rows u ≤ node_rows t + 5 * x
size_bound t u x h =
    let b = bounded 4 t u x h in
    omega (arith, b.sum, b.rows, rows_before _ _ (b.packs empty_pack))
