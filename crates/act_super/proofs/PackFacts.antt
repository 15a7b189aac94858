-- Next-fit packing is monotone, and what a split of a leaf can add to it.
use Rattle.std.proofs.Common.{◌≡◌, ℕ, zero, suc, ◌+◌, ◌/◌, ◌<◌, ◌≤◌, ◌⊎◌, inl, inr, refl, ap, ◌∙◌, arith, Bool, true, false, cond}
use Rattle.std.specs.Prelude.{nat_lt}
use Rattle.std.proofs.lemmas.Bool.Decides.{nat_tests}
use Rattle.act_super.specs.declared.pack.Pack.{Pack}
use Rattle.act_super.specs.Trees.{Tree}
use Rattle.act_super.specs.Trees.Tree.{Leaf, Split}
use Rattle.act_super.specs.Packs.{put, put_leaf, put_tree}

-- s comes no later than t
pub data Before (s t : Pack) : Type 0 where
  SameRow : s.rows ≡ t.rows → s.at ≤ t.at → Before s t
  EarlierRow : s.rows < t.rows → Before s t

pub data Added (s : Pack) (w : ℕ) (t : Pack) : Type 0 where
  Fits : s.at + w ≤ 256 → t.rows ≡ s.rows → t.at ≡ s.at + w → Added s w t
  Opens : 256 < s.at + w → t.rows ≡ s.rows + 1 → t.at ≡ w → Added s w t

pub added_put : (s : Pack) (n : ℕ) → Added s (1 + (n + 1) / 2) (put s n)
added_put s n = by_test (nat_lt 256 (s.at + (1 + (n + 1) / 2))) refl
  where
    by_test : (b : Bool) → nat_lt 256 (s.at + (1 + (n + 1) / 2)) ≡ b
        → Added s (1 + (n + 1) / 2) (cond b (record { rows = s.rows + 1; at = 1 + (n + 1) / 2 }) (record { rows = s.rows; at = s.at + (1 + (n + 1) / 2) }))
    by_test true e = Opens (grind (arith, nat_tests)) refl refl
    by_test false e = Fits (grind (arith, nat_tests)) refl refl

pub before_refl : (s : Pack) → Before s s
before_refl s = SameRow refl (omega arith)

pub before_trans : (s t u : Pack) → Before s t → Before t u → Before s u
before_trans s t u (SameRow a b) (SameRow c d) = SameRow (omega arith) (omega arith)
before_trans s t u (SameRow a b) (EarlierRow c) = EarlierRow (omega arith)
before_trans s t u (EarlierRow a) (SameRow c d) = EarlierRow (omega arith)
before_trans s t u (EarlierRow a) (EarlierRow c) = EarlierRow (omega arith)

-- a larger list, put at a later place, ends no earlier
pub mono : (s t s' t' : Pack) (w v : ℕ) → w ≤ v → Before s t → Added s w s' → Added t v t' → Before s' t'
mono s t s' t' w v h (SameRow a b) (Fits c d e) (Fits c' d' e') = SameRow (omega arith) (omega arith)
mono s t s' t' w v h (SameRow a b) (Fits c d e) (Opens c' d' e') = EarlierRow (omega arith)
mono s t s' t' w v h (SameRow a b) (Opens c d e) (Fits c' d' e') = absurd (omega arith)
mono s t s' t' w v h (SameRow a b) (Opens c d e) (Opens c' d' e') = SameRow (omega arith) (omega arith)
mono s t s' t' w v h (EarlierRow a) (Fits c d e) (Fits c' d' e') = EarlierRow (omega arith)
mono s t s' t' w v h (EarlierRow a) (Fits c d e) (Opens c' d' e') = EarlierRow (omega arith)
mono s t s' t' w v h (EarlierRow a) (Opens c d e) (Fits c' d' e') = elim (order (s.rows + 1) t.rows) [ inl lt ↦ EarlierRow (omega arith) | inr le ↦ SameRow (omega arith) (omega arith) ]
  where
    order : (m n : ℕ) → (m < n) ⊎ (n ≤ m)
    order m n = grind arith
mono s t s' t' w v h (EarlierRow a) (Opens c d e) (Opens c' d' e') = EarlierRow (omega arith)

put_mono : (s t : Pack) (m n : ℕ) → m ≤ n → Before s t → Before (put s m) (put t n)
put_mono s t m n h b = mono s t (put s m) (put t n) (1 + (m + 1) / 2) (1 + (n + 1) / 2) (half m n h) b (added_put s m) (added_put t n)
  where
    half : (m n : ℕ) → m ≤ n → 1 + (m + 1) / 2 ≤ 1 + (n + 1) / 2
    half m n h = omega arith

put_later : (s : Pack) (n : ℕ) → Before s (put s n)
put_later s n = later (put s n) (added_put s n)
  where
    later : (t : Pack) → Added s (1 + (n + 1) / 2) t → Before s t
    later t (Fits a b c) = SameRow (omega arith) (omega arith)
    later t (Opens a b c) = EarlierRow (omega arith)

small_or : (n : ℕ) → (nat_lt n 3 ≡ true) ⊎ (nat_lt n 3 ≡ false)
small_or n = either (nat_lt n 3)
  where
    either : (b : Bool) → (b ≡ true) ⊎ (b ≡ false)
    either true = inl refl
    either false = inr refl

skips : (s : Pack) (n : ℕ) → nat_lt n 3 ≡ true → put_leaf s n ≡ s
skips s n e = ap (λ b. cond b s (put s n)) e

puts : (s : Pack) (n : ℕ) → nat_lt n 3 ≡ false → put_leaf s n ≡ put s n
puts s n e = ap (λ b. cond b s (put s n)) e

-- one more list, or a larger one, never ends earlier
pub leaf_mono : (s t : Pack) (m n : ℕ) → m ≤ n → Before s t → Before (put_leaf s m) (put_leaf t n)
leaf_mono s t m n h b =
    elim (small_or m) [
      | inl p ↦ elim (small_or n) [
        | inl q ↦ rw (skips s m p, skips t n q) b
        | inr q ↦ rw (skips s m p, puts t n q) (before_trans _ _ _ b (put_later t n))
      ]
      | inr p ↦ elim (small_or n) [
        | inl q ↦ absurd (grind (arith, nat_tests))
        | inr q ↦ rw (puts s m p, puts t n q) (put_mono s t m n h b)
      ]
    ]

pub leaf_later : (s : Pack) (n : ℕ) → Before s (put_leaf s n)
leaf_later s n = elim (small_or n) [ inl p ↦ rw (skips s n p) (before_refl s) | inr p ↦ rw (puts s n p) (put_later s n) ]

pub tree_mono : (k : ℕ) (s t : Pack) (u : Tree) → Before s t → Before (put_tree k s u) (put_tree k t u)
tree_mono k s t (Leaf n) b = leaf_mono s t n n (omega arith) b
tree_mono zero s t (Split u v w x) b = b
tree_mono (suc k) s t (Split u v w x) b = tree_mono k _ _ x (tree_mono k _ _ w (tree_mono k _ _ v (tree_mono k _ _ u b)))

-- the same place some rows later
abbrev pub later : ℕ → Pack → Pack
later p s = record { rows = s.rows + p; at = s.at }

leaf_shift : (p : ℕ) (s : Pack) (n : ℕ) → put_leaf (later p s) n ≡ later p (put_leaf s n)
leaf_shift p s n = one (nat_lt n 3) (nat_lt 256 (s.at + (1 + (n + 1) / 2)))
  where
    one : (b d : Bool) → cond b (later p s) (cond d (record { rows = s.rows + p + 1; at = 1 + (n + 1) / 2 }) (record { rows = s.rows + p; at = s.at + (1 + (n + 1) / 2) }))
        ≡ later p (cond b s (cond d (record { rows = s.rows + 1; at = 1 + (n + 1) / 2 }) (record { rows = s.rows; at = s.at + (1 + (n + 1) / 2) })))
    one true d = refl
    one false true = let e : s.rows + p + 1 ≡ s.rows + 1 + p = omega arith in ap (λ r. let q : Pack = record { rows = r; at = 1 + (n + 1) / 2 } in q) e
    one false false = refl

pub tree_shift : (k p : ℕ) (s : Pack) (u : Tree) → put_tree k (later p s) u ≡ later p (put_tree k s u)
tree_shift k p s (Leaf n) = leaf_shift p s n
tree_shift zero p s (Split u v w x) = refl
tree_shift (suc k) p s (Split u v w x) =
    ap (λ r. put_tree k r x) (ap (λ r. put_tree k r w) (ap (λ r. put_tree k r v) (tree_shift k p s u) ∙ tree_shift k p _ v) ∙ tree_shift k p _ w) ∙ tree_shift k p _ x

pub later_mono : (p : ℕ) (s t : Pack) → Before s t → Before (later p s) (later p t)
later_mono p s t (SameRow a b) = SameRow (omega arith) b
later_mono p s t (EarlierRow a) = EarlierRow (omega arith)

-- after a list of n references there is always room for one no larger, at most a row later
again : (s t : Pack) (m n : ℕ) → m ≤ n → 1 + (n + 1) / 2 ≤ t.at → Before s t → Before (put_leaf s m) (later 1 t)
again s t m n h room b = elim (small_or m) [
  | inl p ↦ rw (skips s m p) (before_trans _ _ _ b (EarlierRow (omega arith)))
  | inr p ↦ rw (puts s m p) (before_trans _ _ _ (put_mono s t m n h b) (next (put t n) (added_put t n)))
]
  where
    next : (u : Pack) → Added t (1 + (n + 1) / 2) u → Before u (later 1 t)
    next u (Fits a b c) = EarlierRow (omega arith)
    next u (Opens a b c) = SameRow (omega arith) (omega arith)

-- four lists no larger than one take at most three rows more than it
pub four_leaves : (s : Pack) (a b c d n : ℕ) → a ≤ n → b ≤ n → c ≤ n → d ≤ n
    → Before (put_leaf (put_leaf (put_leaf (put_leaf s a) b) c) d) (later 3 (put_leaf s n))
four_leaves s a b c d n ha hb hc hd = elim (small_or n) [
  | inl p ↦ rw (skips s a (less a ha p), skips s b (less b hb p), skips s c (less c hc p), skips s d (less d hd p), skips s n p) (EarlierRow (omega arith))
  | inr p ↦ rw (puts s n p) (chain (put s n) (filled (put s n) (added_put s n)) (first p))
]
  where
    less : (m : ℕ) → m ≤ n → nat_lt n 3 ≡ true → nat_lt m 3 ≡ true
    less m h p = grind (arith, nat_tests)

    filled : (t : Pack) → Added s (1 + (n + 1) / 2) t → 1 + (n + 1) / 2 ≤ t.at
    filled t (Fits x y z) = omega arith
    filled t (Opens x y z) = omega arith

    first : nat_lt n 3 ≡ false → Before (put_leaf s a) (put s n)
    first p = let e = leaf_mono s s a n ha (before_refl s) in rw (puts s n p) at e

    chain : (t : Pack) → 1 + (n + 1) / 2 ≤ t.at → Before (put_leaf s a) t → Before (put_leaf (put_leaf (put_leaf (put_leaf s a) b) c) d) (later 3 t)
    chain t room x =
        let y = again _ t b n hb room x in
        let z = again _ (later 1 t) c n hc room y in
        let v = again _ (later 1 (later 1 t)) d n hd room z in
        before_trans _ _ _ v (SameRow (omega arith) (omega arith))
