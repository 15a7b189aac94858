-- Rows and references with one zone more or less.
use Rattle.std.proofs.Common.{◌≡◌, ℕ, zero, suc, ◌+◌, ◌<◌, ◌≤◌, refl, sym, ap, ◌∙◌, arith, append_assoc, add-one, true, false, List, [], ◌∷◌, ◌++◌, length, length-append, get_or, take, drop}
use Rattle.std.specs.Prelude.{sum_by}
use Rattle.std.proofs.lemmas.List.{take-append-drop}
use Rattle.std.proofs.lemmas.List.Sums.{sum_by-append, sum_by-cons}
use Rattle.act_grid.specs.Cell.{Address, root_cell}
use Rattle.act_cover.specs.Covering.{class_at, is_on}
use Rattle.act_super.specs.declared.both.Shift.{Shift}
use Rattle.act_super.specs.declared.pack.Pack.{Pack}
use Rattle.act_super.specs.declared.standing.Standing.{Standing}
use Rattle.act_super.specs.Grounds.{on}
use Rattle.act_super.specs.Packs.{empty_pack, inner, node_rows, put_tree, reference_limit}
use Rattle.act_super.specs.Shifts.{IsMost, IsShift, added}
use Rattle.act_super.specs.Sizes.{chain_rows}
use Rattle.act_super.specs.Standings.{standing_ground, standing_most, standing_rows}
use Rattle.act_super.specs.Trees.{most, under}
use Rattle.act_super.proofs.AddFacts.{on_added, on_not_added, under_at_place}
use Rattle.act_super.proofs.ShiftFacts.{shift_is, shift_node, shift_none}
use Rattle.act_super.proofs.StateFacts.{joined}
use Rattle.act_super.proofs.TopFacts.{top_under}

abbrev chain_of : Standing → ℕ
chain_of s = chain_rows s.shape

pub parted_rows : (trained : List Address) (xs : List Standing) → standing_rows trained xs ≡ node_rows (under (standing_ground trained) xs root_cell) + sum_by chain_of xs
unfolding standing_rows
parted_rows trained xs = refl

pub plain_most : (xs : List Standing) → standing_most xs ≡ most (under (standing_ground []) xs root_cell)
unfolding standing_most
plain_most xs = refl

pub added_rows : (trained : List Address) (xs : List Standing) (z : Standing) → standing_rows trained (added xs z) ≡ node_rows (under (standing_ground trained) (added xs z) root_cell) + (sum_by chain_of xs + chain_rows z.shape)
added_rows trained xs z =
    let chains : sum_by chain_of (added xs z) ≡ sum_by chain_of xs + chain_rows z.shape = omega (arith, sum_by-append chain_of xs (z ∷ []), sum_by-cons chain_of z []) in
    parted_rows trained (added xs z) ∙ ap (λ n. node_rows (under (standing_ground trained) (added xs z) root_cell) + n) chains

-- a zone at its place counts as one at the end
rows_at_place : (trained : List Address) (before after : List Standing) (z : Standing) → standing_rows trained (before ++ (z ∷ after)) ≡ standing_rows trained (added (before ++ after) z)
rows_at_place trained before after z =
    let nodes = ap node_rows (under_at_place (standing_ground trained) before after z root_cell) in
    omega (
      arith,
      parted_rows trained (before ++ (z ∷ after)),
      added_rows trained (before ++ after) z,
      nodes,
      sum_by-append chain_of before (z ∷ after),
      sum_by-cons chain_of z after,
      sum_by-append chain_of before after,
    )

most_at_place : (before after : List Standing) (z : Standing) → standing_most (before ++ (z ∷ after)) ≡ standing_most (added (before ++ after) z)
most_at_place before after z = plain_most (before ++ (z ∷ after)) ∙ ap most (under_at_place (standing_ground []) before after z root_cell) ∙ sym (plain_most (added (before ++ after) z))

append_nil : {X : Type 0} (xs : List X) → xs ++ [] ≡ xs
append_nil [] = refl
append_nil (x ∷ xs) = ap (λ r. x ∷ r) (append_nil xs)

others_are : (xs : List Standing) (from to : ℕ) → joined xs from [] to ≡ take from xs ++ drop to xs
others_are xs from to = ap (λ r. r ++ drop to xs) (append_nil (take from xs))

pub rows_joined : (trained : List Address) (xs : List Standing) (from to : ℕ) (z : Standing) → standing_rows trained (joined xs from (z ∷ []) to) ≡ standing_rows trained (added (joined xs from [] to) z)
rows_joined trained xs from to z =
    ap (standing_rows trained) (append_assoc (take from xs) (z ∷ []) (drop to xs)) ∙ rows_at_place trained (take from xs) (drop to xs) z ∙ ap (λ r. standing_rows trained (added r z)) (sym (others_are xs from to))

pub most_joined : (xs : List Standing) (from to : ℕ) (z : Standing) → standing_most (joined xs from (z ∷ []) to) ≡ standing_most (added (joined xs from [] to) z)
most_joined xs from to z =
    ap standing_most (append_assoc (take from xs) (z ∷ []) (drop to xs)) ∙ most_at_place (take from xs) (drop to xs) z ∙ ap (λ r. standing_most (added r z)) (sym (others_are xs from to))

whole_list : (xs : List Standing) (i : ℕ) (z : Standing) → i < length xs → z ≡ get_or xs i z → joined xs i (z ∷ []) (i + 1) ≡ xs
whole_list xs i z less e = append_assoc (take i xs) (z ∷ []) (drop (i + 1) xs) ∙ ap (λ j. take i xs ++ z ∷ drop j xs) (add-one i) ∙ parts xs i less e
  where
    parts : (xs : List Standing) (i : ℕ) → i < length xs → z ≡ get_or xs i z → take i xs ++ z ∷ drop (suc i) xs ≡ xs
    parts [] i less e = absurd (omega arith)
    parts (x ∷ xs) zero less e = ap (λ y. y ∷ xs) e
    parts (x ∷ xs) (suc i) less e = ap (λ ys. x ∷ ys) (parts xs i (omega arith) e)

-- all zones are those but one, and that one
pub rows_removed : (trained : List Address) (xs : List Standing) (i : ℕ) (z : Standing) → i < length xs → z ≡ get_or xs i z → standing_rows trained xs ≡ standing_rows trained (added (joined xs i [] (i + 1)) z)
rows_removed trained xs i z less e = ap (standing_rows trained) (sym (whole_list xs i z less e)) ∙ rows_joined trained xs i (i + 1) z

pub most_removed : (xs : List Standing) (i : ℕ) (z : Standing) → i < length xs → z ≡ get_or xs i z → standing_most xs ≡ standing_most (added (joined xs i [] (i + 1)) z)
most_removed xs i z less e = ap standing_most (sym (whole_list xs i z less e)) ∙ most_joined xs i (i + 1) z

pub joined_same : (xs : List Standing) (i : ℕ) → joined xs i [] i ≡ xs
joined_same xs i = others_are xs i i ∙ take-append-drop i xs

-- the greatest number of references, where the other side keeps the limit
pub most_with : (old new p q : ℕ) (s : Shift) → IsShift old new p q s → p ≤ reference_limit → IsMost s.with q
most_with old new p q s h k = record {
  above = λ above. omega (arith, h.with_low, h.with_high);
  below = λ below. omega (arith, h.with_high);
}

pub most_found : (found real : ℕ) → found ≡ real → IsMost found real
most_found found real e = record { above = λ above. e; below = λ below. omega (arith, e) }

pub most_without : (old new p q : ℕ) (s : Shift) → IsShift old new p q s → q ≤ reference_limit → IsMost s.without p
most_without old new p q s h k = record {
  above = λ above. omega (arith, h.without_low, h.without_high);
  below = λ below. omega (arith, h.without_high);
}

-- the shift that a descent from the root finds
pub top_shift : (marks : List Address) (others here : List Standing) (z : Standing) (root : Address) (first last first' last' : Pack) (s : Shift)
    → root ≡ root_cell → here ≡ on (standing_ground marks) others root → is_on (class_at z.shape root) ≡ true → first ≡ empty_pack → first' ≡ empty_pack
    → last ≡ put_tree 4 first (under (standing_ground marks) here root) → last' ≡ put_tree 4 first' (under (standing_ground marks) (added here z) root)
    → IsShift (inner 4 (under (standing_ground marks) here root)) (inner 4 (under (standing_ground marks) (added here z) root)) (most (under (standing_ground marks) here root)) (most (under (standing_ground marks) (added here z) root)) s
    → IsShift (node_rows (under (standing_ground marks) others root_cell)) (node_rows (under (standing_ground marks) (added others z) root_cell)) (most (under (standing_ground marks) others root_cell)) (most (under (standing_ground marks) (added others z) root_cell))
    (record { less = last.rows + s.less; more = last'.rows + s.more; without = s.without; with = s.with })
top_shift marks others here z root first last first' last' s r h z_on e e' put put' shift =
    let g = standing_ground marks in
    let old : under (standing_ground marks) others root_cell ≡ under g here root = sym (top_under marks others here root r h) in
    let more : added here z ≡ on g (added others z) root = ap (λ xs. added xs z) h ∙ sym (on_added g others z root z_on) in
    let new : under (standing_ground marks) (added others z) root_cell ≡ under g (added here z) root = sym (top_under marks (added others z) (added here z) root r more) in
    let rows : (put_tree 4 empty_pack (under g here root)).rows ≡ last.rows = ap (λ (p : Pack). p.rows) (sym (put ∙ ap (λ p. put_tree 4 p (under g here root)) e)) in
    let rows' : (put_tree 4 empty_pack (under g (added here z) root)).rows ≡ last'.rows = ap (λ (p : Pack). p.rows) (sym (put' ∙ ap (λ p. put_tree 4 p (under g (added here z) root)) e')) in
    let a : node_rows (under (standing_ground marks) others root_cell) ≡ 1 + last.rows + inner 4 (under g here root) = ap node_rows old ∙ ap (λ n. 1 + n + inner 4 (under g here root)) rows in
    let b : node_rows (under (standing_ground marks) (added others z) root_cell) ≡ 1 + last'.rows + inner 4 (under g (added here z) root) = ap node_rows new ∙ ap (λ n. 1 + n + inner 4 (under g (added here z) root)) rows' in
    shift_is _ _ _ _ _ _ _ _ _ a b (ap most old) (ap most new) (shift_node _ _ _ _ last.rows last'.rows s shift)

-- a zone that is Outside on the root changes nothing
pub top_apart : (marks : List Address) (others : List Standing) (z : Standing) → is_on (class_at z.shape root_cell) ≡ false
    → IsShift (node_rows (under (standing_ground marks) others root_cell)) (node_rows (under (standing_ground marks) (added others z) root_cell)) (most (under (standing_ground marks) others root_cell)) (most (under (standing_ground marks) (added others z) root_cell))
    (record { less = 0; more = 0; without = 0; with = 0 })
top_apart marks others z off =
    let g = standing_ground marks in
    let same : under g (added others z) root_cell ≡ under g others root_cell =
    sym (top_under marks (added others z) (on g (added others z) root_cell) root_cell refl refl)
    ∙ ap (λ xs. under g xs root_cell) (on_not_added g others z root_cell off)
    ∙ top_under marks others (on g others root_cell) root_cell refl refl in
    shift_is _ _ _ _ _ _ _ _ _ refl (ap node_rows same) refl (ap most same) (shift_none (node_rows (under g others root_cell)) (most (under g others root_cell)))

pub length_joined : (xs : List Standing) (from to : ℕ) (z : Standing) → length (joined xs from (z ∷ []) to) ≡ length (joined xs from [] to) + 1
length_joined xs from to z =
    omega (
      arith,
      length-append (take from xs ++ (z ∷ [])) (drop to xs),
      length-append (take from xs) (z ∷ []),
      length-append (take from xs ++ []) (drop to xs),
      length-append (take from xs) [],
    )

-- all zones but one are one fewer
pub length_removed : (xs : List Standing) (i : ℕ) (z : Standing) → i < length xs → z ≡ get_or xs i z → length (joined xs i [] (i + 1)) + 1 ≡ length xs
length_removed xs i z less e = sym (length_joined xs i (i + 1) z) ∙ ap (λ r. length r) (whole_list xs i z less e)
