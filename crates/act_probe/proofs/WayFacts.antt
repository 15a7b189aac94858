-- The nodes on the way down to a point.
use Rattle.std.proofs.Common.{◌≡◌, ℕ, ◌+◌, ◌-◌, ◌*◌, ◌/◌, ◌%◌, ◌^◌, ◌<◌, ◌≤◌, ◌⊎◌, inl, inr, true, false, refl, sym, ap, ◌∙◌, subst, arith}
use Rattle.std.proofs.lemmas.Bool.{ltb-false, ltb-true}
use Rattle.std.proofs.lemmas.Nat.{div_below, pow_pos, pow-add, shr-shr}
use Rattle.std.proofs.Math.Nat.{div-eq_of_lt}
use Rattle.act_grid.specs.declared.Point.{Point}
use Rattle.act_grid.specs.declared.Settings.{Settings}
use Rattle.act_grid.specs.Hull.{IsIn}
use Rattle.act_grid.specs.Cell.{Address, IsCell, hull_of, root_cell}
use Rattle.act_grid.proofs.CellFacts.{four}
use Rattle.act_grid.proofs.CellOrder.{in_within, part_within}
use Rattle.act_super.specs.declared.entry.State.{State}
use Rattle.act_super.specs.Grounds.{leaf_at, leaf_within}
use Rattle.act_super.specs.Nodes.{entry_cell, first_leaf, ground_of, is_parted}
use Rattle.act_probe.specs.Ways.{over}
use Rattle.act_probe.proofs.LeafFacts.{agree}

-- the entry of a node on the way: the next four numbers of the path
abbrev pub entry_on : ℕ → ℕ → ℕ
entry_on path l = path / 4 ^ (26 - l) % 256

-- the same number by a quotient of a quotient
quotient : (path l : ℕ) → l ≤ 26 → path / 4 ^ (26 - l) / 256 ≡ path / 4 ^ (30 - l)
quotient path l few =
    let e : 2 * (26 - l) + 8 ≡ 2 * (30 - l) = omega (arith, few) in
    ap (λ v. path / v / 256) (four (26 - l)) ∙ shr-shr path (2 * (26 - l)) 8 ∙ ap (λ n. path / 2 ^ n) e ∙ ap (λ v. path / v) (sym (four (30 - l)))

-- the cell of that entry is the next one on the way
pub entry_is : (path l : ℕ) → l ≤ 26 → entry_cell (over path l) (entry_on path l) ≡ over path (l + 4)
entry_is path l few =
    let e : 30 - (l + 4) ≡ 26 - l = omega arith in
    let whole : path / 4 ^ (30 - l) * 256 + path / 4 ^ (26 - l) % 256 ≡ path / 4 ^ (30 - (l + 4)) =
    ap (λ v. v * 256 + path / 4 ^ (26 - l) % 256) (sym (quotient path l few)) ∙ omega arith ∙ ap (λ n. path / 4 ^ n) (sym e) in
    ap (λ v. record { level = l + 4; path = v }) whole

-- the entry as it is read from the id of the cell of level 30
pub entry_of_id : (path l : ℕ) → l ≤ 26 → (path * 2 + 1) / 2 ^ (53 - 2 * l) % 256 ≡ entry_on path l
entry_of_id path l few =
    let e : 53 - 2 * l ≡ 1 + 2 * (26 - l) = omega (arith, few) in
    let half : (path * 2 + 1) / 2 ^ 1 ≡ path = omega arith in
    ap (λ n. (path * 2 + 1) / 2 ^ n % 256) e ∙ ap (λ v. v % 256) (sym (shr-shr (path * 2 + 1) 1 (2 * (26 - l))))
    ∙ ap (λ v. v / 2 ^ (2 * (26 - l)) % 256) half ∙ ap (λ v. path / v % 256) (sym (four (26 - l)))

-- ---- cells and their points
pub first_in : (c : Address) → IsCell c → IsIn (hull_of c) (hull_of c).lo
first_in c cell =
    let none : c.level - c.level ≡ 0 = omega arith in
    let same : c.path / 4 ^ (c.level - c.level) ≡ c.path = ap (λ n. c.path / 4 ^ n) none ∙ omega arith in
    (part_within c c cell cell (record { below = omega arith; begins = same })).low

pub root_is : IsCell root_cell
root_is = record { deep = omega arith; short = omega arith }

pub in_root : (c : Address) (p : Point) → IsCell c → IsIn (hull_of c) p → IsIn (hull_of root_cell) p
in_root c p cell inside =
    let all : c.level - 0 ≡ c.level = omega arith in
    let none : c.path / 4 ^ (c.level - 0) ≡ 0 = ap (λ n. c.path / 4 ^ n) all ∙ div-eq_of_lt cell.short in
    in_within (hull_of root_cell) (hull_of c) p (part_within root_cell c root_is cell (record { below = omega arith; begins = none })) inside

four_pos : (n : ℕ) → 0 < 4 ^ n
four_pos n = rw (four n) (pow_pos (2 * n))

-- ---- the cells above a cell of level 30 that holds the point
module _ (p : Point) (path : ℕ) (cell : IsCell (record { level = 30; path = path })) (inside : IsIn (hull_of (record { level = 30; path = path })) p) where
  pub over_cell : (l : ℕ) → l ≤ 30 → IsCell (over path l)
  over_cell l few =
      let e : 30 ≡ l + (30 - l) = omega (arith, few) in
      let whole : path < 4 ^ l * 4 ^ (30 - l) = subst (λ v. path < v) (ap (λ n. 4 ^ n) e ∙ pow-add 4 l (30 - l)) cell.short in
      record { deep = few; short = div_below path (4 ^ (30 - l)) (4 ^ l) (four_pos (30 - l)) whole }

  pub over_holds : (l : ℕ) → l ≤ 30 → IsIn (hull_of (over path l)) p
  over_holds l few =
      in_within (hull_of (over path l)) (hull_of (record { level = 30; path = path })) p
      (part_within (over path l) (record { level = 30; path = path }) (over_cell l few) cell (record { below = few; begins = refl })) inside

  module _ (settings : Settings) (state : State) where
    leaf : Address
    leaf = leaf_at (ground_of settings state) state.zones p

    pub same_leaf : (l : ℕ) → l ≤ 28 → is_parted settings state (over path l) ≡ false → first_leaf settings state (over path l) ≡ leaf_at (ground_of settings state) state.zones p
    unfolding leaf_at
    same_leaf l few whole =
        let d = over path l in
        let cell_d = over_cell l (omega (arith, few)) in
        let lo = first_in d cell_d in
        sym (agree (ground_of settings state) state.zones 28 root_cell d p (hull_of d).lo root_is cell_d (omega arith) (in_root d p cell_d (over_holds l (omega (arith, few)))) (in_root d (hull_of d).lo cell_d lo)
        (over_holds l (omega (arith, few))) lo (omega arith) (ltb-false l _ whole))

    pub below_node : (l : ℕ) → l ≤ 28 → is_parted settings state (over path l) ≡ true → l < (leaf_at (ground_of settings state) state.zones p).level
    unfolding leaf_at
    below_node l few parted =
        let d = over path l in
        let cell_d = over_cell l (omega (arith, few)) in
        let lo = first_in d cell_d in
        let more : l < (leaf_within (ground_of settings state) 28 state.zones root_cell (hull_of d).lo).level = ltb-true l _ parted in
        by (sides (leaf_within (ground_of settings state) 28 state.zones root_cell p).level) more
        (agree (ground_of settings state) state.zones 28 root_cell d (hull_of d).lo p root_is cell_d (omega arith) (in_root d (hull_of d).lo cell_d lo) (in_root d p cell_d (over_holds l (omega (arith, few))))
        lo (over_holds l (omega (arith, few))) (omega arith))
      where
        sides : (a : ℕ) → (l < a) ⊎ (a ≤ l)
        sides a = grind arith

        by : {a b : Address} → (l < a.level) ⊎ (a.level ≤ l) → l < b.level → (a.level ≤ l → b ≡ a) → l < a.level
        by (inl below) more same = below
        by {a} {b} (inr above) more same = absurd (omega (arith, more, above, ap (λ (c : Address). c.level) (same above)))
