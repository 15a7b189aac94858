-- The cells of a level stand in Z order.
use Rattle.std.proofs.Common.{◌≡◌, ℕ, zero, suc, ◌+◌, ◌-◌, ◌*◌, ◌^◌, ◌<◌, ◌≤◌, ap, ◌∙◌, arith, Bool, true, false, cond, List, [], ◌∷◌, ◌++◌, map, pow-suc}
use Rattle.std.specs.List.{All, flat_map, filter}
use Rattle.std.proofs.lemmas.List.Elements.{All-head, All-tail, All-filter}
use Rattle.std.proofs.Math.Nat.{mul-le-mul_right}
use Rattle.act_grid.specs.declared.Point.{Point}
use Rattle.act_grid.specs.Cell.{Address, IsCell, root_cell, child_of, id_of}
use Rattle.act_grid.proofs.CellOrder.{id_order}
use Rattle.act_geom.specs.declared.class.Class.{Class}
use Rattle.act_geom.specs.declared.class.Class.TheVariants.{Inside, Outside, Mixed}
use Rattle.act_cover.specs.Covering.{class_at, is_on, is_within, children_of, refined_as, refined, cells_at}
use Rattle.act_cover.specs.Level.{level_of, covering_of, interior_of}
use Rattle.act_cover.specs.Order.{AscendsFrom, IsAscending}
use Rattle.act_cover.proofs.Placed.{IsPlaced, placed}
use Rattle.act_cover.proofs.Greatest.{level_below}

-- where a cell begins and ends among the cells of level 30
abbrev begin : Address → ℕ
begin c = c.path * 4 ^ (30 - c.level)

abbrev end : Address → ℕ
end c = (c.path + 1) * 4 ^ (30 - c.level)

-- the cells follow each other from one place to another
abbrev Runs : ℕ → List Address → ℕ → Type 0
Runs low [] high = low ≤ high
Runs low (c ∷ cells) high = (low ≤ begin c) × Runs (end c) cells high

later : (low low' high : ℕ) (cells : List Address) → low' ≤ low → Runs low cells high → Runs low' cells high
later low low' high [] h r = omega (arith, r)
later low low' high (c ∷ cells) h r = (omega (arith, r.0), r.1)

joined : (low middle high : ℕ) (xs ys : List Address) → Runs low xs middle → Runs middle ys high → Runs low (xs ++ ys) high
joined low middle high [] ys r s = later middle low high ys r s
joined low middle high (c ∷ xs) ys r s = (r.0, joined (end c) middle high xs ys r.1 s)

begins : (c : Address) → begin c ≤ end c
begins c = mul-le-mul_right (4 ^ (30 - c.level)) (omega arith)

spans : (low high : ℕ) (cells : List Address) → Runs low cells high → low ≤ high
spans low high [] r = r
spans low high (c ∷ cells) r = omega (arith, r.0, begins c, spans (end c) high cells r.1)

filtered : (test : Address → Bool) (low high : ℕ) (cells : List Address) → Runs low cells high → Runs low (filter test cells) high
filtered test low high [] r = r
filtered test low high (c ∷ cells) r = by_case (test c) (filtered test (end c) high cells r.1)
  where
    by_case : (b : Bool) → Runs (end c) (filter test cells) high → Runs low (cond b (c ∷ filter test cells) (filter test cells)) high
    by_case true s = (r.0, s)
    by_case false s = later (end c) low high (filter test cells) (omega (arith, r.0, begins c)) s

-- the children of a cell run from its begin to its end
quarter : (c : Address) (q : ℕ) → c.level < 30 → begin (child_of c q) ≡ begin c + q * 4 ^ (30 - (c.level + 1))
quarter c q l =
    let e : 4 ^ (30 - c.level) ≡ 4 ^ (30 - (c.level + 1)) * 4 = ap (λ n. 4 ^ n) (less c.level l) ∙ pow-suc 4 (30 - (c.level + 1)) in
    omega (arith, ap (λ v. c.path * v) e)
  where
    less : (n : ℕ) → n < 30 → 30 - n ≡ suc (30 - (n + 1))
    less n h = omega arith

quarter_end : (c : Address) (q : ℕ) → c.level < 30 → end (child_of c q) ≡ begin c + (q + 1) * 4 ^ (30 - (c.level + 1))
quarter_end c q l = omega (arith, quarter c q l)

last_end : (c : Address) → c.level < 30 → begin c + (3 + 1) * 4 ^ (30 - (c.level + 1)) ≡ end c
last_end c l =
    let e : 4 ^ (30 - c.level) ≡ 4 ^ (30 - (c.level + 1)) * 4 = ap (λ n. 4 ^ n) (less c.level l) ∙ pow-suc 4 (30 - (c.level + 1)) in
    omega (arith, ap (λ v. c.path * v) e)
  where
    less : (n : ℕ) → n < 30 → 30 - n ≡ suc (30 - (n + 1))
    less n h = omega arith

children_run : (c : Address) → c.level < 30 → Runs (begin c) (children_of c) (end c)
children_run c l =
    let s = 4 ^ (30 - (c.level + 1)) in (
      omega (arith, quarter c 0 l),
      (
        omega (arith, quarter_end c 0 l, quarter c 1 l),
        (
          omega (arith, quarter_end c 1 l, quarter c 2 l),
          (omega (arith, quarter_end c 2 l, quarter c 3 l), omega (arith, quarter_end c 3 l, last_end c l)),
        ),
      ),
    )

refined_run : (rings : List (List Point)) (c : Address) (class : Class) → c.level < 30 → Runs (begin c) (refined_as class rings c) (end c)
refined_run rings c Inside l = (same (begin c), same (end c))
  where
    same : (n : ℕ) → n ≤ n
    same n = omega arith
refined_run rings c Outside l = begins c
refined_run rings c Mixed l = filtered (λ (d : Address). is_on (class_at rings d)) (begin c) (end c) (children_of c) (children_run c l)

flat_run : (rings : List (List Point)) (level low high : ℕ) (cells : List Address) → level < 30 → All (IsPlaced level) cells → Runs low cells high
    → Runs low (flat_map (refined rings) cells) high
flat_run rings level low high [] l p r = r
flat_run rings level low high (c ∷ cells) l p r =
    let at : IsPlaced level c = All-head (IsPlaced level) c cells p in
    joined low (end c) high (refined rings c) (flat_map (refined rings) cells)
    (later (begin c) low (end c) (refined rings c) r.0 (refined_run rings c (class_at rings c) (omega (arith, at.below))))
    (flat_run rings level (end c) high cells l (All-tail (IsPlaced level) c cells p) r.1)

level_runs : (rings : List (List Point)) (level : ℕ) → level ≤ 28 → Runs 0 (cells_at rings level) (4 ^ 30)
unfolding cells_at
level_runs rings zero l =
    filtered (λ (d : Address). is_on (class_at rings d)) 0 (4 ^ 30) (root_cell ∷ []) (omega arith, omega arith)
level_runs rings (suc level) l =
    flat_run rings level 0 (4 ^ 30) (cells_at rings level) (omega arith) (placed rings level (omega arith)) (level_runs rings level (omega arith))

-- cells that follow each other have ascending ids
first_id : (low : ℕ) (c d : Address) (cells : List Address) (high : ℕ) → IsCell c → IsCell d → Runs (end c) (d ∷ cells) high → id_of c + 1 ≤ id_of d
first_id low c d cells high h k r = omega (arith, id_order c d h k r.0)

ids_from : (c : Address) (cells : List Address) (high level : ℕ) → IsCell c → All (IsPlaced level) cells → Runs (end c) cells high → AscendsFrom (id_of c + 1) (map id_of cells)
ids_from c [] high level h p r = tt
ids_from c (d ∷ cells) high level h p r =
    let at : IsPlaced level d = All-head (IsPlaced level) d cells p in
    (first_id 0 c d cells high h at.cell r, ids_from d cells high level at.cell (All-tail (IsPlaced level) d cells p) r.1)

ids_run : (cells : List Address) (low high level : ℕ) → All (IsPlaced level) cells → Runs low cells high → IsAscending (map id_of cells)
ids_run [] low high level p r = tt
ids_run (c ∷ cells) low high level p r =
    let at : IsPlaced level c = All-head (IsPlaced level) c cells p in
    (omega arith, ids_from c cells high level at.cell (All-tail (IsPlaced level) c cells p) r.1)

pub covering_ascends : (rings : List (List Point)) (most : ℕ) → IsAscending (map id_of (covering_of rings most))
unfolding covering_of
covering_ascends rings most =
    let level = level_of rings most in
    ids_run (cells_at rings level) 0 (4 ^ 30) level (placed rings level (omega (arith, level_below rings most))) (level_runs rings level (level_below rings most))

pub interior_ascends : (rings : List (List Point)) (most : ℕ) → IsAscending (map id_of (interior_of rings most))
unfolding interior_of covering_of
interior_ascends rings most =
    let level = level_of rings most in
    let test : Address → Bool = λ c. is_within (class_at rings c) in
    ids_run (filter test (cells_at rings level)) 0 (4 ^ 30) level
    (All-filter test (IsPlaced level) (cells_at rings level) (placed rings level (omega (arith, level_below rings most))))
    (filtered test 0 (4 ^ 30) (cells_at rings level) (level_runs rings level (level_below rings most)))
