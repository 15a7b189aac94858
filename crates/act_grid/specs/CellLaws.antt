-- Laws of cells.
use Rattle.std.specs.Prelude.{◌≡◌, ℕ, ◌+◌, ◌<◌, ◌≤◌, ◌⊎◌, ◌↔◌}
use Rattle.act_grid.specs.declared.point.Point.{Point}
use Rattle.act_grid.specs.Hull.{IsIn, IsWithin}
use Rattle.act_grid.specs.Cell.{Address, IsCell, IsPart, ComesBefore, child_of, id_of, hull_of, first_entry, entries_filled, entry_cell}

-- the grid points of a child are grid points of its parent
abbrev pub ChildLiesWithin : Type 0
ChildLiesWithin =
    (c : Address) (q : ℕ) → IsCell c → c.level < 30 → q < 4 → IsWithin (hull_of c) (hull_of (child_of c q))

-- each grid point of a cell lies in one of its children
abbrev pub ChildrenCover : Type 0
ChildrenCover =
    (c : Address) (p : Point) → IsCell c → c.level < 30 → IsIn (hull_of c) p
    → (q : ℕ) × (q < 4) × IsIn (hull_of (child_of c q)) p

-- two cells of a level that hold the same point are the same
abbrev pub ALevelHasOneCell : Type 0
ALevelHasOneCell =
    (c d : Address) (p : Point) → IsCell c → IsCell d → c.level ≡ d.level → IsIn (hull_of c) p → IsIn (hull_of d) p → c ≡ d

-- of two cells that share a point the smaller one is part of the other
abbrev pub SharedPointMakesPart : Type 0
SharedPointMakesPart =
    (c d : Address) (p : Point) → IsCell c → IsCell d → c.level ≤ d.level → IsIn (hull_of c) p → IsIn (hull_of d) p → IsPart c d

-- a part lies within
abbrev pub PartLiesWithin : Type 0
PartLiesWithin = (c d : Address) → IsCell c → IsCell d → IsPart c d → IsWithin (hull_of c) (hull_of d)

-- of two cells neither of which is part of the other, one comes before the other
abbrev pub OneComesBefore : Type 0
OneComesBefore =
    (c d : Address) → IsCell c → IsCell d → (IsPart c d → ⊥) → (IsPart d c → ⊥) → ComesBefore c d ⊎ ComesBefore d c

-- a cell that comes before another one has the smaller id
abbrev pub IdsHaveZOrder : Type 0
IdsHaveZOrder = (c d : Address) → IsCell c → IsCell d → ComesBefore c d → id_of c < id_of d

-- two cells with one id are the same
abbrev pub IdsDiffer : Type 0
IdsDiffer = (c d : Address) → IsCell c → IsCell d → id_of c ≡ id_of d → c ≡ d

-- the entries of a cell's slot are those whose cells are part of it
abbrev pub SlotIsItsEntries : Type 0
SlotIsItsEntries =
    (c : Address) (node_level entry : ℕ) → node_level ≤ c.level → c.level ≤ node_level + 4 → entry < 256
    → ((first_entry c node_level ≤ entry) × (entry < first_entry c node_level + entries_filled c node_level))
    ↔ IsPart c (entry_cell c node_level entry)
