use Rattle.std.specs.Prelude.{◌≡◌, All, map, take}
use Rattle.act_grid.specs.Cell.{IsCell, id_of}
use Rattle.act_super.proofs.marks.Marks.of.Given as goal

abbrev pub invariant-loop-cell : goal.invariant-loop-cell
invariant-loop-cell l = record {
  all : l.all.items ≡ take l.cell-index l.cells;
  ids : l.ids.items ≡ map id_of (take l.cell-index l.cells);
  cells : All IsCell (take l.cell-index l.cells);
}
