use Rattle.std.proofs.Common.{◌≡◌, ◌+◌, [], ◌∷◌}
use Rattle.act_rows.specs.Versions.{newest}
use Rattle.act_rows_uses.proofs.Filling.{IsFresh}
use Rattle.act_rows_uses.proofs.turns.write_all.Given as goal

abbrev pub invariant-loop-row : goal.invariant-loop-row
invariant-loop-row g l = record {
  tables : (l.master.table ≡ l.fn.master.table) × (l.guest.table ≡ l.fn.master.table);
  rows : l.master.desk.rows ≡ 4;
  fresh : IsFresh l.master.desk.versions l.row;
  version : newest l.master.desk + 2 ≡ l.row;
}

abbrev pub ghosts-advance : goal.ghosts-advance
ghosts-advance g a = record { entry = a.row ∷ []; rows = a.row ∷ []; firsts = [] }
