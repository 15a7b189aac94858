use Rattle.std.proofs.Common.{◌≡◌, ◌+◌}
use Rattle.act_rows_uses.proofs.Filling.{Filled}
use Rattle.act_rows_uses.proofs.numbers.advance.Given as goal

abbrev pub invariant-loop-place : goal.invariant-loop-place
invariant-loop-place g l = record {
  table : l.master.table ≡ l.fn.master.table;
  filled : Filled l.fn.master.desk l.master.desk l.row l.place l.version;
  ticks : l.steps ≡ l.initial.steps + l.place;
}
