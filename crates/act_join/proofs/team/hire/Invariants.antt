use Rattle.std.proofs.Common.{◌≡◌, [], List, length}
use Rattle.std.specs.Prelude.{All}
use Rattle.act_script.specs.declared.segment.Batch.{Batch}
use Rattle.act_join.specs.Working.{Makes}
use Rattle.act_join.specs.Workers.{IsWorking, MayDraw}
use Rattle.act_join.proofs.team.hire.Given as goal

abbrev pub invariant-loop : goal.invariant-loop
invariant-loop l = record {
  made : Makes l.fn.writer l.writer [];
  pieces : l.claims.keeper.pieces ≡ l.fn.claims.keeper.pieces;
  works : (batches : List Batch) → length batches ≡ l.fn.claims.keeper.pieces
      → All (IsWorking l.fn.writer.table l.fn.writer.desk.history batches) l.team.items × All (MayDraw batches) l.team.items;
}
