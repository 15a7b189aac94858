use Rattle.std.proofs.Common.{◌≡◌, [], List}
use Rattle.std.specs.Prelude.{All}
use Rattle.atomic_table.specs.Seated.{TableId}
use Rattle.act_rows.specs.History.{History}
use Rattle.act_script.specs.declared.segment.Batch.{Batch}
use Rattle.act_join.specs.Working.{Makes}
use Rattle.act_join.specs.Workers.{AreSettled, IsWorking}
use Rattle.act_join.specs.declared.worker.Worker.{Worker}
use Rattle.act_join.proofs.team.dismiss.Given as goal

abbrev pub invariant-loop : goal.invariant-loop
invariant-loop l = record {
  tables : All (λ (worker : Worker). worker.reader.table ≡ l.writer.table) l.team.items;
  made : Makes l.fn.writer l.writer [];
  settled : (table : TableId) (before : History) (batches : List Batch) → All (IsWorking table before batches) l.fn.team.items
      → AreSettled before l.fn.writer.desk.history batches l.fn.slots.items → All (IsWorking table before batches) l.team.items × AreSettled before l.writer.desk.history batches l.slots.items;
}
