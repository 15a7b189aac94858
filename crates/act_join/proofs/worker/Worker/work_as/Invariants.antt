use Rattle.atomic_table.specs.Seated.{TableId}
use Rattle.act_rows.specs.History.{History}
use Rattle.act_join.specs.Workers.{IsWorking, MayDraw}
use Rattle.act_join.proofs.worker.Worker.work_as.Given as goal

abbrev pub invariant-loop : goal.invariant-loop
invariant-loop g l = record {
  works : (table : TableId) (before : History) → IsWorking table before l.batches l.fn.self → IsWorking table before l.batches l.self;
  draws : MayDraw l.batches l.self;
}
