use Rattle.std.proofs.Common.{List}
use Rattle.std.specs.Prelude.{All}
use Rattle.act_rows.specs.History.{History}
use Rattle.act_script.specs.declared.segment.Batch.{Batch}
use Rattle.act_join.specs.Workers.{AreSettled, IsFoundAt}
use Rattle.act_join.proofs.team.put_all_found.Given as goal

abbrev pub invariant-loop : goal.invariant-loop
invariant-loop l =
    (before now : History) (batches : List Batch) → All (IsFoundAt before now batches) l.fn.found.items → AreSettled before now batches l.fn.slots.items
    → All (IsFoundAt before now batches) l.found.items × AreSettled before now batches l.slots.items
