use Rattle.std.proofs.Common.{◌≡◌, drop, take}
use Rattle.act_rows.specs.History.{Begins, History}
use Rattle.act_join.specs.Working.{AreFound}
use Rattle.act_join.specs.Workers.{AreSettled}
use Rattle.act_join.proofs.team.answer_rest.Given as goal

abbrev pub invariant-loop-batch : goal.invariant-loop-batch
invariant-loop-batch g l = record {
  found : (before : History) → Begins before l.fn.reader.ticket.seen → AreSettled before l.fn.reader.ticket.seen l.batches l.fn.slots.items
      → AreFound before l.reader.ticket.seen (take l.batch-index l.batches) l.answers.items;
  left : l.rest.items ≡ drop l.batch-index l.fn.slots.items;
  later : Begins l.fn.reader.ticket.seen l.reader.ticket.seen;
  table : l.reader.table ≡ l.fn.reader.table;
}
