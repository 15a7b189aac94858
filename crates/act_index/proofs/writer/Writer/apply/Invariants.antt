use Rattle.std.proofs.Common.{◌≡◌, take, drop}
use Rattle.act_index.specs.Runs.{IsRun, entries_of}
use Rattle.act_index.proofs.writer.Writer.apply.Given as goal

abbrev pub invariant-loop-at : goal.invariant-loop-at
invariant-loop-at g l = record {
  rest : l.waiting.items ≡ drop l.at l.fn.changes;
  run : IsRun l.fn.self l.self (entries_of (take l.at l.fn.changes));
}
