use Rattle.std.proofs.Common.{◌≡◌, ◌≤◌, ◌++◌, drop, length, take}
use Rattle.act_script.specs.Turns.{most_sampled}
use Rattle.act_join.specs.Working.{points_of}
use Rattle.act_join.proofs.solve.gather.Given as goal

abbrev pub invariant-loop-batch : goal.invariant-loop-batch
invariant-loop-batch l = record {
  so : take most_sampled (l.list.items ++ points_of (drop l.batch-index l.batches)) ≡ take most_sampled (l.initial.list.items ++ points_of l.batches);
  few : length l.list.items ≤ 65536;
}
