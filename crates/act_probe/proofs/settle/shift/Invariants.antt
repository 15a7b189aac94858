use Rattle.std.proofs.Common.{◌≡◌, ◌≤◌, ◌++◌, drop, length, take}
use Rattle.act_probe.specs.Batches.{chosen}
use Rattle.act_probe.proofs.settle.shift.Given as goal

-- the kept pairs before the index stand in front, and those from it on are where they were
abbrev pub invariant-loop-i : goal.invariant-loop-i
invariant-loop-i l = record {
  long : length l.hits ≡ length l.fn.hits;
  below : l.to ≤ l.i;
  at : take l.to l.hits ++ chosen (drop l.i l.kept) (drop l.i l.hits) ≡ chosen l.kept l.fn.hits;
}
