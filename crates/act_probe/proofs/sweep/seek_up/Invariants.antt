use Rattle.std.proofs.Common.{◌-◌, ◌≤◌, length}
use Rattle.act_probe.proofs.sweep.seek_up.Given as goal

abbrev pub invariant-loop-at : goal.invariant-loop-at
invariant-loop-at l = l.at ≤ length l.run

abbrev pub decreases-loop-at : goal.decreases-loop-at
decreases-loop-at l = length l.run - l.at
