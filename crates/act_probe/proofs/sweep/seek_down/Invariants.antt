use Rattle.act_probe.specs.Sweeps.{IsAboveFrom}
use Rattle.act_probe.proofs.sweep.seek_down.Given as goal

abbrev pub invariant-loop-at : goal.invariant-loop-at
invariant-loop-at l = IsAboveFrom l.v.y l.at l.run

abbrev pub decreases-loop-at : goal.decreases-loop-at
decreases-loop-at l = l.at
