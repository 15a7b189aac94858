use Rattle.std.proofs.Common.{◌-◌, ◌<◌, ◌≤◌, length}
use Rattle.act_probe.specs.Sweeps.{IsRun}
use Rattle.act_probe.proofs.settle.run_end.Given as goal

-- the candidates before the end are those of one zone
abbrev pub invariant-loop-end : goal.invariant-loop-end
invariant-loop-end l = record {
  more : l.start < l.end;
  within : l.end ≤ length l.candidates;
  rows : IsRun l.candidates l.start l.end;
}

abbrev pub decreases-loop-end : goal.decreases-loop-end
decreases-loop-end l = length l.candidates - l.end
