use Rattle.std.proofs.Common.{◌≤◌}
use Rattle.act_rows.specs.Bounds.{lowest}
use Rattle.act_rows.proofs.master.lowest_free.Given as goal

abbrev pub invariant-loop-at : goal.invariant-loop-at
invariant-loop-at l = l.at ≤ lowest l.bounds
