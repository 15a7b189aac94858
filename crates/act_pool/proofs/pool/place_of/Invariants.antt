use Rattle.std.proofs.Common.{◌<◌, ◌≤◌, length, drop}
use Rattle.act_pool.specs.Retired.{Each}
use Rattle.act_pool.proofs.pool.place_of.Given as goal

abbrev pub invariant-loop-at : goal.invariant-loop-at
invariant-loop-at l = (l.at ≤ length l.retired.items) × Each (λ _ w. l.version < w) (drop l.at l.retired.items)

abbrev pub decreases-loop-at : goal.decreases-loop-at
decreases-loop-at l = l.at
