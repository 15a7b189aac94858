use Rattle.std.proofs.Common.{◌+◌, ◌*◌}
use Rattle.act_super.proofs.node.+near.Given as goal

abbrev pub decreases-near : goal.decreases-near
decreases-near l = 2 * l.k + 1

abbrev pub decreases-near_below : goal.decreases-near_below
decreases-near_below l = 2 * l.k + 2
