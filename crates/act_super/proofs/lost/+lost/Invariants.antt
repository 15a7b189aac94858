use Rattle.std.proofs.Common.{◌+◌, ◌-◌, ◌*◌}
use Rattle.act_super.proofs.lost.+lost.Given as goal

abbrev pub decreases-lost : goal.decreases-lost
decreases-lost l = 3 * (28 - l.cell.level) + 2

abbrev pub decreases-lost_four : goal.decreases-lost_four
decreases-lost_four l = 3 * (28 - l.cell.level) + 1

abbrev pub decreases-lost_below : goal.decreases-lost_below
decreases-lost_below l = 3 * (28 - l.cell.level)
