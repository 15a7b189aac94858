use Rattle.std.proofs.Common.{◌+◌, ◌-◌, ◌*◌}
use Rattle.act_super.proofs.grow.+grown.Given as goal

abbrev pub decreases-grown : goal.decreases-grown
decreases-grown l = 3 * (28 - l.cell.level) + 2

abbrev pub decreases-grown_four : goal.decreases-grown_four
decreases-grown_four l = 3 * (28 - l.cell.level) + 1

abbrev pub decreases-grown_below : goal.decreases-grown_below
decreases-grown_below l = 3 * (28 - l.cell.level)
