use Rattle.std.proofs.Common.{◌+◌, ◌-◌, ◌*◌}
use Rattle.act_super.proofs.both.+both.Given as goal

abbrev pub decreases-both : goal.decreases-both
decreases-both l = 3 * (28 - l.cell.level) + 2

abbrev pub decreases-both_four : goal.decreases-both_four
decreases-both_four l = 3 * (28 - l.cell.level) + 1

abbrev pub decreases-both_below : goal.decreases-both_below
decreases-both_below l = 3 * (28 - l.cell.level)
