use Rattle.std.proofs.Common.{◌+◌, ◌-◌, ◌*◌}
use Rattle.act_super.proofs.whole.+whole.Given as goal

abbrev pub decreases-whole : goal.decreases-whole
decreases-whole l = 3 * (28 - l.cell.level) + 2

abbrev pub decreases-whole_four : goal.decreases-whole_four
decreases-whole_four l = 3 * (28 - l.cell.level) + 1

abbrev pub decreases-whole_below : goal.decreases-whole_below
decreases-whole_below l = 3 * (28 - l.cell.level)
