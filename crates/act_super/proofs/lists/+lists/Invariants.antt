use Rattle.std.proofs.Common.{◌+◌, ◌-◌, ◌*◌}
use Rattle.act_super.proofs.lists.+lists.Given as goal

abbrev pub decreases-lists : goal.decreases-lists
decreases-lists l = 3 * (28 - l.cell.level) + 2

abbrev pub decreases-lists_four : goal.decreases-lists_four
decreases-lists_four l = 3 * (28 - l.cell.level) + 1

abbrev pub decreases-lists_below : goal.decreases-lists_below
decreases-lists_below l = 3 * (28 - l.cell.level)
