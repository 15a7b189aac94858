use Rattle.std.proofs.Common.{◌+◌, ◌-◌, ◌*◌}
use Rattle.act_super.proofs.chosen.+choose.Given as goal

abbrev pub decreases-choose : goal.decreases-choose
decreases-choose l = 2 * (28 - l.cell.level) + 1

abbrev pub decreases-choose_four : goal.decreases-choose_four
decreases-choose_four l = 2 * (28 - l.cell.level)
