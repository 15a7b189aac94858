use Rattle.std.proofs.Common.{◌≡◌, ◌+◌, ◌-◌, ◌*◌, ◌++◌, take}
use Rattle.std.specs.List.{flat_map, list_all}
use Rattle.act_super.specs.States.{after}
use Rattle.act_image.specs.Fresh.{branch_stays}
use Rattle.act_image.specs.Turned.{turned_under}
use Rattle.act_image.proofs.turned.+look.Given as goal

abbrev pub decreases-look : goal.decreases-look
decreases-look l = 2 * (28 - l.cell.level) + 1

abbrev pub decreases-look_below : goal.decreases-look_below
decreases-look_below l = 2 * (28 - l.cell.level)

abbrev pub invariant-look_below-loop-i : goal.invariant-look_below-loop-i
invariant-look_below-loop-i l = record {
  stay : l.stay ≡ list_all (branch_stays l.state.settings l.state.state (after l.state.settings l.state.state l.next.entry) l.next.entry) (take l.i l.later);
  turned : l.turned.items ≡ l.fn.turned.items ++ flat_map (turned_under l.state.settings l.state.state (after l.state.settings l.state.state l.next.entry) l.next.entry) (take l.i l.later);
}
