use Rattle.std.proofs.Common.{◌≡◌, ◌+◌, ◌++◌, drop}
use Rattle.act_image.specs.Plans.{child_spots}
use Rattle.act_image.proofs.walk.push_children.Given as goal

abbrev pub invariant-loop-i : goal.invariant-loop-i
invariant-loop-i l = l.fn.spots.items ++ child_spots l.level l.slot l.children ≡ l.spots.items ++ child_spots l.level (l.slot + l.i) (drop l.i l.children)
