use Rattle.std.proofs.Common.{◌≡◌, take}
use Rattle.act_image.specs.Plans.{found_refs}
use Rattle.act_image.proofs.walk.slots.Given as goal

abbrev pub invariant-loop-r : goal.invariant-loop-r
invariant-loop-r l = l.slots.items ≡ found_refs l.places (take l.r-index l.refs)
