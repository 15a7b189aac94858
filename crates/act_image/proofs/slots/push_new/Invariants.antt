use Rattle.std.proofs.Common.{◌≡◌, ◌++◌}
use Rattle.act_image.specs.Kept.{new_slots}
use Rattle.act_image.proofs.slots.push_new.Given as goal

abbrev pub invariant-loop-i : goal.invariant-loop-i
invariant-loop-i l = l.slots.items ≡ l.fn.slots.items ++ new_slots l._i
