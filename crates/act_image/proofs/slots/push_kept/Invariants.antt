use Rattle.std.proofs.Common.{◌≡◌, ◌++◌, take}
use Rattle.act_image.specs.Kept.{kept_slots}
use Rattle.act_image.proofs.slots.push_kept.Given as goal

abbrev pub invariant-loop-row : goal.invariant-loop-row
invariant-loop-row l = l.slots.items ≡ l.fn.slots.items ++ kept_slots (take l.row-index l.rows)
