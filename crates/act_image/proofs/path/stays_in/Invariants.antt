use Rattle.std.proofs.Common.{take}
use Rattle.act_image.specs.Paths.{StaysIn}
use Rattle.act_image.proofs.path.stays_in.Given as goal

abbrev pub invariant-loop-i : goal.invariant-loop-i
invariant-loop-i l = StaysIn (take l.i l.sources) l.count l.stays.items
