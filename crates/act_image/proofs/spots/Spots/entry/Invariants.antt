use Rattle.std.proofs.Common.{◌≡◌, drop}
use Rattle.act_image.specs.Words.{entry_in}
use Rattle.act_image.proofs.spots.Spots.entry.Given as goal

abbrev pub invariant-loop-spot : goal.invariant-loop-spot
invariant-loop-spot l = entry_in l.spot-items l.i ≡ entry_in (drop l.spot-index l.spot-items) l.i
