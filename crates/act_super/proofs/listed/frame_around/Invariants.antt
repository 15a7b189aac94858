use Rattle.std.specs.Prelude.{take}
use Rattle.act_super.specs.Listings.{AreFramed}
use Rattle.act_super.proofs.listed.frame_around.Given as goal

abbrev pub invariant-loop-one : goal.invariant-loop-one
invariant-loop-one l = AreFramed l.frame (take l.one-index l.zones)
