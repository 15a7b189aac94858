use Rattle.std.specs.Prelude.{take}
use Rattle.act_super.specs.Boxes.{AreFramed}
use Rattle.act_super.specs.Standings.{values}
use Rattle.act_super.proofs.below.frame_over.Given as goal

abbrev pub invariant-loop-zone : goal.invariant-loop-zone
invariant-loop-zone l = AreFramed l.frame (take l.zone-index (values l.zones))
