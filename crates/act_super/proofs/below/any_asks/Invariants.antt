use Rattle.std.specs.Prelude.{◌≡◌, false, take}
use Rattle.act_super.specs.Grounds.{some_asks}
use Rattle.act_super.specs.Standings.{standing_ground, values}
use Rattle.act_super.proofs.below.any_asks.Given as goal

abbrev pub invariant-loop-zone : goal.invariant-loop-zone
invariant-loop-zone l = some_asks (standing_ground l.marks) l.fn.cell (take l.zone-index (values l.zones)) ≡ false
