use Rattle.std.specs.Prelude.{◌≡◌, false, take}
use Rattle.act_super.specs.Grounds.{some_asks}
use Rattle.act_super.specs.Standings.{standing_ground}
use Rattle.act_super.proofs.leaf.any_asks.Given as goal

abbrev pub invariant-loop-zone : goal.invariant-loop-zone
invariant-loop-zone l = some_asks (standing_ground l.marks) l.cell (take l.zone-index l.zones) ≡ false
