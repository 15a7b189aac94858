use Rattle.std.specs.Prelude.{◌≡◌, false, take}
use Rattle.act_super.specs.Grounds.{some_asks}
use Rattle.act_super.specs.Listings.{listed_ground}
use Rattle.act_super.proofs.listed.any_asks.Given as goal

abbrev pub invariant-loop-one : goal.invariant-loop-one
invariant-loop-one l = some_asks (listed_ground l.marks) l.cell (take l.one-index l.zones) ≡ false
