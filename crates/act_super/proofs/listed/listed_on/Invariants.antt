use Rattle.std.specs.Prelude.{◌≡◌, take}
use Rattle.act_super.specs.Grounds.{on, some_asks}
use Rattle.act_super.specs.Listings.{listed_ground}
use Rattle.act_super.proofs.listed.listed_on.Given as goal

abbrev pub invariant-loop-one : goal.invariant-loop-one
invariant-loop-one l =
    (l.found.items ≡ on (listed_ground l.marks) (take l.one-index l.zones) l.cell)
    × (l.asked ≡ some_asks (listed_ground l.marks) l.cell (take l.one-index l.zones))
