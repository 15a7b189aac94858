use Rattle.std.specs.Prelude.{◌≡◌, take}
use Rattle.act_super.specs.Grounds.{on, some_asks}
use Rattle.act_super.specs.Standings.{standing_ground, values}
use Rattle.act_super.proofs.narrow.part_on.Given as goal

abbrev pub invariant-loop-zone : goal.invariant-loop-zone
invariant-loop-zone l =
    (values l.found.items ≡ on (standing_ground l.marks) (take l.zone-index (values l.zones)) l.cell)
    × (l.asked ≡ some_asks (standing_ground l.marks) l.cell (take l.zone-index (values l.zones)))
