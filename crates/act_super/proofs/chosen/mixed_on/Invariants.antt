use Rattle.std.proofs.Common.{◌≡◌, ◌≤◌, count_by, take}
use Rattle.act_cover.specs.Covering.{class_at}
use Rattle.act_super.specs.Grounds.{is_mixed}
use Rattle.act_super.specs.Standings.{values}
use Rattle.act_super.proofs.chosen.mixed_on.Given as goal

abbrev pub invariant-loop-zone : goal.invariant-loop-zone
invariant-loop-zone l = (l.count ≡ count_by (λ s. is_mixed (class_at s.shape l.cell)) (take l.zone-index (values l.zones))) × (l.count ≤ l.zone-index)
