use Rattle.std.proofs.Common.{◌≡◌, drop, not}
use Rattle.std.specs.List.{list_all}
use Rattle.act_cover.specs.Covering.{class_at, is_on}
use Rattle.act_super.specs.States.{zone_shape_at}
use Rattle.act_image.proofs.turned.is_free.Given as goal

abbrev pub invariant-loop-place : goal.invariant-loop-place
invariant-loop-place l =
    list_all (λ i. not (is_on (class_at (zone_shape_at l.state.state.zones i) l.cell))) l.places
    ≡ list_all (λ i. not (is_on (class_at (zone_shape_at l.state.state.zones i) l.cell))) (drop l.place-index l.places)
