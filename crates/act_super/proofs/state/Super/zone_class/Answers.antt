use Rattle.std.proofs.Common.{◌≡◌, ◌∙◌, ap, sym, arith, length, List, ◌<◌}
use Rattle.act_cover.specs.Covering.{class_at}
use Rattle.act_grid.specs.declared.Point.{Point}
use Rattle.act_super.specs.States.{Plain, zone_shape_at}
use Rattle.act_super.specs.Places.{zones_with}
use Rattle.act_super.specs.Standings.{shapes_in}
use Rattle.act_super.proofs.StateFacts.{length_shapes, shape_at_place}
use Rattle.act_super.proofs.Keyed.{shapes_are, length-zones}
use Rattle.act_super.proofs.state.Super.zone_class.Goals as goal

pub index-requires : goal.index-requires
index-requires c =
    let zones : c.args.self.now.state.zones ≡ zones_with c.self.inside.keys.items (shapes_in c.self.inside.standings.items) = ap (λ (p : Plain). p.state.zones) (sym c.self.view_is) in
    let count = length-zones c.self.inside.keys.items (shapes_in c.self.inside.standings.items) (length_shapes c.self.inside.standings.items ∙ c.self.invariant.lengths) in
    let within : c.args.i < length (zones_with c.self.inside.keys.items (shapes_in c.self.inside.standings.items)) = rw zones at c.requires in
    omega (arith, count, within, (length_shapes c.self.inside.standings.items ∙ c.self.invariant.lengths))

pub returns : goal.returns
returns c =
    let zones : c.args.self.now.state.zones ≡ zones_with c.self.inside.keys.items (shapes_in c.self.inside.standings.items) = ap (λ (p : Plain). p.state.zones) (sym c.self.view_is) in
    let count = length-zones c.self.inside.keys.items (shapes_in c.self.inside.standings.items) (length_shapes c.self.inside.standings.items ∙ c.self.invariant.lengths) in
    let within : c.args.i < length (zones_with c.self.inside.keys.items (shapes_in c.self.inside.standings.items)) = rw zones at c.requires in
    let shape : c.index.result.now.shape ≡ zone_shape_at c.args.self.now.state.zones c.args.i =
    rw (zones, shapes_are c.self.inside.keys.items (shapes_in c.self.inside.standings.items) (length_shapes c.self.inside.standings.items ∙ c.self.invariant.lengths))
    (shape_at_place c.self.inside.standings.items c.args.i _ c.index.ensures (omega (arith, within, count, c.self.invariant.lengths))) in
    c.class_on.ensures ∙ ap (λ (s : List (List Point)). class_at s c.args.cell) shape
