use Rattle.std.proofs.Common.{◌≡◌, ◌+◌, ◌<◌, ◌&&◌, true, false, not, ap, drop, get_or, length, sym, ◌∙◌}
use Rattle.std.specs.List.{list_all}
use Rattle.std.proofs.lemmas.List.Elements.{All-get_or}
use Rattle.act_cover.specs.Covering.{class_at, is_on}
use Rattle.act_super.specs.States.{zone_shape_at}
use Rattle.act_image.specs.Turned.{is_clear}
use Rattle.act_image.proofs.LoopFacts.{all_end, all_step, free_is, free_not, off_if}
use Rattle.act_image.proofs.turned.is_free.Goals as goal

pub zone_class-requires : goal.zone_class-requires
zone_class-requires c = All-get_or (λ i. i < length c.args.state.now.state.zones) c.args.places.now c.loop-place.place-index 0 c.loop-place-test.true c.requires.places.within

pub returns-then-is_on : goal.returns-then-is_on
returns-then-is_on c =
    let zones = c.args.state.now.state.zones in
    let place = get_or c.args.places.now c.loop-place.place-index 0 in
    let on : is_on (class_at (zone_shape_at zones place) c.args.cell) ≡ true = ap is_on (sym c.zone_class.ensures) ∙ sym c.is_on.ensures ∙ c.if-is_on.true in
    let first = all_step (λ i. not (is_on (class_at (zone_shape_at zones i) c.args.cell))) c.args.places.now c.loop-place.place-index 0 c.loop-place-test.true in
    let none : is_clear c.args.next.now.entry zones c.args.cell ≡ false =
    sym (c.requires.places.clear c.args.cell) ∙ c.loop-place.invariant ∙ first
    ∙ ap (λ b. not b && list_all (λ i. not (is_on (class_at (zone_shape_at zones i) c.args.cell))) (drop (c.loop-place.place-index + 1) c.args.places.now)) on in
    sym (free_not c.args.next.now.entry zones c.args.cell none)

pub loop-place-preserved : goal.loop-place-preserved
loop-place-preserved c =
    let zones = c.args.state.now.state.zones in
    let place = get_or c.args.places.now c.loop-place.place-index 0 in
    let off : is_on (class_at (zone_shape_at zones place) c.args.cell) ≡ false = ap is_on (sym c.zone_class.ensures) ∙ sym c.is_on.ensures ∙ c.if-is_on.false in
    c.loop-place.invariant ∙ all_step (λ i. not (is_on (class_at (zone_shape_at zones i) c.args.cell))) c.args.places.now c.loop-place.place-index 0 c.loop-place-test.true
    ∙ ap (λ b. not b && list_all (λ i. not (is_on (class_at (zone_shape_at zones i) c.args.cell))) (drop (c.loop-place.place-index + 1) c.args.places.now)) off

pub returns-in-Some : goal.returns-in-Some
returns-in-Some c =
    let zones = c.args.state.now.state.zones in
    let clear : is_clear c.args.next.now.entry zones c.args.cell ≡ true =
    sym (c.requires.places.clear c.args.cell) ∙ c.loop-place.invariant ∙ all_end (λ i. not (is_on (class_at (zone_shape_at zones i) c.args.cell))) c.args.places.now c.loop-place.place-index 0 c.loop-place-test.false in
    ap not c.is_on-in-Some.ensures
    ∙ sym (free_is c.args.state.now.settings c.args.state.now.state c.args.next.now.entry c.args.cell c.requires.prepared.accepted clear ∙ ap off_if (sym c.class_on.ensures ∙ c.in-Some.is))

pub returns-in-None : goal.returns-in-None
returns-in-None c =
    let zones = c.args.state.now.state.zones in
    let clear : is_clear c.args.next.now.entry zones c.args.cell ≡ true =
    sym (c.requires.places.clear c.args.cell) ∙ c.loop-place.invariant ∙ all_end (λ i. not (is_on (class_at (zone_shape_at zones i) c.args.cell))) c.args.places.now c.loop-place.place-index 0 c.loop-place-test.false in
    sym (free_is c.args.state.now.settings c.args.state.now.state c.args.next.now.entry c.args.cell c.requires.prepared.accepted clear ∙ ap off_if (sym c.class_on.ensures ∙ c.in-None.is))
