use Rattle.std.proofs.Common.{◌≡◌, ◌+◌, ◌<◌, List, ℕ, Some, ap, arith, length, subst, sym, take, ◌∙◌}
use Rattle.act_super.specs.declared.entry.Entry.{Entry}
use Rattle.act_super.specs.States.{key_of}
use Rattle.act_image.specs.Turned.{IsPlaces}
use Rattle.act_image.proofs.LoopFacts.{begin_places, end_places, no_key_places, put_place, skip_place}
use Rattle.act_image.proofs.turned.places_of.Goals as goal
use Rattle.act_image.proofs.turned.places_of.Goals.{then-zone_key-key+in_ok-push, else-zone_key-key}

pub returns-in_default : goal.returns-in_default
returns-in_default c =
    subst (λ (places : List ℕ). IsPlaces c.args.next.now.entry c.args.state.now.state.zones c.args.state.now.state.zones places) (sym c.new-places.ensures.items)
    (no_key_places c.args.next.now.entry c.args.state.now.state.zones (sym c.key.ensures ∙ c.in_default.is))

pub loop-i-init : goal.loop-i-init
loop-i-init c =
    subst (λ (places : List ℕ). IsPlaces c.args.next.now.entry c.args.state.now.state.zones (take 0 c.args.state.now.state.zones) places) (sym c.new-places.ensures.items)
    (begin_places c.args.next.now.entry c.args.state.now.state.zones)

pub loop-i-preserved : goal.loop-i-preserved
loop-i-preserved c =
    let e : Entry = c.args.next.now.entry in
    let zones = c.args.state.now.state.zones in
    let key : key_of e ≡ Some c.in-Some.key = sym c.key.ensures ∙ c.in-Some.is in
    let low : c.loop-i.i < length zones = omega (arith, c.loop-i-test.true, c.zones-i-end.ensures) in
    elim c.if-zone_key-key.branch [
      | then-zone_key-key+in_ok-push w ↦
          subst (λ (places : List ℕ). IsPlaces e zones (take (c.loop-i.i + 1) zones) places) (sym (ap (λ v. v.items) w.places-is ∙ w.in_ok-push.ensures.items))
          (put_place e zones c.in-Some.key c.loop-i.i c.loop-i.places.items key low c.loop-i.invariant (sym c.zone_key.ensures ∙ w.if-zone_key-key.true))
      | else-zone_key-key w ↦
          subst (λ (places : List ℕ). IsPlaces e zones (take (c.loop-i.i + 1) zones) places) (sym (ap (λ v. v.items) w.places-is))
          (skip_place e zones c.in-Some.key c.loop-i.i c.loop-i.places.items key low c.loop-i.invariant (λ same. w.if-zone_key-key.false (c.zone_key.ensures ∙ same)))
    ]

pub returns : goal.returns
returns c = end_places c.args.next.now.entry c.args.state.now.state.zones c.loop-i.i c.loop-i.places.items (omega (arith, c.loop-i-test.false, c.zones-i-end.ensures)) c.loop-i.invariant
