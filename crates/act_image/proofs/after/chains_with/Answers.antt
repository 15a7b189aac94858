use Rattle.std.proofs.Common.{◌≡◌, ◌<◌, ◌∷◌, arith, drop, length, refl, subst, sym}
use Rattle.act_super.specs.declared.entry.Zone.{Zone}
use Rattle.act_super.specs.States.{with_zone}
use Rattle.act_image.specs.Plans.{IsChains}
use Rattle.act_image.proofs.AfterFacts.{begin_all, next_above, next_below, put_one, put_own, same_rest, with_last}
use Rattle.act_image.proofs.after.chains_with.Goals as goal
use Rattle.act_image.proofs.after.chains_with.Goals.{then-loop-i-test+else-zone_key-key, else-loop-i-test}

pub loop-i-init : goal.loop-i-init
loop-i-init c = record { within = omega arith; put = begin_all _ _ c.new-chains.result c.new-chains.ensures refl }

pub loop-i-preserved : goal.loop-i-preserved
loop-i-preserved c =
    let zones = c.args.state.now.state.zones in
    let new : Zone = record { key = c.args.key; shape = c.args.shape.now } in
    let low : c.loop-i.i < length zones = omega (arith, c.loop-i-test.true, c.zones.ensures) in
    record {
      within = omega (arith, low);
      put = put_own zones c.loop-i.i _ _ c.zone_key-in-loop-i.ensures c.zone_shape.ensures (with_zone new zones) (with_zone new (drop c.loop-i.i zones)) _ c.loop-i.chains c.push.new.self c.push.new.self
          (next_below zones c.loop-i.i low new (omega (arith, c.if-zone_key-key.true, c.zone_key.ensures))) c.loop-i.invariant.put c.in_ok-push.ensures refl;
    }

pub returns : goal.returns
returns c =
    let zones = c.args.state.now.state.zones in
    let new : Zone = record { key = c.args.key; shape = c.args.shape.now } in
    let next : with_zone new (drop c.loop-i.i zones) ≡ new ∷ drop c.loop-i.i zones =
    elim c.loop-i-test.branch [
      | then-loop-i-test+else-zone_key-key w ↦
          next_above zones c.loop-i.i (omega (arith, w.loop-i-test.true, c.zones.ensures)) new (omega (arith, w.if-zone_key-key.false, w.zone_key.ensures))
      | else-loop-i-test w ↦ with_last zones c.loop-i.i new (omega (arith, w.loop-i-test.false, c.zones.ensures))
    ] in
    let put = put_one (with_zone new zones) (drop c.loop-i.i zones) c.loop-i.chains c.push-2.new.self new (same_rest (with_zone new zones) _ (new ∷ drop c.loop-i.i zones) c.loop-i.chains next c.loop-i.invariant.put) c.in_ok-push-2.ensures in
    subst (λ v. IsChains v c.push_rest.new.chains) (sym put.left) (c.in_ok-push_rest.ensures put.done put.are)
