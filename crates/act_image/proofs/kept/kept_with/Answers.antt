use Rattle.std.proofs.Common.{◌≡◌, ◌<◌, ◌+◌, ◌∷◌, arith, drop, length, refl, subst, sym}
use Rattle.act_super.specs.declared.entry.Zone.{Zone}
use Rattle.act_super.specs.States.{with_zone, zone_key_at, zone_shape_at}
use Rattle.act_image.specs.Kept.{IsKeptChains, old_chain}
use Rattle.act_image.proofs.AfterFacts.{next_above, next_below, with_last}
use Rattle.act_image.proofs.ChainFacts.{own_key, up_begin, up_one}
use Rattle.act_image.proofs.kept.kept_with.Goals as goal
use Rattle.act_image.proofs.kept.kept_with.Goals.{then-loop-i-test+else-zone_key-key, else-loop-i-test}

pub loop-i-init : goal.loop-i-init
loop-i-init c = record {
  within = omega arith;
  put = up_begin (IsKeptChains (old_chain c.args.old.places.now c.args.old.rows.now c.args.old.from) c.args.next.now.entry c.args.shape.now) (with_zone (record { key = c.args.key; shape = c.args.shape.now }) c.args.state.now.state.zones) c.new-chains.result
      (c.new-chains.ensures _ c.args.next.now.entry c.args.shape.now);
}

pub loop-i-preserved : goal.loop-i-preserved
loop-i-preserved c =
    let zones = c.args.state.now.state.zones in
    let chain = old_chain c.args.old.places.now c.args.old.rows.now c.args.old.from in
    let new : Zone = record { key = c.args.key; shape = c.args.shape.now } in
    let low : c.loop-i.i < length zones = omega (arith, c.loop-i-test.true, c.zones.ensures) in
    let zone : Zone = record { key = zone_key_at zones c.loop-i.i; shape = zone_shape_at zones c.loop-i.i } in
    record {
      within = omega (arith, low);
      put = up_one (IsKeptChains chain c.args.next.now.entry c.args.shape.now) (with_zone new zones) (with_zone new (drop c.loop-i.i zones)) (with_zone new (drop (c.loop-i.i + 1) zones)) c.loop-i.chains c.keep.new.self c.keep.new.self zone
          (next_below zones c.loop-i.i low new (omega (arith, c.if-zone_key-key.true, c.zone_key.ensures))) c.loop-i.invariant.put
          (λ some are. c.in_ok-keep.ensures c.args.next.now.entry c.args.shape.now some (c.requires.free c.loop-i.i low) are) refl;
    }

pub returns : goal.returns
returns c =
    let zones = c.args.state.now.state.zones in
    let chain = old_chain c.args.old.places.now c.args.old.rows.now c.args.old.from in
    let e = c.args.next.now.entry in
    let new : Zone = record { key = c.args.key; shape = c.args.shape.now } in
    let next : with_zone new (drop c.loop-i.i zones) ≡ new ∷ drop c.loop-i.i zones =
    elim c.loop-i-test.branch [
      | then-loop-i-test+else-zone_key-key w ↦
          next_above zones c.loop-i.i (omega (arith, w.loop-i-test.true, c.zones.ensures)) new (omega (arith, w.if-zone_key-key.false, w.zone_key.ensures))
      | else-loop-i-test w ↦ with_last zones c.loop-i.i new (omega (arith, w.loop-i-test.false, c.zones.ensures))
    ] in
    let put = up_one (IsKeptChains chain e c.args.shape.now) (with_zone new zones) (with_zone new (drop c.loop-i.i zones)) (drop c.loop-i.i zones) c.loop-i.chains c.put.new.self c.put.new.self new next c.loop-i.invariant.put
    (λ some are. c.in_ok-put.ensures chain e some (own_key e c.args.key c.requires.key) are) refl in
    subst (λ v. IsKeptChains chain e c.args.shape.now v c.keep_rest.new.self) (sym put.left) (c.in_ok-keep_rest.ensures c.args.shape.now put.done put.are)
