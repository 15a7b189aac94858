use Rattle.std.proofs.Common.{◌<◌, ◌≤◌, arith, drop, length, refl}
use Rattle.std.proofs.lemmas.List.{drop_all}
use Rattle.act_image.proofs.AfterFacts.{begin_all, end_all, next_all, put_own}
use Rattle.act_image.proofs.after.all_chains.Goals as goal

pub loop-i-init : goal.loop-i-init
loop-i-init c = begin_all _ _ c.new-chains.result c.new-chains.ensures refl

pub loop-i-preserved : goal.loop-i-preserved
loop-i-preserved c =
    let zones = c.args.state.now.state.zones in
    let low : c.loop-i.i < length zones = omega (arith, c.loop-i-test.true, c.zones-i-end.ensures) in
    put_own zones c.loop-i.i _ _ c.zone_key.ensures c.zone_shape.ensures zones (drop c.loop-i.i zones) _ c.loop-i.chains c.push.new.self c.push.new.self (next_all zones c.loop-i.i low) c.loop-i.invariant c.in_ok-push.ensures refl

pub returns : goal.returns
returns c =
    let zones = c.args.state.now.state.zones in
    let high : length zones ≤ c.loop-i.i = omega (arith, c.loop-i-test.false, c.zones-i-end.ensures) in
    end_all zones (drop c.loop-i.i zones) c.loop-i.chains c.loop-i.invariant (drop_all c.loop-i.i zones high)
