use Rattle.std.proofs.Common.{◌<◌, ◌≤◌, ◌++◌, arith, drop, length, refl}
use Rattle.std.proofs.lemmas.List.{drop_all}
use Rattle.act_image.proofs.AfterFacts.{end_all, next_all, put_own}
use Rattle.act_image.proofs.after.push_rest.Goals as goal

pub loop-i-init : goal.loop-i-init
loop-i-init c = λ zones h. record { done = zones; are = h; left = refl }

pub loop-i-preserved : goal.loop-i-preserved
loop-i-preserved c = λ before h.
    let zones = c.args.state.now.state.zones in
    let low : c.loop-i.i < length zones = omega (arith, c.loop-i-test.true, c.zones-i-end.ensures) in
    put_own zones c.loop-i.i _ _ c.zone_key.ensures c.zone_shape.ensures (before ++ drop c.args.from zones) (drop c.loop-i.i zones) _ c.loop-i.chains c.push.new.self c.push.new.self
    (next_all zones c.loop-i.i low) (c.loop-i.invariant before h) c.in_ok-push.ensures refl

pub returns : goal.returns
returns c = λ before h.
    let zones = c.args.state.now.state.zones in
    let high : length zones ≤ c.loop-i.i = omega (arith, c.loop-i-test.false, c.zones-i-end.ensures) in
    end_all (before ++ drop c.args.from zones) (drop c.loop-i.i zones) c.loop-i.chains (c.loop-i.invariant before h) (drop_all c.loop-i.i zones high)
