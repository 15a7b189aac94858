use Rattle.std.proofs.Common.{◌<◌, ◌≤◌, ap, arith, drop, length, refl, sym, ◌∙◌}
use Rattle.std.proofs.lemmas.List.{drop_all}
use Rattle.act_super.specs.States.{reshaped}
use Rattle.act_image.proofs.AfterFacts.{begin_all, end_all, next_reshaped, next_same, put_new, put_own}
use Rattle.act_image.proofs.after.reshaped_chains.Goals as goal
use Rattle.act_image.proofs.after.reshaped_chains.Goals.{then-zone_key-key+in_ok-push, else-zone_key-key+in_ok-push-2}

pub loop-i-init : goal.loop-i-init
loop-i-init c = begin_all _ _ c.new-chains.result c.new-chains.ensures refl

pub loop-i-preserved : goal.loop-i-preserved
loop-i-preserved c =
    let zones = c.args.state.now.state.zones in
    let all = reshaped c.args.key c.args.shape.now zones in
    let low : c.loop-i.i < length zones = omega (arith, c.loop-i-test.true, c.zones-i-end.ensures) in
    elim c.if-zone_key-key.branch [
      | then-zone_key-key+in_ok-push w ↦
          put_new all (reshaped c.args.key c.args.shape.now (drop c.loop-i.i zones)) _ c.loop-i.chains w.push.new.self c.if-zone_key-key.chains _
          (next_reshaped zones c.loop-i.i low c.args.key c.args.shape.now (sym c.zone_key.ensures ∙ w.if-zone_key-key.true)) c.loop-i.invariant w.in_ok-push.ensures w.chains-is
      | else-zone_key-key+in_ok-push-2 w ↦
          put_own zones c.loop-i.i _ _ w.zone_key-else-zone_key-key.ensures w.zone_shape.ensures all (reshaped c.args.key c.args.shape.now (drop c.loop-i.i zones)) _ c.loop-i.chains w.push-else-zone_key-key.new.self c.if-zone_key-key.chains
          (next_same zones c.loop-i.i low c.args.key c.args.shape.now (λ e. w.if-zone_key-key.false (c.zone_key.ensures ∙ e))) c.loop-i.invariant w.in_ok-push-2.ensures w.chains-is
    ]

pub returns : goal.returns
returns c =
    let zones = c.args.state.now.state.zones in
    let high : length zones ≤ c.loop-i.i = omega (arith, c.loop-i-test.false, c.zones-i-end.ensures) in
    end_all (reshaped c.args.key c.args.shape.now zones) (reshaped c.args.key c.args.shape.now (drop c.loop-i.i zones)) c.loop-i.chains c.loop-i.invariant (ap (reshaped c.args.key c.args.shape.now) (drop_all c.loop-i.i zones high))
