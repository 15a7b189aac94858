use Rattle.std.proofs.Common.{◌<◌, ◌≤◌, ap, arith, drop, length, refl, sym, ◌∙◌}
use Rattle.std.proofs.lemmas.List.{drop_all}
use Rattle.act_super.specs.States.{without_key}
use Rattle.act_image.proofs.AfterFacts.{begin_all, end_all, next_dropped, next_kept, not_put, put_own}
use Rattle.act_image.proofs.after.chains_without.Goals as goal
use Rattle.act_image.proofs.after.chains_without.Goals.{then-zone_key-key+in_ok-push, else-zone_key-key}

pub loop-i-init : goal.loop-i-init
loop-i-init c = begin_all _ _ c.new-chains.result c.new-chains.ensures refl

pub loop-i-preserved : goal.loop-i-preserved
loop-i-preserved c =
    let zones = c.args.state.now.state.zones in
    let all = without_key c.args.key zones in
    let low : c.loop-i.i < length zones = omega (arith, c.loop-i-test.true, c.zones-i-end.ensures) in
    elim c.if-zone_key-key.branch [
      | then-zone_key-key+in_ok-push w ↦
          put_own zones c.loop-i.i _ _ w.zone_key-then-zone_key-key.ensures w.zone_shape.ensures all (without_key c.args.key (drop c.loop-i.i zones)) _ c.loop-i.chains w.push.new.self c.if-zone_key-key.chains
          (next_kept zones c.loop-i.i low c.args.key (λ e. w.if-zone_key-key.true (c.zone_key.ensures ∙ e))) c.loop-i.invariant w.in_ok-push.ensures w.chains-is
      | else-zone_key-key w ↦
          not_put all (without_key c.args.key (drop c.loop-i.i zones)) _ c.loop-i.chains c.if-zone_key-key.chains (next_dropped zones c.loop-i.i low c.args.key (sym c.zone_key.ensures ∙ w.if-zone_key-key.false)) c.loop-i.invariant w.chains-is
    ]

pub returns : goal.returns
returns c =
    let zones = c.args.state.now.state.zones in
    let high : length zones ≤ c.loop-i.i = omega (arith, c.loop-i-test.false, c.zones-i-end.ensures) in
    end_all (without_key c.args.key zones) (without_key c.args.key (drop c.loop-i.i zones)) c.loop-i.chains c.loop-i.invariant (ap (without_key c.args.key) (drop_all c.loop-i.i zones high))
