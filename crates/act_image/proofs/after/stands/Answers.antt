use Rattle.std.proofs.Common.{arith, sym, ◌∙◌}
use Rattle.act_image.proofs.AfterFacts.{has_here, has_later}
use Rattle.act_image.proofs.after.stands.Goals as goal

pub returns-then-zone_key-key : goal.returns-then-zone_key-key
returns-then-zone_key-key c =
    sym (c.loop-i.invariant ∙ has_here c.args.state.now.state.zones c.loop-i.i (omega (arith, c.loop-i-test.true, c.zones-i-end.ensures)) c.args.key (sym c.zone_key.ensures ∙ c.if-zone_key-key.true))

pub loop-i-preserved : goal.loop-i-preserved
loop-i-preserved c =
    c.loop-i.invariant
    ∙ has_later c.args.state.now.state.zones c.loop-i.i (omega (arith, c.loop-i-test.true, c.zones-i-end.ensures)) c.args.key (λ e. c.if-zone_key-key.false (c.zone_key.ensures ∙ e))
