use Rattle.std.proofs.Common.{◌≡◌, ◌+◌, ◌-◌, ◌∙◌, sym, arith}
use Rattle.act_probe.proofs.SettleFacts.{no_candidate}
use Rattle.act_probe.proofs.SweepFacts.{above_here, is_high, is_low, placed_here}
use Rattle.act_probe.proofs.sweep.seek_down.Goals as goal

pub loop-at-preserved : goal.loop-at-preserved
loop-at-preserved c =
    above_here c.args.run.now (c.loop-at.at - 1) c.args.v.y no_candidate c.requires.ascends (omega (arith, c.loop-at.invariant.within)) (is_high _ _ (sym c.is_under.ensures ∙ c.if-not-is_under.true))

pub returns-else-not-is_under : goal.returns-else-not-is_under
returns-else-not-is_under c =
    let one : c.loop-at.at ≡ c.loop-at.at - 1 + 1 = omega (arith, c.loop-at-test.true) in
    placed_here c.args.run.now (c.loop-at.at - 1) c.loop-at.at c.args.v.y no_candidate c.requires.ascends one c.loop-at.invariant (is_low _ _ (sym c.is_under.ensures ∙ c.if-not-is_under.false))
