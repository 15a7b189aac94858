use Rattle.std.proofs.Common.{◌≡◌, ◌+◌, ◌-◌, ◌<◌, arith, length, sym, ◌∙◌}
use Rattle.act_probe.proofs.SettleFacts.{no_candidate}
use Rattle.act_probe.proofs.SweepFacts.{below_here, high_here, is_high, is_low, not_false, not_true}
use Rattle.act_probe.proofs.sweep.is_last_above.Goals as goal

pub returns-clause-yes : goal.returns-clause-yes
returns-clause-yes c = λ is.
    let one : c.args.at ≡ c.args.at - 1 + 1 = omega arith in
    let inside : c.args.at - 1 < length c.args.run.now = omega (arith, one, c.requires.within) in
    (c.args.at - 1, one, λ d. high_here c.args.run.now (c.args.at - 1) c.args.v.y no_candidate d inside (is_high _ _ (sym c.is_under.ensures ∙ not_true c.is_under.result is)))

pub returns-clause-no : goal.returns-clause-no
returns-clause-no c = λ is.
    let one : c.args.at ≡ c.args.at - 1 + 1 = omega arith in
    below_here c.args.run.now (c.args.at - 1) c.args.at c.args.v.y no_candidate c.requires.ascends one c.requires.within (is_low _ _ (sym c.is_under.ensures ∙ not_false c.is_under.result is))
