use Rattle.std.proofs.Common.{sym, ◌∙◌}
use Rattle.act_probe.proofs.SettleFacts.{no_candidate}
use Rattle.act_probe.proofs.SweepFacts.{above_here, is_high}
use Rattle.act_probe.proofs.sweep.is_next_under.Goals as goal

pub returns-clause-no : goal.returns-clause-no
returns-clause-no c = λ is. above_here c.args.run.now c.args.at c.args.v.y no_candidate c.requires.ascends c.requires.within (is_high _ _ (sym c.is_under.ensures ∙ is))
