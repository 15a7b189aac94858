use Rattle.std.proofs.Common.{◌∙◌, sym}
use Rattle.act_probe.proofs.SettleFacts.{no_candidate}
use Rattle.act_probe.proofs.SweepFacts.{above_here, is_high}
use Rattle.act_probe.proofs.sweep.seek_up.Goals as goal

pub returns-else-is_under : goal.returns-else-is_under
returns-else-is_under c = above_here c.args.run.now c.loop-at.at c.args.v.y no_candidate c.requires.ascends c.loop-at.invariant (is_high _ _ (sym c.is_under.ensures ∙ c.if-is_under.false))
