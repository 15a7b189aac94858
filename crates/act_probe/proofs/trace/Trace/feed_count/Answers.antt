use Rattle.act_probe.proofs.TraceFacts.{count_follows}
use Rattle.act_probe.proofs.trace.Trace.feed_count.Goals as goal

pub returns-clause-follows : goal.returns-clause-follows
returns-clause-follows c = λ d words answer e. count_follows c.args.self.now d c.args.word words answer e _ c.requires c.saturating_sub-self.ensures
