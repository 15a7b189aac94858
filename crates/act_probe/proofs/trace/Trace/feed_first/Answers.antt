use Rattle.act_probe.proofs.TraceFacts.{first_follows}
use Rattle.act_probe.proofs.trace.Trace.feed_first.Goals as goal

pub returns-clause-follows : goal.returns-clause-follows
returns-clause-follows c = λ d words answer e.
    first_follows c.args.self.now d c.args.word words answer e _ c.seek-self.result c.vertex-first.result c.requires.stage c.vertex-first.ensures c.saturating_sub-self.ensures
