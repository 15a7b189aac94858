use Rattle.act_probe.proofs.TraceFacts.{rings_end, rings_follow}
use Rattle.act_probe.proofs.trace.Trace.feed_rings.Goals as goal

pub returns-then-word-eq0-clause-follows : goal.returns-then-word-eq0-clause-follows
returns-then-word-eq0-clause-follows c = λ d even words answer e. rings_end c.args.self.now d c.args.word words answer e c.requires even c.if-word-eq0.true

pub returns-clause-follows : goal.returns-clause-follows
returns-clause-follows c = λ d even words answer e. rings_follow c.args.self.now d c.args.word words answer e c.requires even c.if-word-eq0.false
