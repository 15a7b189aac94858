use Rattle.std.proofs.Common.{arith, get_or}
use Rattle.act_probe.proofs.TraceFacts.{body_follows, crossed_at, crossed_twice, next_follows, ring_follows}
use Rattle.act_probe.proofs.trace.Trace.feed_next.Goals as goal

pub returns-then-self-gt0-clause-follows : goal.returns-then-self-gt0-clause-follows
returns-then-self-gt0-clause-follows c = λ k d within words answer e.
    rw (crossed_at c.args.self.now.last c.vertex-to.result c.args.run.now c.cross-at.new.run k d within c.cross-at.ensures.crossed)
    (next_follows c.args.self.now (get_or c.args.run.now k d) c.args.word words answer e _ c.cross-at.result c.vertex-to.result c.requires.stage c.vertex-to.ensures c.saturating_sub-self.ensures c.if-self-gt0.true)

pub returns-then-self-eq0-clause-follows : goal.returns-then-self-eq0-clause-follows
returns-then-self-eq0-clause-follows c = λ k d within words answer e.
    rw (crossed_twice c.args.self.now.last c.vertex-to.result c.args.self.now.first c.args.run.now c.cross-at.new.run c.cross-self.new.run k d within c.cross-at.ensures.crossed c.cross-self.ensures.crossed)
    (body_follows c.args.self.now (get_or c.args.run.now k d) c.args.word words answer e c.saturating_sub-self.result c.cross-self.result c.vertex-to.result c.requires.stage c.vertex-to.ensures c.saturating_sub-self.ensures
    (omega (arith, c.if-self-gt0.false)) c.if-self-eq0.true)

pub returns-clause-follows : goal.returns-clause-follows
returns-clause-follows c = λ k d within words answer e.
    rw (crossed_twice c.args.self.now.last c.vertex-to.result c.args.self.now.first c.args.run.now c.cross-at.new.run c.cross-self.new.run k d within c.cross-at.ensures.crossed c.cross-self.ensures.crossed)
    (ring_follows c.args.self.now (get_or c.args.run.now k d) c.args.word words answer e c.saturating_sub-self.result c.cross-self.result c.vertex-to.result c.requires.stage c.vertex-to.ensures c.saturating_sub-self.ensures
    (omega (arith, c.if-self-gt0.false)) c.if-self-eq0.false)
