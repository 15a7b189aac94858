use Rattle.std.proofs.Common.{◌-◌, arith, get_or, refl}
use Rattle.act_probe.proofs.TraceFacts.{crossed_at, next_follows}
use Rattle.act_probe.proofs.trace.Trace.feed_inner.Goals as goal

pub returns-clause-follows : goal.returns-clause-follows
returns-clause-follows c = λ k d within words answer e.
    rw (crossed_at c.args.self.now.last c.vertex-to.result c.args.run.now c.cross-self.new.run k d within c.cross-self.ensures.crossed)
    (next_follows c.args.self.now (get_or c.args.run.now k d) c.args.word words answer e (c.args.self.now.vertices - 1) c.cross-self.result c.vertex-to.result c.requires.stage c.vertex-to.ensures refl (omega (arith, c.requires.more)))
