use Rattle.std.proofs.Common.{arith}
use Rattle.act_geom.proofs.WalkFacts.{next_taken, ring_ended}
use Rattle.act_geom.proofs.walk.Walk.feed_next.Goals as goal

pub returns-then-self-gt0 : goal.returns-then-self-gt0
returns-then-self-gt0 c = λ words answer e.
    next_taken c.args.self.now c.args.word _ _ _ words answer c.requires e
    (record { read = c.vertex-to.ensures; tested = c.edge_counts-counted.ensures; left = c.saturating_sub-self.ensures }) c.if-self-gt0.true

pub returns : goal.returns
returns c = λ words answer e.
    ring_ended c.args.self.now c.args.word _ _ _ _ words answer c.requires e
    (record { read = c.vertex-to.ensures; tested = c.edge_counts-counted.ensures; left = c.saturating_sub-self.ensures }) (omega arith) c.edge_counts-closing.ensures c.if-self-eq0.false
