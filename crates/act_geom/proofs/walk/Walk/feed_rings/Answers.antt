use Rattle.act_geom.proofs.WalkFacts.{rings_taken}
use Rattle.act_geom.proofs.walk.Walk.feed_rings.Goals as goal

pub returns : goal.returns
returns c = λ words answer e. rings_taken c.args.self.now c.args.word words answer c.requires e c.if-word-eq0.false
