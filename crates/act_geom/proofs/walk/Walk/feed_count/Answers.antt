use Rattle.act_geom.proofs.WalkFacts.{count_taken}
use Rattle.act_geom.proofs.walk.Walk.feed_count.Goals as goal

pub returns : goal.returns
returns c = λ words answer e. count_taken c.args.self.now c.args.word _ words answer c.requires e c.saturating_sub-self.ensures
