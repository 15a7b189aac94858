use Rattle.act_geom.proofs.WalkFacts.{first_taken}
use Rattle.act_geom.proofs.walk.Walk.feed_first.Goals as goal

pub returns : goal.returns
returns c = λ words answer e. first_taken c.args.self.now c.args.word _ _ words answer c.requires e c.vertex-first.ensures c.saturating_sub-self.ensures
