use Rattle.act_grid.proofs.SpacedFacts.{five_together}
use Rattle.act_grid.proofs.interleave.gather.Goals as goal

pub returns : goal.returns
returns c = five_together c.args.z _ _ _ _ _ c.together-twos.ensures c.together-nibbles.ensures c.together-bytes.ensures c.together-pairs.ensures c.together.ensures
