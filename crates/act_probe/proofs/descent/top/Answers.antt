use Rattle.act_probe.proofs.EntryFacts.{top_is}
use Rattle.act_probe.proofs.descent.top.Goals as goal

pub returns : goal.returns
returns c = top_is c.args.p c.leaf.result c.id.result c.leaf.ensures.level c.leaf.ensures.cell c.leaf.ensures.holds c.id.ensures
