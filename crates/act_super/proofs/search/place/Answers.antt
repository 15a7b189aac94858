use Rattle.std.proofs.lemmas.List.Sorted.{searched}
use Rattle.act_super.proofs.Rising.{ordered}
use Rattle.act_super.proofs.search.place.Goals as goal

pub returns : goal.returns
returns c = searched c.args.keys.now c.args.key _ c.binary_search.ensures.position (ordered 0 c.args.keys.now c.requires)
