use Rattle.std.proofs.lemmas.List.Sorted.{searched}
use Rattle.act_super.proofs.marks.place_in.Goals as goal

pub returns : goal.returns
returns c = searched c.args.ids.now c.args.id _ c.binary_search.ensures.position (λ i j less within. c.requires i j 0 less within)
