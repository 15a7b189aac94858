use Rattle.act_grid.proofs.IdFacts.{same_id}
use Rattle.act_grid.proofs.laws.ids_differ.Goals as goal

pub returns : goal.returns
returns c = same_id
