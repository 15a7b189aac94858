use Rattle.act_cover.proofs.Ascending.{covering_ascends, interior_ascends}
use Rattle.act_cover.proofs.laws.ids_ascend.Goals as goal

pub returns-clause-covering : goal.returns-clause-covering
returns-clause-covering c = covering_ascends

pub returns-clause-interior : goal.returns-clause-interior
returns-clause-interior c = interior_ascends
