use Rattle.act_super.proofs.LawFacts.{leaf_holds_point, one_leaf}
use Rattle.act_super.proofs.laws.leaf_holds_point.Goals as goal

pub returns-clause-holds : goal.returns-clause-holds
returns-clause-holds c = leaf_holds_point

pub returns-clause-one : goal.returns-clause-one
returns-clause-one c = one_leaf
