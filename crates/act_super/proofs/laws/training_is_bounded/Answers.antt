use Rattle.act_super.proofs.TrainFacts.{training_is_bounded}
use Rattle.act_super.proofs.laws.training_is_bounded.Goals as goal

pub returns : goal.returns
returns c = training_is_bounded
