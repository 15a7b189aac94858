use Rattle.act_super.proofs.BlankFacts.{blank_stands}
use Rattle.act_super.proofs.laws.blank_image_stands.Goals as goal

pub returns : goal.returns
returns c = blank_stands
