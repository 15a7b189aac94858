use Rattle.act_super.proofs.LawFacts.{references_answer}
use Rattle.act_super.proofs.laws.references_answer.Goals as goal

pub returns : goal.returns
returns c = references_answer
