use Rattle.act_image.proofs.FirstFacts.{first_shown}
use Rattle.act_image.proofs.tests.first_needed.Goals as goal

pub needed-requires-clause-stands : goal.needed-requires-clause-stands
needed-requires-clause-stands c = first_shown c.args.state.now.settings c.in_ok-image.image c.args.state.now.state c.in_ok-image.ensures c.requires.empty
