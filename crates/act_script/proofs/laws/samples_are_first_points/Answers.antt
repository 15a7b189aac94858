use Rattle.act_script.proofs.SampleFacts as facts
use Rattle.act_script.proofs.laws.samples_are_first_points.Goals as goal

pub returns : goal.returns
returns c = facts.samples_are_first_points
