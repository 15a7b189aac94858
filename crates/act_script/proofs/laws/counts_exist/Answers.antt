use Rattle.act_script.proofs.CountFacts as facts
use Rattle.act_script.proofs.laws.counts_exist.Goals as goal

pub returns : goal.returns
returns c = facts.least_counts_are_fair
