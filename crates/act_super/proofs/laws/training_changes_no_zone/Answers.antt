use Rattle.act_super.proofs.HistoryFacts.{state_has_zones, training_changes_no_zone}
use Rattle.act_super.proofs.laws.training_changes_no_zone.Goals as goal

pub returns-clause-state : goal.returns-clause-state
returns-clause-state c = state_has_zones

pub returns-clause-updates : goal.returns-clause-updates
returns-clause-updates c = training_changes_no_zone
