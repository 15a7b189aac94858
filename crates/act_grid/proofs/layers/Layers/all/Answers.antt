use Rattle.act_grid.proofs.LayerFacts.{all_are_in}
use Rattle.act_grid.proofs.layers.Layers.all.Goals as goal

pub returns-clause-each : goal.returns-clause-each
returns-clause-each c = all_are_in
