use Rattle.act_cover.proofs.Greatest.{level_below, level_fits, level_greatest}
use Rattle.act_cover.proofs.laws.level_is_the_greatest.Goals as goal

pub returns-clause-deep : goal.returns-clause-deep
returns-clause-deep c = level_below

pub returns-clause-fits : goal.returns-clause-fits
returns-clause-fits c = level_fits

pub returns-clause-greatest : goal.returns-clause-greatest
returns-clause-greatest c = level_greatest
