use Rattle.actjoin.proofs.SumFacts.{sums_shown}
use Rattle.actjoin.proofs.demo.sums.Goals as goal

pub returns : goal.returns
returns g c = sums_shown c.args.side c.args.settings c.in_ok-showing.showing c.run.new.self c.in_ok-showing.ensures c.in_ok-run.ensures
