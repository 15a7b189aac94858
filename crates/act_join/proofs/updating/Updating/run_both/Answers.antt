use Rattle.std.proofs.Common.{rules}
use Rattle.act_join.proofs.updating.Updating.run_both.Goals as goal

pub returns-clause-works : goal.returns-clause-works
returns-clause-works g c = λ table before all.
    let so = c.join_mut-all.ensures.1.met.1 table before all in
    search (so, rules)
