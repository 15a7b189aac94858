use Rattle.actjoin.proofs.PutFacts.{first_failed, put_then}
use Rattle.actjoin.proofs.put.put_both.Goals as goal

pub returns-in_err-put : goal.returns-in_err-put
returns-in_err-put g c = first_failed _ c.args.first.now c.args.second.now c.from_residual.result c.from_residual.ensures.0 c.in_err-put.ensures

pub returns : goal.returns
returns g c = put_then _ _ _ _ _ _ c.args.first.now c.args.second.now c.put-2.result c.in_ok-put.ensures c.put-2.ensures
