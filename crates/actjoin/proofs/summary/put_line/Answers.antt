use Rattle.std.proofs.Common.{◌++◌, codes, decimal}
use Rattle.actjoin.proofs.PutFacts.{first_failed, put_then}
use Rattle.actjoin.proofs.summary.put_line.Goals as goal

pub returns-in_err-put_numbered : goal.returns-in_err-put_numbered
returns-in_err-put_numbered g c =
    first_failed _ (c.args.name.now ++ decimal c.args.number) (codes "\n") c.from_residual.result c.from_residual.ensures.0 c.in_err-put_numbered.ensures

pub returns : goal.returns
returns g c = put_then _ _ _ _ _ _ (c.args.name.now ++ decimal c.args.number) (codes "\n") c.put.result c.in_ok-put_numbered.ensures c.put.ensures
