use Rattle.std.proofs.Common.{◌++◌, codes, decimal}
use Rattle.actjoin.proofs.PutFacts.{first_failed, put_then}
use Rattle.actjoin.proofs.message.put_wkt_fault.Goals as goal

pub returns-in_err-put_both : goal.returns-in_err-put_both
returns-in_err-put_both g c =
    rw (← c.wkt_name.ensures) (first_failed _ (codes "wkt " ++ c.wkt_name.result.now) (codes " at " ++ decimal c.args.place) c.from_residual.result
    c.from_residual.ensures.0 c.in_err-put_both.ensures)

pub returns : goal.returns
returns g c =
    rw (← c.wkt_name.ensures) (put_then _ _ _ _ _ _ (codes "wkt " ++ c.wkt_name.result.now) (codes " at " ++ decimal c.args.place) c.put_numbered.result
    c.in_ok-put_both.ensures c.put_numbered.ensures)
