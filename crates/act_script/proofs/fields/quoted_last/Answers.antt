use Rattle.std.proofs.Common.{◌-◌, arith, refl}
use Rattle.act_script.proofs.RowFacts.{quoted_at}
use Rattle.act_script.proofs.fields.quoted_last.Goals as goal

pub returns-in-None : goal.returns-in-None
returns-in-None c =
    quoted_at c.args.line.now _ c.in_ok-at.at (c.in_ok-at.at - 1) c.in_ok-end.end (omega (arith, c.if-at-eq0.false)) refl c.if-line.false c.if-line-at-ne44.false c.requires
    c.in_ok-at.ensures c.in_ok-end.ensures c.if-rest-end-ne34.false c.if-end-rest.false c.in-None.ensures
