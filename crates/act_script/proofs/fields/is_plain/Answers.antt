use Rattle.std.proofs.Common.{sym}
use Rattle.act_script.proofs.RowFacts.{filled, plain_line}
use Rattle.act_script.proofs.fields.is_plain.Goals as goal

pub returns-in-None : goal.returns-in-None
returns-in-None c = λ _. plain_line c.args.line.now (filled _ (sym c.if-is_empty.ensures)) c.if-line.false c.requires c.in-None.ensures
