use Rattle.act_wkt.proofs.WholeLaws.{read_rings, rings_read}
use Rattle.act_wkt.proofs.reader.read.Goals as goal

pub returns-in-Ok-clause-grammar : goal.returns-in-Ok-clause-grammar
returns-in-Ok-clause-grammar c = rings_read c.args.digits c.args.text.now c.read_whole.new.shape c.in-Ok.ensures

pub returns-in-Ok-clause-only : goal.returns-in-Ok-clause-only
returns-in-Ok-clause-only c = λ rings is. let said = read_rings c.args.digits c.args.text.now rings is in let here = c.in-Ok.ensures in cc

pub returns-in-Err-At-clause-only : goal.returns-in-Err-At-clause-only
returns-in-Err-At-clause-only c = λ rings is. let said = read_rings c.args.digits c.args.text.now rings is in let here = rw c.in-Err-At.field-0-is at c.in-Err-At.ensures in absurd (cc)
