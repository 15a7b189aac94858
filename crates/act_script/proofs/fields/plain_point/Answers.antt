use Rattle.act_script.proofs.PointFacts.{point_line}
use Rattle.act_script.proofs.fields.plain_point.Goals as goal

pub returns-in-None : goal.returns-in-None
returns-in-None c = point_line c.args.line.now c.in_ok-fields.fields.now c.in_ok-fields.ensures c.requires c.in-None.ensures
