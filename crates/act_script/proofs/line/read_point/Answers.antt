use Rattle.std.proofs.Common.{◌∙◌}
use Rattle.act_script.proofs.PointFacts.{point_of_two, point_of_three, point_of_four, point_of_more}
use Rattle.act_script.proofs.line.read_point.Goals as goal

pub returns-in_default : goal.returns-in_default
returns-in_default c = point_of_two c.args.digits c.args.fields.now c.in_default.ensures

pub returns-in_default-cut : goal.returns-in_default-cut
returns-in_default-cut c =
    point_of_three c.args.digits c.args.fields.now c.in-Some.id.now c.in-Some.rest.now c.in-Some.ensures.0 c.in_default-cut.ensures

pub returns-in-Some-cut-2 : goal.returns-in-Some-cut-2
returns-in-Some-cut-2 c =
    point_of_more c.args.digits c.args.fields.now c.in-Some.id.now c.in-Some-cut.x.now c.in-Some-cut-2.field-0.0.now c.in-Some-cut-2.field-0.1.now
    c.in-Some.rest.now c.in-Some-cut.y.now c.in-Some.ensures.0 c.in-Some-cut.ensures.0 c.in-Some-cut-2.ensures.0

pub returns-in-None : goal.returns-in-None
returns-in-None c =
    c.make_point.ensures
    ∙ point_of_four c.args.digits c.args.fields.now c.in-Some.id.now c.in-Some-cut.x.now c.in-Some-cut.y.now c.in-Some.rest.now
    c.in-Some.ensures.0 c.in-Some-cut.ensures.0 c.in-None.ensures
