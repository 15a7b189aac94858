use Rattle.std.proofs.Common.{rules, int_lt}
use Rattle.std.specs.Prelude.{FitsSigned}
use Rattle.std.specs.Int.{w32}
use Rattle.std.proofs.lemmas.Int.{to_z-of_z}
use Rattle.act_geom.proofs.BoxFacts.{as_four}
use Rattle.act_geom.proofs.touch.boxes_meet.Goals as goal

pub returns : goal.returns
returns c =
    let ax : FitsSigned w32 c.args.a.x = search rules in
    let ay : FitsSigned w32 c.args.a.y = search rules in
    let bx : FitsSigned w32 c.args.b.x = search rules in
    let by : FitsSigned w32 c.args.b.y = search rules in
    let lx : FitsSigned w32 c.args.hull.lo.x = search rules in
    let ly : FitsSigned w32 c.args.hull.lo.y = search rules in
    let hx : FitsSigned w32 c.args.hull.hi.x = search rules in
    let hy : FitsSigned w32 c.args.hull.hi.y = search rules in
    simp to_z-of_z
    (as_four (int_lt c.args.a.x c.args.hull.lo.x) (int_lt c.args.b.x c.args.hull.lo.x) (int_lt c.args.hull.hi.x c.args.a.x) (int_lt c.args.hull.hi.x c.args.b.x)
    (int_lt c.args.a.y c.args.hull.lo.y) (int_lt c.args.b.y c.args.hull.lo.y) (int_lt c.args.hull.hi.y c.args.a.y) (int_lt c.args.hull.hi.y c.args.b.y))
