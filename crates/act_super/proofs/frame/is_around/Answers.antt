use Rattle.std.proofs.Common.{rules}
use Rattle.std.specs.Prelude.{FitsSigned}
use Rattle.std.specs.Int.{w32}
use Rattle.std.proofs.lemmas.Int.{to_z-of_z}
use Rattle.act_super.proofs.frame.is_around.Goals as goal

pub returns : goal.returns
returns c =
    let ax : FitsSigned w32 c.args.frame.lo.x = search rules in
    let ay : FitsSigned w32 c.args.frame.lo.y = search rules in
    let bx : FitsSigned w32 c.args.frame.hi.x = search rules in
    let by : FitsSigned w32 c.args.frame.hi.y = search rules in
    let lx : FitsSigned w32 c.args.hull.lo.x = search rules in
    let ly : FitsSigned w32 c.args.hull.lo.y = search rules in
    let hx : FitsSigned w32 c.args.hull.hi.x = search rules in
    let hy : FitsSigned w32 c.args.hull.hi.y = search rules in
    simp to_z-of_z
