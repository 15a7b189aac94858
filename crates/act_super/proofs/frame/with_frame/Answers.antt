use Rattle.std.proofs.Common.{rules}
use Rattle.std.specs.Prelude.{FitsSigned}
use Rattle.std.specs.Int.{w32}
use Rattle.std.proofs.lemmas.Int.{to_z-of_z}
use Rattle.act_super.proofs.frame.with_frame.Goals as goal

pub returns-clause-first : goal.returns-clause-first
returns-clause-first c =
    let lx : FitsSigned w32 c.args.frame.lo.x = search rules in
    let ly : FitsSigned w32 c.args.frame.lo.y = search rules in
    let hx : FitsSigned w32 c.args.frame.hi.x = search rules in
    let hy : FitsSigned w32 c.args.frame.hi.y = search rules in
    let mx : FitsSigned w32 c.min.result = search rules in
    let my : FitsSigned w32 c.min-2.result = search rules in
    let nx : FitsSigned w32 c.max.result = search rules in
    let ny : FitsSigned w32 c.max-2.result = search rules in
    let west = simp to_z-of_z at c.min.ensures.self_bound in
    let south = simp to_z-of_z at c.min-2.ensures.self_bound in
    let east = simp to_z-of_z at c.max.ensures.self_bound in
    let north = simp to_z-of_z at c.max-2.ensures.self_bound in
    simp to_z-of_z (record { west = west; east = east; south = south; north = north })

pub returns-clause-second : goal.returns-clause-second
returns-clause-second c =
    let lx : FitsSigned w32 c.args.other.lo.x = search rules in
    let ly : FitsSigned w32 c.args.other.lo.y = search rules in
    let hx : FitsSigned w32 c.args.other.hi.x = search rules in
    let hy : FitsSigned w32 c.args.other.hi.y = search rules in
    let mx : FitsSigned w32 c.min.result = search rules in
    let my : FitsSigned w32 c.min-2.result = search rules in
    let nx : FitsSigned w32 c.max.result = search rules in
    let ny : FitsSigned w32 c.max-2.result = search rules in
    let west = simp to_z-of_z at c.min.ensures.other_bound in
    let south = simp to_z-of_z at c.min-2.ensures.other_bound in
    let east = simp to_z-of_z at c.max.ensures.other_bound in
    let north = simp to_z-of_z at c.max-2.ensures.other_bound in
    simp to_z-of_z (record { west = west; east = east; south = south; north = north })
