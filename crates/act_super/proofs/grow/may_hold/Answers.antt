use Rattle.std.proofs.Common.{◌≡◌, Bool, true, false}
use Rattle.std.specs.Prelude.{IsTrue}
use Rattle.act_grid.specs.Cell.{hull_of}
use Rattle.act_grid.specs.Hull.{IsIn}
use Rattle.act_grid.proofs.CellOrder.{part_within}
use Rattle.act_super.proofs.grow.may_hold.Goals as goal

never : (b : Bool) → IsTrue b → b ≡ false → ⊥
never true t e = cc
never false t e = cc

pub returns : goal.returns
returns c = λ no part.
    let within = part_within c.args.cell c.args.fresh c.level-level.ensures.cell c.level-deep.ensures.cell part in
    let there : IsIn (hull_of c.args.cell) c.hull-hull.result.lo = rw c.hull-hull.ensures within.low in
    never c.contains.result (c.contains.ensures.1 there) no
