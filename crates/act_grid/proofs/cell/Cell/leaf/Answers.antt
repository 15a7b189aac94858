use Rattle.std.proofs.Common.{◌≡◌, ◌^◌, pos, ◌+ℤ◌, arith}
use Rattle.std.proofs.lemmas.Int.{ints}
use Rattle.act_grid.proofs.CellFacts.{leaf_holds}
use Rattle.act_grid.proofs.cell.Cell.leaf.Goals as goal

pub returns-clause-holds : goal.returns-clause-holds
returns-clause-holds c =
    let x : pos c.offset.result ≡ c.args.p.x +ℤ pos (2 ^ 31) = omega (arith, ints) in
    let y : pos c.offset-2.result ≡ c.args.p.y +ℤ pos (2 ^ 31) = omega (arith, ints) in
    leaf_holds c.args.p _ _ _ x y c.interleave.ensures.columns c.interleave.ensures.rows
