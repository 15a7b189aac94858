use Rattle.std.proofs.Common.{◌≡◌, ◌+◌, ◌*◌, ◌%◌, arith}
use Rattle.act_grid.specs.Spaced.{spaced}
use Rattle.act_grid.proofs.SpacedFacts.{column_spaced, row_spaced}
use Rattle.act_grid.proofs.interleave.interleave.Goals as goal

pub returns-clause-columns : goal.returns-clause-columns
returns-clause-columns c =
    let e : c.spread.result + c.spread-2.result * 2 % 18446744073709551616 ≡ spaced 32 c.args.x + spaced 32 c.args.y * 2 = omega arith in
    rw e (column_spaced 32 c.args.x c.args.y (omega arith))

pub returns-clause-rows : goal.returns-clause-rows
returns-clause-rows c =
    let e : c.spread.result + c.spread-2.result * 2 % 18446744073709551616 ≡ spaced 32 c.args.x + spaced 32 c.args.y * 2 = omega arith in
    rw e (row_spaced 32 c.args.x c.args.y (omega arith))
