use Rattle.std.proofs.Common.{◌≤◌, ◌^◌, arith, length, lit<}
use Rattle.std.proofs.Math.Nat.{pow-le-pow_right}
use Rattle.act_grid.proofs.Cut.{value_small}
use Rattle.act_grid.proofs.Digits.{all_first}
use Rattle.act_grid.proofs.number.exponent_size.Goals as goal

pub returns-clause-small : goal.returns-clause-small
returns-clause-small c =
    let below = value_small c.args.numeral.now (all_first c.args.numeral.now (omega arith)) in
    let short : 10 ^ length c.args.numeral.now ≤ 10 ^ 3 = pow-le-pow_right (lit< tt) c.if-numeral-gt3.false in
    omega (arith, below, short)
