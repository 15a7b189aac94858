use Rattle.std.proofs.Common.{◌≤◌, ◌^◌, arith, lit<}
use Rattle.std.proofs.Math.Nat.{one-le-pow}
use Rattle.act_wkt.proofs.writer.power_of_ten.Goals as goal

pub returns-clause-some : goal.returns-clause-some
returns-clause-some c = let some : 1 ≤ 10 ^ c.from.result = one-le-pow c.from.result 10 (lit< tt) in omega (arith, some)
