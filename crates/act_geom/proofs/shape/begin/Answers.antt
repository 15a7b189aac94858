use Rattle.std.proofs.Common.{arith}
use Rattle.act_geom.proofs.LaidFacts.{begin_before}
use Rattle.act_geom.proofs.shape.begin.Goals as goal

pub returns-else-k-eq0 : goal.returns-else-k-eq0
returns-else-k-eq0 c = begin_before c.args.ends.now c.args.k (omega arith)
