use Rattle.std.proofs.Common.{arith}
use Rattle.act_geom.proofs.LaidFacts.{rings_few}
use Rattle.act_geom.proofs.BodyFacts.{length-words}
use Rattle.act_geom.proofs.body.body_len.Goals as goal

pub overflow_add-result : goal.overflow_add-result
overflow_add-result c = omega (arith, rings_few c.args.shape.now c.rings.ensures.shape)

pub overflow_add-result-2 : goal.overflow_add-result-2
overflow_add-result-2 c = omega (arith, rings_few c.args.shape.now c.rings.ensures.shape)

pub returns : goal.returns
returns c = omega (arith, length-words c.args.shape.now)
