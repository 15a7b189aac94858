use Rattle.std.proofs.Common.{◌≡◌, length, arith}
use Rattle.act_geom.proofs.LaidFacts.{ends_after, rings_seen, shape_seen}
use Rattle.act_geom.proofs.shape.Shape.rings.Goals as goal

pub overflow_cast-result : goal.overflow_cast-result
overflow_cast-result c = omega (arith, ends_after _ _ _ c.self.invariant.fits)

pub returns-clause-value : goal.returns-clause-value
returns-clause-value c =
    let n : length c.args.self.now ≡ length c.self.inside.ends.items = rings_seen _ _ _ c.self.view_is in
    omega arith

pub returns-clause-shape : goal.returns-clause-shape
returns-clause-shape c = shape_seen _ _ _ c.self.invariant c.self.view_is
