use Rattle.std.proofs.Common.{◌≡◌, length, arith}
use Rattle.act_geom.specs.Rings.{vertices_of}
use Rattle.act_geom.proofs.LaidFacts.{vertices_seen, shape_seen}
use Rattle.act_geom.proofs.shape.Shape.vertices.Goals as goal

pub returns-clause-value : goal.returns-clause-value
returns-clause-value c =
    let n : vertices_of c.args.self.now ≡ length c.self.inside.points.items = vertices_seen _ _ _ c.self.invariant c.self.view_is in
    omega arith

pub returns-clause-shape : goal.returns-clause-shape
returns-clause-shape c = shape_seen _ _ _ c.self.invariant c.self.view_is
