use Rattle.std.proofs.Common.{◌≡◌, ◌+◌, ◌≤◌}
use Rattle.act_geom.specs.Rings.{vertices_of}
use Rattle.act_wkt.specs.Reading.{with_front}
use Rattle.act_wkt.specs.Wkt.{joined_at, polygon_at, polygons_at}
use Rattle.act_wkt.proofs.rings.read_polygons.Given as goal

abbrev pub invariant-loop-turns : goal.invariant-loop-turns
invariant-loop-turns l = record {
  few : vertices_of l.shape + l.left ≤ 262144;
  rest : with_front l.shape (joined_at (polygon_at l.digits) l.turns l.left l.rest) ≡ with_front l.fn.shape (polygons_at l.digits l.room l.fn.text);
}

abbrev pub decreases-loop-turns : goal.decreases-loop-turns
decreases-loop-turns l = l.turns
