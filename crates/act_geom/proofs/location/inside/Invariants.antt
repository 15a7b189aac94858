use Rattle.std.proofs.Common.{◌≡◌, drop}
use Rattle.act_geom.specs.Edges.{edges_of}
use Rattle.act_geom.specs.Inside.{counts, differ, is_odd_by, is_inside}
use Rattle.act_geom.proofs.location.inside.Given as goal

-- the rings so far and those to come have the shape's parity
abbrev pub invariant-loop-k : goal.invariant-loop-k
invariant-loop-k l = differ l.odd (is_odd_by (counts l.p) (edges_of (drop l.k l.shape))) ≡ is_inside l.shape l.p
