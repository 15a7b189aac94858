use Rattle.std.proofs.Common.{◌+◌, ◌-◌, ◌<◌, ◌≤◌, length, take}
use Rattle.act_geom.specs.Rings.{vertices_of}
use Rattle.act_geom.proofs.body.ring_at.Given as goal

-- the ring is one from low on and before high
abbrev pub invariant-loop-high : goal.invariant-loop-high
invariant-loop-high l = record {
  order : l.low < l.high;
  some : l.high ≤ length l.shape;
  start : 1 + l.low + vertices_of (take l.low l.shape) ≤ l.k;
  end : l.k < 1 + l.high + vertices_of (take l.high l.shape);
}

abbrev pub decreases-loop-high : goal.decreases-loop-high
decreases-loop-high l = l.high - l.low
