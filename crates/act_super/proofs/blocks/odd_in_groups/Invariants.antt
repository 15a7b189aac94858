use Rattle.std.proofs.Common.{◌≡◌, drop}
use Rattle.act_geom.specs.Inside.{counts, differ, is_odd_by}
use Rattle.act_super.specs.Bounds.{AreBound, edges_in}
use Rattle.act_super.proofs.blocks.odd_in_groups.Given as goal

-- the edges so far and those to come have the parity of all
abbrev pub invariant-loop-bounds : goal.invariant-loop-bounds
invariant-loop-bounds l = record {
  bound : AreBound 1024 (drop l.bounds-index l.groups) l.rest;
  under : AreBound 16 l.under l.rest;
  parity : differ l.odd (is_odd_by (counts l.p) (edges_in l.rest)) ≡ is_odd_by (counts l.p) (edges_in l.sides);
}
