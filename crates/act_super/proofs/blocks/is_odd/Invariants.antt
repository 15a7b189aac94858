use Rattle.std.proofs.Common.{◌≡◌, drop}
use Rattle.act_geom.specs.Inside.{counts, differ, is_odd_by}
use Rattle.act_super.specs.Bounds.{edges_in}
use Rattle.act_super.proofs.blocks.is_odd.Given as goal

-- the edges so far and those to come have the parity of all
abbrev pub invariant-loop-side : goal.invariant-loop-side
invariant-loop-side l = differ l.odd (is_odd_by (counts l.p) (edges_in (drop l.side-index l.sides))) ≡ is_odd_by (counts l.p) (edges_in l.sides)
