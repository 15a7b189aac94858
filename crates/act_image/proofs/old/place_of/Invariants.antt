use Rattle.std.proofs.Common.{◌≡◌, ◌+◌, drop}
use Rattle.act_image.specs.Pics.{node_at}
use Rattle.act_image.proofs.old.place_of.Given as goal

abbrev pub invariant-loop-i : goal.invariant-loop-i
invariant-loop-i l = node_at l.nodes l.cell ≡ l.i + node_at (drop l.i l.nodes) l.cell
