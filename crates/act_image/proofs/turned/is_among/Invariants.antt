use Rattle.std.proofs.Common.{◌≡◌, drop}
use Rattle.act_super.specs.Grounds.{is_among}
use Rattle.act_image.proofs.turned.is_among.Given as goal

abbrev pub invariant-loop-other : goal.invariant-loop-other
invariant-loop-other l = is_among l.cells l.cell ≡ is_among (drop l.other-index l.cells) l.cell
