use Rattle.std.proofs.Common.{◌≡◌, ◌+◌, drop}
use Rattle.act_grid.specs.Number.{digits_first}
use Rattle.act_grid.proofs.number.digits_len.Given as goal

abbrev pub invariant-loop-i : goal.invariant-loop-i
invariant-loop-i l = l.i + digits_first (drop l.i l.text) ≡ digits_first l.text
