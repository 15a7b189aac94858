use Rattle.std.proofs.Common.{◌≡◌, ◌+◌, drop}
use Rattle.act_image.specs.Pics.{row_at}
use Rattle.act_image.proofs.tests.at.Given as goal

abbrev pub invariant-loop-i : goal.invariant-loop-i
invariant-loop-i l = row_at l.plan.rows l.row ≡ l.i + row_at (drop l.i l.plan.rows) l.row
