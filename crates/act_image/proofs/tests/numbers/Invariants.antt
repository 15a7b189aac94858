use Rattle.std.proofs.Common.{◌≡◌}
use Rattle.act_base.specs.Counting.{from}
use Rattle.act_image.proofs.tests.numbers.Given as goal

abbrev pub invariant-loop-i : goal.invariant-loop-i
invariant-loop-i l = l.rows.items ≡ from 2 l.i
