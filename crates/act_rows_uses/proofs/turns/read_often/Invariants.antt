use Rattle.std.proofs.Common.{◌≡◌}
use Rattle.act_rows_uses.proofs.turns.read_often.Given as goal

abbrev pub invariant-loop : goal.invariant-loop
invariant-loop g l = l.guest.table ≡ l.fn.guest.table
