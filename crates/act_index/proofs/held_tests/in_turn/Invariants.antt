use Rattle.std.proofs.Common.{◌≡◌, length}
use Rattle.std.specs.Prelude.{vec_capacity}
use Rattle.act_index.proofs.held_tests.in_turn.Given as goal

abbrev pub invariant-loop-n : goal.invariant-loop-n
invariant-loop-n l = record { long : length l.changes.items ≡ l.n; room : vec_capacity l.changes ≡ l.count }
