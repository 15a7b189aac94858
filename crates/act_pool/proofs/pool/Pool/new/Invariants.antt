use Rattle.std.proofs.Common.{◌≡◌}
use Rattle.std.specs.Prelude.{vec_capacity}
use Rattle.act_base.specs.Counting.{from}
use Rattle.act_pool.proofs.pool.Pool.new.Given as goal

abbrev pub invariant-loop-at : goal.invariant-loop-at
invariant-loop-at l = (l.free.items ≡ from 2 l.at) × (vec_capacity l.free ≡ l.rows)
