use Rattle.std.proofs.Common.{◌≡◌, ◌≤◌, ◌++◌, length}
use Rattle.std.specs.Prelude.{vec_capacity}
use Rattle.std.specs.VecDeque.{deque_capacity}
use Rattle.act_pool.specs.Retired.{later, freed}
use Rattle.act_pool.specs.Pooled.{IsTidy}
use Rattle.act_pool.proofs.pool.Pool.reclaim.Given as goal

abbrev pub invariant-loop-row : goal.invariant-loop-row
invariant-loop-row l = record {
  rows : l.self-inside.rows ≡ l.initial.self-inside.rows;
  room : (l.self-inside.rows ≤ vec_capacity l.self-inside.free) × (l.self-inside.rows ≤ deque_capacity l.self-inside.retired);
  free : l.self-inside.free.items ++ freed l.bound l.self-inside.retired.items ≡ l.initial.self-inside.free.items ++ freed l.bound l.initial.self-inside.retired.items;
  late : later l.bound l.self-inside.retired.items ≡ later l.bound l.initial.self-inside.retired.items;
  tidy : IsTidy (record { rows = l.self-inside.rows; free = l.self-inside.free.items; retired = l.self-inside.retired.items });
}

abbrev pub decreases-loop-row : goal.decreases-loop-row
decreases-loop-row l = length l.self-inside.retired.items
