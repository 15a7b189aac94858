-- The pool as callers see it.
use Rattle.std.specs.Prelude.{◌≡◌, ℕ, ◌+◌, ◌-◌, ◌<◌, ◌≤◌, List}
use Rattle.act_base.specs.Counting.{times, from}
use Rattle.act_pool.specs.Retired.{rows_of, IsInOrder}

-- the rows from 1 to `rows`: those that are free, and those that are retired, each with its version
pub record Pooled : Type 0 where
  pub rows : ℕ
  pub free : List ℕ
  pub retired : List (ℕ × ℕ)

-- no row is free or retired twice, or both
pub record IsTidy (p : Pooled) : Type 0 where
  pub once : (r : ℕ) → times p.free r + times (rows_of p.retired) r ≤ 1
  pub ranged : (r : ℕ) → 0 < times p.free r + times (rows_of p.retired) r → (0 < r) × (r ≤ p.rows)
  pub ordered : IsInOrder p.retired

-- the row is neither free nor retired
pub record IsUsed (p : Pooled) (r : ℕ) : Type 0 where
  pub above : 0 < r
  pub below : r ≤ p.rows
  pub not_free : times p.free r ≡ 0
  pub not_retired : times (rows_of p.retired) r ≡ 0

-- all rows but row 1
abbrev pub first_free : ℕ → List ℕ
first_free rows = from 2 (rows - 1)
