-- The limits of the settings.
use Rattle.std.specs.Prelude.{ℕ, ◌≤◌}

-- each setting is within its limits
abbrev pub InLimits : ℕ → ℕ → ℕ → ℕ → Type 0
InLimits digits rows cells workers =
    (digits ≤ 9) × (1 ≤ rows) × (rows ≤ 262144) × (1 ≤ cells) × (cells ≤ 1024) × (1 ≤ workers) × (workers ≤ 64)
