-- Bits set apart.
use Rattle.std.specs.Prelude.{ℕ, zero, suc, ◌+◌, ◌*◌, ◌/◌, ◌%◌}

-- the low n bits of x, each followed by a bit 0
unfoldable pub spaced : ℕ → ℕ → ℕ
spaced zero x = 0
spaced (suc n) x = spaced n (x / 2) * 4 + x % 2
