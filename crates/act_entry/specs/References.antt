-- References as numbers.
use Rattle.std.specs.Prelude.{ℕ, ◌+◌, ◌*◌, ◌/◌, ◌%◌, ◌^◌, ◌<◌, ◌==◌, Bool, Option, Some, None, if◌then◌else◌}
use Rattle.act_entry.specs.declared.reference.Ref.{Ref}

-- a row that an entry may name, from 1 to 2^30-1
abbrev pub IsRow : ℕ → Type 0
IsRow row = (0 < row) × (row < 2 ^ 30)

-- twice the row, and one more for a true hit
abbrev pub ref_number : Ref → ℕ
ref_number r = r.row * 2 + (if r.hit then 1 else 0)

-- the reference of a number, and None where its row is 0
abbrev pub ref_of : ℕ → Option Ref
ref_of number = if number / 2 == 0 then None else Some (record { row = number / 2; hit = number % 2 == 1 })
