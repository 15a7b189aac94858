-- The words of lists: two references each, the last of an odd list with one.
use Rattle.std.specs.Prelude.{◌≡◌, ℕ, ◌+◌, ◌*◌, ◌/◌, ◌%◌, ◌^◌, ◌<◌, ◌==◌, Option, Some, None, nat_lt, if◌then◌else◌}
use Rattle.std.specs.Option.{option_map, option_and_then}
use Rattle.act_entry.specs.declared.reference.Ref.{Ref}
use Rattle.act_entry.specs.References.{IsRow, ref_number, ref_of}

-- one or two references with rows from 1 to 2^30-1
abbrev pub IsPair : Ref → Option Ref → Type 0
IsPair a None = IsRow a.row
IsPair a (Some b) = IsRow a.row × IsRow b.row

abbrev pub pair_word : Ref → Option Ref → ℕ
pair_word a None = ref_number a
pair_word a (Some b) = ref_number a + ref_number b * 2 ^ 31

-- the second reference of a word, if it has one
abbrev pub second_of : ℕ → Option (Option Ref)
second_of number = if number == 0 then Some None else option_map (λ b. Some b) (ref_of number)

-- both references, by their numbers
abbrev pub both_of : ℕ → ℕ → Option (Ref × Option Ref)
both_of first second = option_and_then (λ a. option_map (λ b. (a, b)) (second_of second)) (ref_of first)

-- the references of a word, and None where no references have it
unfoldable pub pair_of : ℕ → Option (Ref × Option Ref)
pair_of word = if nat_lt word (2 ^ 62) then both_of (word % 2 ^ 31) (word / 2 ^ 31) else None
