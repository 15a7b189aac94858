-- The words of entries. The low two bits say which kind an entry is.
use Rattle.std.specs.Prelude.{◌≡◌, ℕ, ◌+◌, ◌-◌, ◌*◌, ◌/◌, ◌%◌, ◌^◌, ◌<◌, ◌≤◌, ◌==◌, ◌&&◌, Option, Some, None, nat_lt, nat_le, if◌then◌else◌}
use Rattle.std.specs.Option.{option_map, option_and_then}
use Rattle.act_entry.specs.declared.reference.Ref.{Ref}
use Rattle.act_entry.specs.declared.entry.Entry.{Entry}
use Rattle.act_entry.specs.declared.entry.Entry.TheVariants as entry
use Rattle.act_entry.specs.References.{IsRow, ref_number, ref_of}

-- the rows of an entry are from 1 to 2^30-1, and its place leaves room for a list of three
abbrev pub IsEntry : Entry → Type 0
IsEntry entry.Empty = Unit {0}
IsEntry (entry.Child row) = IsRow row
IsEntry (entry.One r) = IsRow r.row
IsEntry (entry.Two a b) = IsRow a.row × IsRow b.row
IsEntry (entry.Table row place) = IsRow row × (place ≤ 253)

abbrev pub entry_word : Entry → ℕ
entry_word entry.Empty = 0
entry_word (entry.Child row) = row * 4
entry_word (entry.One r) = ref_number r * 4 + 1
entry_word (entry.Two a b) = ref_number b * 2 ^ 33 + ref_number a * 4 + 2
entry_word (entry.Table row place) = (row * 256 + place) * 4 + 3

-- the entry of each kind, by what stands above the low two bits
abbrev pub child_of : ℕ → Option Entry
child_of row = if row == 0 then Some entry.Empty else if nat_lt row (2 ^ 30) then Some (entry.Child row) else None

abbrev pub one_of : ℕ → Option Entry
one_of number = if nat_lt number (2 ^ 31) then option_map entry.One (ref_of number) else None

abbrev pub two_of : ℕ → ℕ → Option Entry
two_of first second = option_and_then (λ a. option_map (λ b. entry.Two a b) (ref_of second)) (ref_of first)

abbrev pub table_of : ℕ → ℕ → Option Entry
table_of row place = if nat_lt 0 row && nat_lt row (2 ^ 30) && nat_le place 253 then Some (entry.Table row place) else None

-- the entry of a word, and None where no entry has it
unfoldable pub entry_of : ℕ → Option Entry
entry_of word =
    if word % 4 == 0 then child_of (word / 4)
    else if word % 4 == 1 then one_of (word / 4)
    else if word % 4 == 2 then two_of (word / 4 % 2 ^ 31) (word / 4 / 2 ^ 31)
    else table_of (word / 4 / 256) (word / 4 % 256)
