-- The fields of a line.
use Rattle.std.specs.Prelude.{◌==◌, ◌||◌, ◌&&◌, ◌%◌, ℕ, Bool, List, [], ◌∷◌, Option, Some, None, count_by, if◌then◌else◌, length, nat_le, nat_lt, option_map, unwrap_or}
use Rattle.std.specs.List.{list_all, list_any}
use Rattle.std.specs.Str.{all_ascii_digits}
use Rattle.std.specs.Str.Parse.{digits_value}
use Rattle.csv.specs.Machine.{next_record}
use Rattle.csv.specs.Reading.{default_config, strip_bom}
use Rattle.csv.specs.Records.{field_at}
use Rattle.csv.specs.declared.parser.State.TheVariants as state
use Rattle.act_script.specs.Lines.{Line, is_mark}

abbrev pub Field : Type 0
Field = List ℕ

-- a line without the byte order marks at its start
abbrev pub without_marks : Line → Line
without_marks [] = []
without_marks (a ∷ []) = a ∷ []
without_marks (a ∷ b ∷ []) = a ∷ b ∷ []
without_marks (a ∷ b ∷ c ∷ rest) = if is_mark a b c then without_marks rest else a ∷ b ∷ c ∷ rest

-- nothing but spaces and tabs
abbrev pub is_blank : Line → Bool
is_blank line = list_all (λ b. b == 32 || b == 9) line

-- an odd number of quotes, or a carriage return
abbrev pub is_broken : Line → Bool
is_broken line = count_by (λ b. b == 34) line % 2 == 1 || list_any (λ b. b == 13) line

-- the fields of the record that csv reads from a line, by its own specification: with its defaults and no header row
abbrev pub line_fields : Line → Option (List Field)
line_fields line = option_map (λ read. read.0) (next_record default_config state.StartRecord [] [] (strip_bom line))

-- the field at a place
abbrev pub field_text : List Field → ℕ → Field
field_text fields i = unwrap_or (field_at fields i) []

-- the number that decimal digits write, where it is no greater than most
abbrev pub whole_of : ℕ → Field → Option ℕ
whole_of most text =
    if nat_lt 0 (length text) && all_ascii_digits text && nat_le (digits_value 10 text) most
    then Some (digits_value 10 text) else None
