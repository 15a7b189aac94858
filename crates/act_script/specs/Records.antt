-- Lines as records of csv.
use Rattle.std.specs.Prelude.{◌≡◌, ◌≢◌, ◌==◌, ◌<◌, ◌^◌, List, [], Some, length}
use Rattle.std.specs.List.{AllByRecursion, slice_split}
use Rattle.csv.specs.Machine.{next_record}
use Rattle.csv.specs.Reading.{default_config, strip_bom}
use Rattle.csv.specs.declared.parser.State.TheVariants as state
use Rattle.act_script.specs.Lines.{Line}
use Rattle.act_script.specs.Fields.{Field, without_marks}

-- no byte of a line ends a record
abbrev pub HasNoEnd : Line → Type 0
HasNoEnd = AllByRecursion (λ b. (b ≢ 13) × (b ≢ 10))

-- a line that has a byte and no end of a record is one record of csv, to its last byte
abbrev pub LinesAreRecords : Type 0
LinesAreRecords = (line : Line) → line ≢ [] → HasNoEnd line
    → (fields : List Field) × (next_record default_config state.StartRecord [] [] line ≡ Some (fields, state.StartRecord, []))

-- csv drops no mark of a line that has lost those at its start
abbrev pub MarksAreGone : Type 0
MarksAreGone = (line : Line) → strip_bom (without_marks line) ≡ without_marks line

-- the texts between the commas of a line
abbrev pub split_at_commas : Line → List Field
split_at_commas line = slice_split (λ b. b == 44) line

-- no quote and no end of a record stands in the line
abbrev pub IsPlain : Line → Type 0
IsPlain = AllByRecursion (λ b. (b ≢ 34) × (b ≢ 13) × (b ≢ 10))

-- the record of such a line is its split at the commas
abbrev pub PlainLinesAreSplit : Type 0
PlainLinesAreSplit = (line : Line) → line ≢ [] → IsPlain line
    → next_record default_config state.StartRecord [] [] line ≡ Some (split_at_commas line, state.StartRecord, [])

-- each field may be read as the text of a shape
abbrev pub AreShort : List Field → Type 0
AreShort = AllByRecursion (λ field. length field < 2 ^ 32)
