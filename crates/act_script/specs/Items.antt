-- What a line says.
use Rattle.std.specs.Prelude.{◌==◌, ◌-◌, ◌^◌, ℕ, ℤ, List, [], ◌∷◌, Option, Some, None, Result, Ok, Err, codes, if◌then◌else◌, length, nat_lt}
use Rattle.std.specs.Option.{option_and_then}
use Rattle.std.specs.List.{slice_split}
use Rattle.std.specs.Str.{bytes_eq}
use Rattle.act_grid.specs.declared.Layers.{Layers}
use Rattle.act_grid.specs.declared.NumFault.{NumFault}
use Rattle.act_grid.specs.declared.NumFault.TheVariants as number
use Rattle.act_grid.specs.Layers.{all_layers, no_layers, with_layer}
use Rattle.act_grid.specs.Number.{value_of}
use Rattle.act_wkt.specs.Reading.{Fault, Rings}
use Rattle.act_wkt.specs.Wkt.{wkt_of}
use Rattle.act_script.specs.Lines.{Line}
use Rattle.act_script.specs.Fields.{Field, field_text, is_blank, is_broken, line_fields, whole_of, without_marks}
use Rattle.act_script.specs.Answers.{◌>>=◌, Said, required}
use Rattle.act_script.specs.declared.fault.LineFault.TheVariants as fault
use Rattle.act_script.specs.declared.item.Item.{Item}
use Rattle.act_script.specs.declared.item.Item.TheVariants as item

-- a key, the id of a point, and the threshold of a training, which is not 0
abbrev pub key_of : Field → Said ℕ
key_of text = required fault.Key (whole_of (2 ^ 32 - 1) text)

abbrev pub id_of : Field → Said ℕ
id_of text = required fault.PointId (whole_of (2 ^ 64 - 1) text)

abbrev pub threshold_of : Field → Said ℕ
threshold_of text = required fault.Threshold (option_and_then (λ n. if n == 0 then None else Some n) (whole_of (2 ^ 32 - 1) text))

-- a coordinate, or the fault of its number
abbrev pub coordinate : Result ℤ NumFault → Said ℤ
coordinate (Ok units) = Ok units
coordinate (Err number.Form) = Err fault.Number
coordinate (Err number.Range) = Err fault.Range

-- a shape, or the fault of its text
abbrev pub shaped : Result Rings Fault → Said Rings
shaped (Ok rings) = Ok rings
shaped (Err miss) = Err (fault.Wkt miss.kind miss.place)

-- the set with the layers of these numbers, which are no greater than 255
abbrev pub set_with : Layers → List Field → Option Layers
set_with set [] = Some set
set_with set (number ∷ numbers) = option_and_then (λ n. set_with (with_layer set n) numbers) (whole_of 255 number)

-- all layers, or one to 256 numbers joined by `;`
abbrev pub set_of : Field → Option Layers
set_of text =
    if bytes_eq text (codes "*") then Some all_layers
    else if nat_lt 256 (length (slice_split (λ b. b == 59) text)) then None
    else set_with no_layers (slice_split (λ b. b == 59) text)

-- the items of each kind, by the texts of their fields: an earlier field's fault comes first
abbrev pub zone_item : ℕ → Field → Field → Said Item
zone_item digits key text = key_of key >>= λ k. shaped (wkt_of digits text) >>= λ rings. Ok (item.Zone k rings)

abbrev pub replace_item : ℕ → Field → Field → Said Item
replace_item digits key text = key_of key >>= λ k. shaped (wkt_of digits text) >>= λ rings. Ok (item.Replace k rings)

abbrev pub drop_item : Field → Said Item
drop_item key = key_of key >>= λ k. Ok (item.DropZone k)

abbrev pub point_item : ℕ → Field → Field → Field → Said Item
point_item digits id x y =
    id_of id >>= λ i. coordinate (value_of digits x) >>= λ east. coordinate (value_of digits y) >>= λ north. Ok (item.At i (record { x = east; y = north }))

abbrev pub train_item : Field → Said Item
train_item text = threshold_of text >>= λ threshold. Ok (item.Train threshold)

abbrev pub layers_item : Field → Said Item
layers_item text = required fault.Layers (set_of text) >>= λ set. Ok (item.Layers set)

-- an item whose kind has this many fields
abbrev pub with_fields : ℕ → List Field → Said Item → Said Item
with_fields n fields said = if length fields == n then said else Err fault.Fields

-- the item of a kind without a shape or a point
abbrev pub brief_item : List Field → Field → Said Item
brief_item fields kind =
    if bytes_eq kind (codes "drop") then with_fields 2 fields (drop_item (field_text fields 1))
    else if bytes_eq kind (codes "train") then with_fields 2 fields (train_item (field_text fields 1))
    else if bytes_eq kind (codes "batch") then with_fields 1 fields (Ok item.Batch)
    else if bytes_eq kind (codes "sync") then with_fields 1 fields (Ok item.Sync)
    else if bytes_eq kind (codes "layers") then with_fields 2 fields (layers_item (field_text fields 1))
    else Err fault.Kind

-- the item of a kind
abbrev pub kind_item : ℕ → List Field → Field → Said Item
kind_item digits fields kind =
    if bytes_eq kind (codes "point") then with_fields 4 fields (point_item digits (field_text fields 1) (field_text fields 2) (field_text fields 3))
    else if bytes_eq kind (codes "zone") then with_fields 3 fields (zone_item digits (field_text fields 1) (field_text fields 2))
    else if bytes_eq kind (codes "replace") then with_fields 3 fields (replace_item digits (field_text fields 1) (field_text fields 2))
    else brief_item fields kind

-- the item of a record
abbrev pub record_item : ℕ → List Field → Said Item
record_item digits fields = kind_item digits fields (field_text fields 0)

-- the item of a line that isn't blank, or its first fault
abbrev pub told_item : ℕ → Line → Said Item
told_item digits line =
    if is_broken line then Err fault.Fields else (required fault.Kind (line_fields line) >>= λ fields. record_item digits fields)

-- the item of a line, which a blank line has not, or its first fault
abbrev pub item_of : ℕ → Line → Said (Option Item)
item_of digits line =
    if is_blank (without_marks line) then Ok None else (told_item digits (without_marks line) >>= λ it. Ok (Some it))
