-- No training has the threshold 0.
use Rattle.std.proofs.Common.{◌≡◌, ◌≢◌, ◌==◌, ◌-◌, ◌^◌, ℕ, zero, suc, Bool, true, false, List, Option, Some, None, Ok, Err, length, subst, arith}
use Rattle.std.specs.Prelude.{IfOk, if◌then◌else◌, codes}
use Rattle.std.specs.Option.{option_and_then}
use Rattle.std.specs.Str.{bytes_eq}
use Rattle.std.proofs.lemmas.Bool.{ne_eqb}
use Rattle.act_grid.specs.Number.{value_of}
use Rattle.act_wkt.specs.Wkt.{wkt_of}
use Rattle.act_script.specs.Answers.{◌>>=◌, Said, required}
use Rattle.act_script.specs.Fields.{Field, field_text, is_broken, line_fields, whole_of}
use Rattle.act_script.specs.Items.{brief_item, coordinate, id_of, key_of, kind_item, point_item, replace_item, set_of, shaped, told_item, train_item, with_fields, zone_item}
use Rattle.act_script.specs.Lines.{Line}
use Rattle.act_script.specs.Segments.{ItemHasThreshold}
use Rattle.act_script.specs.declared.fault.LineFault.TheVariants as fault
use Rattle.act_script.specs.declared.item.Item.{Item}
use Rattle.act_script.specs.declared.item.Item.TheVariants as item

abbrev Tells : Said Item → Type 0
Tells said = IfOk said ItemHasThreshold

then_tells : {A : Type 0} (said : Said A) (f : A → Said Item) → ((x : A) → Tells (f x)) → Tells (said >>= f)
then_tells (Ok x) f h = h x
then_tells (Err why) f h = tt

if_tells : (b : Bool) (x y : Said Item) → Tells x → Tells y → Tells (if b then x else y)
if_tells true x y h k = h
if_tells false x y h k = k

fields_tell : (n : ℕ) (fields : List Field) (said : Said Item) → Tells said → Tells (with_fields n fields said)
fields_tell n fields said h = if_tells (length fields == n) said (Err fault.Fields) h tt

train_tells : (text : Field) → Tells (train_item text)
train_tells text = by (whole_of (2 ^ 32 - 1) text)
  where
    some : (n : ℕ) → Tells (required fault.Threshold (if n == 0 then None else Some n) >>= λ t. Ok (item.Train t))
    some zero = tt
    some (suc n) = let above : suc n ≢ 0 = λ e. omega (arith, e) in rw (ne_eqb (suc n) 0 above) (omega arith)

    by : (w : Option ℕ) → Tells (required fault.Threshold (option_and_then (λ n. if n == 0 then None else Some n) w) >>= λ t. Ok (item.Train t))
    by None = tt
    by (Some n) = some n

zone_tells : (digits : ℕ) (key text : Field) → Tells (zone_item digits key text)
zone_tells digits key text = then_tells (key_of key) _ (λ k. then_tells (shaped (wkt_of digits text)) _ (λ rings. tt))

replace_tells : (digits : ℕ) (key text : Field) → Tells (replace_item digits key text)
replace_tells digits key text = then_tells (key_of key) _ (λ k. then_tells (shaped (wkt_of digits text)) _ (λ rings. tt))

point_tells : (digits : ℕ) (id x y : Field) → Tells (point_item digits id x y)
point_tells digits id x y =
    then_tells (id_of id) _ (λ i. then_tells (coordinate (value_of digits x)) _ (λ east. then_tells (coordinate (value_of digits y)) _ (λ north. tt)))

brief_tells : (fields : List Field) (kind : Field) → Tells (brief_item fields kind)
brief_tells fields kind =
    if_tells (bytes_eq kind (codes "drop")) _ _ (fields_tell 2 fields _ (then_tells (key_of (field_text fields 1)) _ (λ k. tt)))
    (if_tells (bytes_eq kind (codes "train")) _ _ (fields_tell 2 fields _ (train_tells (field_text fields 1)))
    (if_tells (bytes_eq kind (codes "batch")) _ _ (fields_tell 1 fields _ tt)
    (if_tells (bytes_eq kind (codes "sync")) _ _ (fields_tell 1 fields _ tt)
    (if_tells (bytes_eq kind (codes "layers")) _ _ (fields_tell 2 fields _ (then_tells (required fault.Layers (set_of (field_text fields 1))) _ (λ set. tt))) tt))))

kind_tells : (digits : ℕ) (fields : List Field) (kind : Field) → Tells (kind_item digits fields kind)
kind_tells digits fields kind =
    if_tells (bytes_eq kind (codes "point")) _ _ (fields_tell 4 fields _ (point_tells digits (field_text fields 1) (field_text fields 2) (field_text fields 3)))
    (if_tells (bytes_eq kind (codes "zone")) _ _ (fields_tell 3 fields _ (zone_tells digits (field_text fields 1) (field_text fields 2)))
    (if_tells (bytes_eq kind (codes "replace")) _ _ (fields_tell 3 fields _ (replace_tells digits (field_text fields 1) (field_text fields 2)))
    (brief_tells fields kind)))

told_tells : (digits : ℕ) (line : Line) → Tells (told_item digits line)
told_tells digits line =
    if_tells (is_broken line) _ _ tt (then_tells (required fault.Kind (line_fields line)) _ (λ fields. kind_tells digits fields (field_text fields 0)))

-- an item that a line says
pub told_threshold : (digits : ℕ) (line : Line) (it : Item) → told_item digits line ≡ Ok it → ItemHasThreshold it
told_threshold digits line it is = subst Tells is (told_tells digits line)
