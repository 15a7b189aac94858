-- A line without carriage return and line feed is one record of csv.
use Rattle.std.proofs.Common.{◌≡◌, ◌≢◌, ℕ, Bool, true, false, List, [], ◌∷◌, ◌++◌, Option, Some, None, refl, cond, ◌==◌, ◌<◌, ◌≤◌, ◌+◌, ◌^◌, zero, suc, length, length-append, arith}
use Rattle.std.specs.Prelude.{IfSome, option_map}
use Rattle.std.specs.List.{AllByRecursion}
use Rattle.std.proofs.lemmas.Bool.{ne_eqb as differs}
use Rattle.csv.specs.Machine.{Read, next_record, step, is_end, ends_at_end, in_field, fields_after, field_after}
use Rattle.csv.specs.Reading.{default_config, strip_bom}
use Rattle.csv.specs.Records.{field_at}
use Rattle.csv.specs.declared.parser.State.{State}
use Rattle.csv.specs.declared.parser.State.TheVariants as st
use Rattle.csv.specs.declared.parser.Action.{Action}
use Rattle.csv.specs.declared.parser.Action.TheVariants as act
use Rattle.act_script.specs.Lines.{is_mark}
use Rattle.act_script.specs.Cutting.{IsOpen}
use Rattle.act_script.specs.Fields.{Field, field_text, line_fields, without_marks}
use Rattle.act_script.specs.Records.{AreShort, HasNoEnd, LinesAreRecords, MarksAreGone}

-- what a byte that is neither CR nor LF comes to: the record goes on, and the end of the text would end it
abbrev GoesOn : State × Action → Type 0
GoesOn p = (ends_at_end p.0 ≡ true) × (is_end p.1 ≡ false)

-- of a choice, either way
either : (b : Bool) (p q : State × Action) → GoesOn p → GoesOn q → GoesOn (cond b p q)
either true p q h k = h
either false p q h k = k

in-field : (c : ℕ) → c ≢ 13 → c ≢ 10 → GoesOn (in_field default_config c)
in-field c a b = rw (differs c 13 a, differs c 10 b) (either (c == 44) _ _ (refl, refl) (refl, refl))

step-goes-on : (s : State) (c : ℕ) → c ≢ 13 → c ≢ 10 → GoesOn (step default_config s c)
step-goes-on st.StartRecord c a b = rw (differs c 13 a, differs c 10 b) (either (c == 34) _ _ (refl, refl) (rw (differs c 13 a, differs c 10 b) at (in-field c a b)))
step-goes-on st.StartField c a b = either (c == 34) _ _ (refl, refl) (in-field c a b)
step-goes-on st.InField c a b = in-field c a b
step-goes-on st.InQuoted c a b = either (c == 34) _ _ (refl, refl) (refl, refl)
step-goes-on st.AfterQuote c a b = either (c == 34) _ _ (refl, refl) (in-field c a b)
step-goes-on st.InEscape c a b = (refl, refl)
step-goes-on st.InComment c a b = rw (differs c 10 b) (refl, refl)
step-goes-on st.AfterCr c a b = rw (differs c 13 a, differs c 10 b) (either (c == 34) _ _ (refl, refl) (rw (differs c 13 a, differs c 10 b) at (in-field c a b)))

whole : (rest : List ℕ) (s : State) (fields : List Field) (field : Field) → ends_at_end s ≡ true → HasNoEnd rest
    → (found : List Field) × (next_record default_config s fields field rest ≡ Some (found, st.StartRecord, []))
unfolding next_record
whole [] s fields field e h = rw e (fields ++ field ∷ [], refl)
whole (c ∷ rest) s fields field e h =
    let on = step-goes-on s c h.0.0 h.0.1 in
    rw on.1 (whole rest _ _ _ on.0 h.1)

pub lines_are_records : LinesAreRecords
unfolding next_record
lines_are_records [] some h = absurd (some refl)
lines_are_records (c ∷ rest) some h =
    let on = step-goes-on st.StartRecord c h.0.0 h.0.1 in
    rw on.1 (whole rest _ _ _ on.0 h.1)

pub marks_are_gone : MarksAreGone
unfolding strip_bom
marks_are_gone [] = refl
marks_are_gone (a ∷ []) = refl
marks_are_gone (a ∷ b ∷ []) = refl
marks_are_gone (a ∷ b ∷ c ∷ rest) = by (is_mark a b c) refl (marks_are_gone rest)
  where
    by : (t : Bool) → is_mark a b c ≡ t → strip_bom (without_marks rest) ≡ without_marks rest
        → strip_bom (cond t (without_marks rest) (a ∷ b ∷ c ∷ rest)) ≡ cond t (without_marks rest) (a ∷ b ∷ c ∷ rest)
    by true e more = more
    by false e more = rw e refl

-- ---- no field is longer than its line

abbrev AreWithin : ℕ → List Field → Type 0
AreWithin n = AllByRecursion (λ field. length field ≤ n)

within_append : (n : ℕ) (fields more : List Field) → AreWithin n fields → AreWithin n more → AreWithin n (fields ++ more)
within_append n [] more h k = k
within_append n (field ∷ fields) more h k = (h.0, within_append n fields more h.1 k)

after-within : (n : ℕ) (a : Action) (fields : List Field) (field : Field) → AreWithin n fields → length field ≤ n → AreWithin n (fields_after a fields field)
after-within n act.EndField fields field h k = within_append n fields (field ∷ []) h (k, tt)
after-within n act.EndRecord fields field h k = within_append n fields (field ∷ []) h (k, tt)
after-within n act.Skip fields field h k = h
after-within n act.Copy fields field h k = h

field-within : (n more : ℕ) (a : Action) (c : ℕ) (field : Field) → length field + suc more ≤ n → length (field_after a c field) + more ≤ n
field-within n more act.Copy c field h = omega (arith, length-append field (c ∷ []))
field-within n more act.EndField c field h = omega arith
field-within n more act.EndRecord c field h = omega arith
field-within n more act.Skip c field h = omega arith

-- the fields of what is read, where there is a record
abbrev ReadWithin : ℕ → Option Read → Type 0
ReadWithin n read = IfSome read (λ p. AreWithin n p.0)

read-within : (n : ℕ) (s : State) (fields : List Field) (field : Field) (line : List ℕ) → AreWithin n fields → length field + length line ≤ n
    → ReadWithin n (next_record default_config s fields field line)
unfolding next_record
read-within n s fields field [] h k = by (ends_at_end s)
  where
    by : (t : Bool) → ReadWithin n (cond t (Some (fields ++ field ∷ [], st.StartRecord, [])) None)
    by true = within_append n fields (field ∷ []) h (omega arith, tt)
    by false = tt
read-within n s fields field (c ∷ line) h k =
    let a = (step default_config s c).1 in
    ends (is_end a) (fields_after a fields field) (step default_config s c).0 line _
    (after-within n a fields field h (omega arith))
    (read-within n (step default_config s c).0 (fields_after a fields field) (field_after a c field) line
    (after-within n a fields field h (omega arith)) (field-within n (length line) a c field k))
  where
    ends : (t : Bool) (found : List Field) (s2 : State) (rest : List ℕ) (more : Option Read) → AreWithin n found → ReadWithin n more
        → ReadWithin n (cond t (Some (found, s2, rest)) more)
    ends true found s2 rest more h k = h
    ends false found s2 rest more h k = k

strip_bom-shorter : (line : List ℕ) → length (strip_bom line) ≤ length line
unfolding strip_bom
strip_bom-shorter [] = omega arith
strip_bom-shorter (a ∷ []) = omega arith
strip_bom-shorter (a ∷ b ∷ []) = omega arith
strip_bom-shorter (a ∷ b ∷ c ∷ rest) = by (is_mark a b c)
  where
    by : (t : Bool) → length (cond t rest (a ∷ b ∷ c ∷ rest)) ≤ length (a ∷ b ∷ c ∷ rest)
    by true = omega arith
    by false = omega arith

are_short : (n : ℕ) (fields : List Field) → n < 2 ^ 32 → AreWithin n fields → AreShort fields
are_short n [] few h = tt
are_short n (field ∷ fields) few h = (omega (arith, h.0), are_short n fields few h.1)

pub fields_short : (line : List ℕ) (fields : List Field) → length line < 2 ^ 32 → line_fields line ≡ Some fields → AreShort fields
fields_short line fields few e =
    by (next_record default_config st.StartRecord [] [] (strip_bom line)) e
    (read-within (length line) st.StartRecord [] [] (strip_bom line) tt (omega (arith, strip_bom-shorter line)))
  where
    by : (read : Option Read) → option_map (λ p. p.0) read ≡ Some fields → ReadWithin (length line) read → AreShort fields
    by None k h = cc
    by (Some p) k h = let same : p.0 ≡ fields = cc in are_short (length line) fields few (rw same at h)

pub field_short : (fields : List Field) (place : ℕ) → AreShort fields → length (field_text fields place) < 2 ^ 32
unfolding field_at
field_short [] place h = omega arith
field_short (field ∷ fields) zero h = h.0
field_short (field ∷ fields) (suc place) h = field_short fields place h.1

-- ---- a line without its marks

pub marks-shorter : (line : List ℕ) → length (without_marks line) ≤ length line
marks-shorter [] = omega arith
marks-shorter (a ∷ []) = omega arith
marks-shorter (a ∷ b ∷ []) = omega arith
marks-shorter (a ∷ b ∷ c ∷ rest) = by (is_mark a b c) (without_marks rest) (marks-shorter rest)
  where
    by : (t : Bool) (less : List ℕ) → length less ≤ length rest → length (cond t less (a ∷ b ∷ c ∷ rest)) ≤ length (a ∷ b ∷ c ∷ rest)
    by true less h = omega arith
    by false less h = omega arith

pub marks-open : (line : List ℕ) → IsOpen line → IsOpen (without_marks line)
marks-open [] h = h
marks-open (a ∷ []) h = h
marks-open (a ∷ b ∷ []) h = h
marks-open (a ∷ b ∷ c ∷ rest) h = by (is_mark a b c) (without_marks rest) (marks-open rest h.1.1.1)
  where
    by : (t : Bool) (less : List ℕ) → IsOpen less → IsOpen (cond t less (a ∷ b ∷ c ∷ rest))
    by true less k = k
    by false less k = h
