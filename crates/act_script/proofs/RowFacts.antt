-- Fields of a line that is read where it lies.
use Rattle.std.proofs.Common.{◌≡◌, ◌≢◌, ◌==◌, ◌||◌, ◌+◌, ◌-◌, ◌<◌, ◌≤◌, ℕ, zero, suc, Bool, true, false, List, [], ◌∷◌, ◌++◌, Some, None, refl, ap, subst, ◌∙◌, arith, length, take, drop, get_or, add-one, cond, length-append}
use Rattle.std.specs.Prelude.{count_by, option_map}
use Rattle.std.specs.List.{AllByRecursion as Each, list_any}
use Rattle.std.proofs.lemmas.Bool.{ne_eqb as differs, eqb-true}
use Rattle.std.proofs.lemmas.List.Sums.{sum_by-append, sum_by-cons}
use Rattle.std.proofs.lemmas.List.Folds.{list_any-append}
use Rattle.csv.specs.Machine.{next_record}
use Rattle.csv.specs.Reading.{default_config, strip_bom}
use Rattle.csv.specs.Records.{field_at}
use Rattle.csv.specs.declared.parser.State.TheVariants as st
use Rattle.memchr.specs.Find.{IsFirstByte, is_byte, is_byte2}
use Rattle.act_script.specs.Cutting.{IsOpen}
use Rattle.act_script.specs.Fields.{Field, field_text, is_broken, line_fields}
use Rattle.act_script.specs.Records.{IsPlain, split_at_commas}
use Rattle.act_script.proofs.PlainFacts.{plain_lines_are_split, quoted_line, quoted_tail}
use Rattle.act_script.proofs.PointFacts.{no_quote, no_return, plain_text, without}
use Rattle.act_script.proofs.ScanFacts.{fails, slice_rest}

-- ---- the field at a place

-- that of the fields after the first
pub field_later : (fields : List Field) (first : Field) (rest : List Field) (n k : ℕ) → fields ≡ first ∷ rest → n ≡ k + 1 → field_text fields n ≡ field_text rest k
unfolding field_at
field_later fields first rest n k e f = rw (e, f, add-one) refl

pub field_first : (fields : List Field) (first : Field) (rest : List Field) (n : ℕ) → fields ≡ first ∷ rest → n ≡ 0 → field_text fields n ≡ first
unfolding field_at
field_first fields first rest n e f = rw (e, f) refl

pub field_none : (fields : List Field) (n : ℕ) → length fields ≤ n → field_text fields n ≡ []
unfolding field_at
field_none [] n h = refl
field_none (field ∷ fields) zero h = absurd (omega arith)
field_none (field ∷ fields) (suc n) h = field_none fields n (omega arith)

-- there is none behind the only one
pub field_one : (fields : List Field) (field : Field) (n : ℕ) → fields ≡ field ∷ [] → 0 < n → field_text fields n ≡ []
field_one fields field n e h = ap (λ fs. field_text fs n) e ∙ field_none (field ∷ []) n (omega arith)

pub length_more : (fields : List Field) (last : Field) (n : ℕ) → length fields < n → length (fields ++ last ∷ []) ≤ n
length_more fields last n h = omega (arith, length-append fields (last ∷ []))

pub field_front : (fields more : List Field) (n : ℕ) → n < length fields → field_text (fields ++ more) n ≡ field_text fields n
unfolding field_at
field_front [] more n h = absurd (omega arith)
field_front (field ∷ fields) more zero h = refl
field_front (field ∷ fields) more (suc n) h = field_front fields more n (omega arith)

pub field_last : (fields : List Field) (last : Field) (n : ℕ) → n ≡ length fields → field_text (fields ++ last ∷ []) n ≡ last
unfolding field_at
field_last [] last n e = rw e refl
field_last (field ∷ fields) last zero e = absurd (omega arith)
field_last (field ∷ fields) last (suc n) e = field_last fields last n (omega arith)

-- ---- a line of plain bytes

-- a line that begins otherwise has no mark at its start
no_mark : (line : List ℕ) → get_or line 0 0 ≢ 0xEF → strip_bom line ≡ line
unfolding strip_bom
no_mark [] h = refl
no_mark (a ∷ []) h = refl
no_mark (a ∷ b ∷ []) h = refl
no_mark (a ∷ b ∷ c ∷ rest) h = rw (differs a 0xEF h) refl

fields_are : (line : List ℕ) (fields : List Field) → get_or line 0 0 ≢ 0xEF → next_record default_config st.StartRecord [] [] line ≡ Some (fields, st.StartRecord, [])
    → line_fields line ≡ Some fields
fields_are line fields first e =
    ap (λ l. option_map (λ read. read.0) (next_record default_config st.StartRecord [] [] l)) (no_mark line first) ∙ ap (option_map (λ read. read.0)) e

unbroken : (line : List ℕ) → IsPlain line → is_broken line ≡ false
unbroken line p = rw (no_quote line p, no_return line p) refl

pub filled : (n : ℕ) → (n == 0) ≡ false → n ≢ 0
filled n h e = let zero_is : (0 == 0) ≡ false = rw e at h in cc

pub plain_line : (line : List ℕ) → length line ≢ 0 → get_or line 0 0 ≢ 0xEF → IsOpen line → IsFirstByte (is_byte2 34 13) line None
    → (is_broken line ≡ false) × (line_fields line ≡ Some (split_at_commas line))
plain_line line some first o none =
    let plain = plain_text line o (without 34 13 line none) in
    (unbroken line plain, fields_are line (split_at_commas line) first (plain_lines_are_split line (λ e. some (ap length e)) plain))

-- ---- a line whose last field alone stands in quotes

open_take : (n : ℕ) (line : List ℕ) → IsOpen line → IsOpen (take n line)
open_take zero line o = tt
open_take (suc n) [] o = tt
open_take (suc n) (b ∷ line) o = (o.0, open_take n line o.1)

open_drop : (n : ℕ) (line : List ℕ) → IsOpen line → IsOpen (drop n line)
open_drop zero line o = o
open_drop (suc n) [] o = tt
open_drop (suc n) (b ∷ line) o = open_drop n line o.1

-- the bytes before the first that passes a test, and those of a text where none does
before : (test : ℕ → Bool) (n : ℕ) (text : List ℕ) → ((k : ℕ) → k < n → test (get_or text k 0) ≡ true → ⊥) → Each (λ b. test b ≡ false) (take n text)
before test zero text none = tt
before test (suc n) [] none = tt
before test (suc n) (b ∷ text) none = (fails _ (none 0 (omega arith)), before test n text (λ k below h. none (suc k) (omega arith) h))

nowhere : (test : ℕ → Bool) (text : List ℕ) → ((k : ℕ) → k < length text → test (get_or text k 0) ≡ true → ⊥) → Each (λ b. test b ≡ false) text
nowhere test [] none = tt
nowhere test (b ∷ text) none = (fails _ (none 0 (omega arith)), nowhere test text (λ k below h. none (suc k) (omega arith) h))

either_of : (text : List ℕ) → Each (λ b. b == 34 ≡ false) text → Each (λ b. b == 13 ≡ false) text → Each (λ b. (b == 34 || b == 13) ≡ false) text
either_of [] h k = tt
either_of (b ∷ text) h k = (rw (h.0, k.0) refl, either_of text h.1 k.1)

-- a text by two neighbours in it, and by its last byte
around : (n : ℕ) (text : List ℕ) → n + 1 < length text → text ≡ take n text ++ (get_or text n 0 ∷ get_or text (n + 1) 0 ∷ drop (n + 2) text)
around zero [] h = absurd (omega arith)
around zero (a ∷ []) h = absurd (omega arith)
around zero (a ∷ b ∷ text) h = refl
around (suc n) [] h = absurd (omega arith)
around (suc n) (a ∷ text) h =
    let one : suc n + 1 ≡ suc (n + 1) = omega arith in
    let two : suc n + 2 ≡ suc (n + 2) = omega arith in
    rw (one, two) (ap (λ t. a ∷ t) (around n text (omega arith)))

at_end : (n : ℕ) (text : List ℕ) → n + 1 ≡ length text → text ≡ take n text ++ get_or text n 0 ∷ []
at_end zero [] h = absurd (omega arith)
at_end zero (a ∷ []) h = refl
at_end zero (a ∷ b ∷ text) h = absurd (omega arith)
at_end (suc n) [] h = absurd (omega arith)
at_end (suc n) (a ∷ text) h = ap (λ t. a ∷ t) (at_end n text (omega arith))

-- ---- a text in quotes behind plain bytes

quotes : List ℕ → ℕ
quotes text = count_by (λ b. b == 34) text

quotes_append : (xs ys : List ℕ) → quotes (xs ++ ys) ≡ quotes xs + quotes ys
unfolding quotes
quotes_append xs ys = sum_by-append (λ b. cond (b == 34) 1 0) xs ys

quotes_none : (text : List ℕ) → IsPlain text → quotes text ≡ 0
unfolding quotes
quotes_none text p = no_quote text p

quotes_cons : (b : ℕ) (text : List ℕ) → quotes (b ∷ text) ≡ cond (b == 34) 1 0 + quotes text
unfolding quotes
quotes_cons b text = sum_by-cons (λ b. cond (b == 34) 1 0) b text

two_quotes : (front last : List ℕ) → IsPlain front → IsPlain last → quotes (front ++ quoted_tail last) ≡ 2
two_quotes front last p q =
    omega (
      arith,
      quotes_append front (quoted_tail last),
      quotes_none front p,
      quotes_cons 44 (34 ∷ (last ++ 34 ∷ [])),
      quotes_cons 34 (last ++ 34 ∷ []),
      quotes_append last (34 ∷ []),
      quotes_none last q,
      quotes_cons 34 [],
      quotes_none [] tt,
    )

no_returns : (front last : List ℕ) → IsPlain front → IsPlain last → list_any (λ b. b == 13) (front ++ quoted_tail last) ≡ false
no_returns front last p q =
    list_any-append (λ b. b == 13) front (quoted_tail last)
    ∙ rw (no_return front p) (list_any-append (λ b. b == 13) last (34 ∷ []) ∙ rw (no_return last q) refl)

not_broken : (line : List ℕ) → quotes line ≡ 2 → list_any (λ b. b == 13) line ≡ false → is_broken line ≡ false
unfolding quotes
not_broken line e f = rw (e, f) refl

-- the line by its parts
parts : (line : List ℕ) (n end : ℕ) → n + 1 < length line → get_or line n 0 ≡ 44 → get_or line (n + 1) 0 ≡ 34
    → get_or (drop (n + 2) line) end 0 ≡ 34 → end + 1 ≡ length (drop (n + 2) line) → line ≡ take n line ++ quoted_tail (take end (drop (n + 2) line))
parts line n end within comma open_quote close_quote whole =
    around n line within
    ∙ ap (λ b. take n line ++ (b ∷ get_or line (n + 1) 0 ∷ drop (n + 2) line)) comma
    ∙ ap (λ b. take n line ++ (44 ∷ b ∷ drop (n + 2) line)) open_quote
    ∙ ap (λ rest. take n line ++ (44 ∷ 34 ∷ rest)) (at_end end (drop (n + 2) line) whole)
    ∙ ap (λ b. take n line ++ (44 ∷ 34 ∷ (take end (drop (n + 2) line) ++ b ∷ []))) close_quote

quoted_parts : (line front last : List ℕ) → line ≡ front ++ quoted_tail last → get_or line 0 0 ≢ 0xEF → IsPlain front → IsPlain last
    → (is_broken line ≡ false) × (line_fields line ≡ Some (split_at_commas front ++ last ∷ []))
quoted_parts line front last e first p q =
    let read : next_record default_config st.StartRecord [] [] line ≡ Some (split_at_commas front ++ last ∷ [], st.StartRecord, []) = rw e (quoted_line front last p q) in (
      not_broken line (ap quotes e ∙ two_quotes front last p q) (ap (list_any (λ b. b == 13)) e ∙ no_returns front last p q),
      fields_are line (split_at_commas front ++ last ∷ []) first read,
    )

quoted : (line : List ℕ) (n end : ℕ) → get_or line 0 0 ≢ 0xEF → get_or line n 0 ≡ 44 → IsOpen line
    → IsFirstByte (is_byte 34) line (Some (n + 1)) → IsFirstByte (is_byte2 34 13) (drop (n + 2) line) (Some end)
    → get_or (drop (n + 2) line) end 0 ≡ 34 → end + 1 ≡ length (drop (n + 2) line) → IsFirstByte (is_byte 13) (take n line) None
    → (is_broken line ≡ false) × (line_fields line ≡ Some (split_at_commas (take n line) ++ take end (drop (n + 2) line) ∷ []))
quoted line n end first comma o opens stops close_quote whole none =
    let within : n + 1 < length line = opens.0.high in
    let open_quote : get_or line (n + 1) 0 ≡ 34 = eqb-true _ _ opens.1 in
    let front : IsPlain (take n line) =
    plain_text (take n line) (open_take n line o)
    (either_of (take n line) (before (λ b. b == 34) n line (λ k below h. opens.0.before k (omega arith) (omega arith) h)) (nowhere (λ b. b == 13) (take n line) (λ k below h. none k (omega arith) below h))) in
    let last : IsPlain (take end (drop (n + 2) line)) =
    plain_text (take end (drop (n + 2) line)) (open_take end (drop (n + 2) line) (open_drop (n + 2) line o))
    (before (λ b. b == 34 || b == 13) end (drop (n + 2) line) (λ k below h. stops.0.before k (omega arith) (omega arith) h)) in
    quoted_parts line (take n line) (take end (drop (n + 2) line)) (parts line n end within comma open_quote close_quote whole) first front last

-- the same, where the quotes open at a place that has the rest of the line behind it
pub quoted_at : (line rest : List ℕ) (place n end : ℕ) → place ≡ n + 1 → rest ≡ take (length line - (place + 1)) (drop (place + 1) line) → get_or line 0 0 ≢ 0xEF
    → get_or line n 0 ≡ 44 → IsOpen line → IsFirstByte (is_byte 34) line (Some place) → IsFirstByte (is_byte2 34 13) rest (Some end)
    → get_or rest end 0 ≡ 34 → end + 1 ≡ length rest → IsFirstByte (is_byte 13) (take n line) None
    → (is_broken line ≡ false) × (line_fields line ≡ Some (split_at_commas (take n line) ++ take end rest ∷ []))
quoted_at line rest place n end before_place behind first comma o opens stops close_quote whole none =
    let same : rest ≡ drop (n + 2) line = behind ∙ slice_rest (place + 1) line ∙ ap (λ k. drop k line) (omega (arith, before_place)) in
    rw same
    (quoted line n end first comma o (subst (λ k. IsFirstByte (is_byte 34) line (Some k)) before_place opens) (subst (λ r. IsFirstByte (is_byte2 34 13) r (Some end)) same stops)
    (rw same at close_quote) (rw same at whole) none)
