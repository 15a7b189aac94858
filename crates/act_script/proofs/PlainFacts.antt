-- On a line without quote, carriage return and line feed the record of csv is the split at the commas, and a last field
-- in quotes is one more.
use Rattle.std.proofs.Common.{◌≡◌, ◌≢◌, ℕ, Bool, true, false, List, [], ◌∷◌, ◌++◌, Option, Some, refl, sym, ap, ◌∙◌, cond, ◌==◌, append_assoc, arith}
use Rattle.std.specs.List.{onto_first}
use Rattle.std.proofs.lemmas.Bool.{ne_eqb as differs}
use Rattle.std.proofs.lemmas.List.{append-nil}
use Rattle.csv.specs.Machine.{Read, next_record, step, in_field, is_end, fields_after, field_after}
use Rattle.csv.specs.Reading.{default_config}
use Rattle.csv.specs.declared.parser.State.{State}
use Rattle.csv.specs.declared.parser.State.TheVariants as st
use Rattle.csv.specs.declared.parser.Action.{Action}
use Rattle.csv.specs.declared.parser.Action.TheVariants as act
use Rattle.act_script.specs.Fields.{Field}
use Rattle.act_script.specs.Records.{IsPlain, PlainLinesAreSplit, split_at_commas}

-- the bytes of the field at hand stand before those of the first field
abbrev before : Field → List Field → List Field
before field [] = field ∷ []
before field (first ∷ fields) = (field ++ first) ∷ fields

-- within a field, or at its start
abbrev IsAtField : State → Type 0
IsAtField st.StartRecord = ⊥
IsAtField st.StartField = Unit {0}
IsAtField st.InField = Unit {0}
IsAtField st.InQuoted = ⊥
IsAtField st.InEscape = ⊥
IsAtField st.AfterQuote = ⊥
IsAtField st.InComment = ⊥
IsAtField st.AfterCr = ⊥

-- what a plain byte does
abbrev plain_step : ℕ → State × Action
plain_step c = cond (c == 44) (st.StartField, act.EndField) (st.InField, act.Copy)

in_field-plain : (c : ℕ) → c ≢ 13 → c ≢ 10 → in_field default_config c ≡ plain_step c
in_field-plain c r f = rw (differs c 13 r, differs c 10 f) refl

step-plain : (s : State) (c : ℕ) → IsAtField s → c ≢ 34 → c ≢ 13 → c ≢ 10 → step default_config s c ≡ plain_step c
step-plain st.StartField c h q r f = rw (differs c 34 q) (in_field-plain c r f)
step-plain st.InField c h q r f = in_field-plain c r f
step-plain st.StartRecord c h q r f = absurd h
step-plain st.InQuoted c h q r f = absurd h
step-plain st.InEscape c h q r f = absurd h
step-plain st.AfterQuote c h q r f = absurd h
step-plain st.InComment c h q r f = absurd h
step-plain st.AfterCr c h q r f = absurd h

start-plain : (c : ℕ) → c ≢ 34 → c ≢ 13 → c ≢ 10 → step default_config st.StartRecord c ≡ plain_step c
start-plain c q r f = rw (differs c 13 r, differs c 10 f, differs c 34 q) refl

before-none : (fields : List Field) → fields ≢ [] → before [] fields ≡ fields
before-none [] some = absurd (some refl)
before-none (first ∷ fields) some = refl

before-byte : (field : Field) (c : ℕ) (fields : List Field) → fields ≢ [] → before (field ++ c ∷ []) fields ≡ before field (onto_first c fields)
before-byte field c [] some = absurd (some refl)
before-byte field c (first ∷ fields) some = ap (λ f. f ∷ fields) (append_assoc field (c ∷ []) first)

pub some-split : (line : List ℕ) → split_at_commas line ≢ []
some-split [] = λ e. cc
some-split (c ∷ line) = by (c == 44) (split_at_commas line)
  where
    by : (t : Bool) (parts : List Field) → cond t ([] ∷ parts) (onto_first c parts) ≢ []
    by true parts = λ e. cc
    by false [] = λ e. cc
    by false (part ∷ parts) = λ e. cc

-- ---- a run of plain bytes, with anything behind it

-- what is read goes on as K says of the fields so far
module _ (K : List Field → Option Read) where
  -- what is read from a byte on, by what it does
  abbrev NextIs : List Field → Field → ℕ → List ℕ → List ℕ → State × Action → Type 0
  NextIs fields field c rest tail p =
      cond (is_end p.1) (Some (fields_after p.1 fields field, p.0, rest ++ tail)) (next_record default_config p.0 (fields_after p.1 fields field) (field_after p.1 c field) (rest ++ tail))
      ≡ K (fields ++ before field (split_at_commas (c ∷ rest)))

  plain-byte : (t : Bool) (fields : List Field) (field : Field) (c : ℕ) (rest tail : List ℕ) → c == 44 ≡ t
      → next_record default_config st.StartField (fields ++ field ∷ []) [] (rest ++ tail) ≡ K ((fields ++ field ∷ []) ++ before [] (split_at_commas rest))
      → next_record default_config st.InField fields (field ++ c ∷ []) (rest ++ tail) ≡ K (fields ++ before (field ++ c ∷ []) (split_at_commas rest))
      → NextIs fields field c rest tail (cond t (st.StartField, act.EndField) (st.InField, act.Copy))
  plain-byte true fields field c rest tail e comma copy =
      rw e (comma
      ∙ ap K
      (ap (λ fs. (fields ++ field ∷ []) ++ fs) (before-none (split_at_commas rest) (some-split rest))
      ∙ append_assoc fields (field ∷ []) (split_at_commas rest)
      ∙ ap (λ f. fields ++ f ∷ split_at_commas rest) (sym (append-nil field))))
  plain-byte false fields field c rest tail e comma copy =
      rw e (copy ∙ ap (λ fs. K (fields ++ fs)) (before-byte field c (split_at_commas rest) (some-split rest)))

  plain-run : (tail : List ℕ) → ((s : State) (fields : List Field) (field : Field) → IsAtField s → next_record default_config s fields field tail ≡ K (fields ++ (field ++ []) ∷ []))
      → (s : State) (fields : List Field) (field : Field) (rest : List ℕ) → IsAtField s → IsPlain rest
      → next_record default_config s fields field (rest ++ tail) ≡ K (fields ++ before field (split_at_commas rest))
  unfolding next_record
  plain-run tail end s fields field [] h p = end s fields field h
  plain-run tail end s fields field (c ∷ rest) h p =
      rw (step-plain s c h p.0.0 p.0.1 p.0.2)
      (plain-byte (c == 44) fields field c rest tail refl (plain-run tail end st.StartField (fields ++ field ∷ []) [] rest tt p.1)
      (plain-run tail end st.InField fields (field ++ c ∷ []) rest tt p.1))

-- a record whose first byte is plain
plain-start : (c : ℕ) (rest : List ℕ) → c ≢ 34 → c ≢ 13 → c ≢ 10 → next_record default_config st.StartRecord [] [] (c ∷ rest) ≡ next_record default_config st.StartField [] [] (c ∷ rest)
unfolding next_record
plain-start c rest q r f = rw (start-plain c q r f, step-plain st.StartField c tt q r f) refl

-- ---- a line of plain bytes alone

-- the end of the line ends the record
plain-end : (s : State) (fields : List Field) (field : Field) → IsAtField s
    → next_record default_config s fields field [] ≡ Some (fields ++ (field ++ []) ∷ [], st.StartRecord, [])
unfolding next_record
plain-end st.StartField fields field h = rw (append-nil field) refl
plain-end st.InField fields field h = rw (append-nil field) refl
plain-end st.StartRecord fields field h = absurd h
plain-end st.InQuoted fields field h = absurd h
plain-end st.InEscape fields field h = absurd h
plain-end st.AfterQuote fields field h = absurd h
plain-end st.InComment fields field h = absurd h
plain-end st.AfterCr fields field h = absurd h

pub plain_lines_are_split : PlainLinesAreSplit
plain_lines_are_split [] some p = absurd (some refl)
plain_lines_are_split (c ∷ line) some p =
    let K : List Field → Option Read = λ fs. Some (fs, st.StartRecord, []) in
    plain-start c line p.0.0 p.0.1 p.0.2
    ∙ ap (next_record default_config st.StartField [] []) (sym (append-nil (c ∷ line)))
    ∙ plain-run K [] plain-end st.StartField [] [] (c ∷ line) tt p ∙ ap K (before-none (split_at_commas (c ∷ line)) (some-split (c ∷ line)))

-- ---- a line whose last field alone stands in quotes

-- no quote stands in it, and no end of a record
quoted-run : (fields : List Field) (field last : Field) → IsPlain last
    → next_record default_config st.InQuoted fields field (last ++ 34 ∷ []) ≡ Some (fields ++ (field ++ last) ∷ [], st.StartRecord, [])
unfolding next_record
quoted-run fields field [] p = rw (append-nil field) refl
quoted-run fields field (c ∷ last) p =
    rw (differs c 34 p.0.0)
    (quoted-run fields (field ++ c ∷ []) last p.1 ∙ ap (λ f. Some (fields ++ f ∷ [], st.StartRecord, [])) (append_assoc field (c ∷ []) last))

-- a comma, and a text in quotes
abbrev pub quoted_tail : List ℕ → List ℕ
quoted_tail last = 44 ∷ 34 ∷ (last ++ 34 ∷ [])

quoted-end : (last : Field) → IsPlain last → (s : State) (fields : List Field) (field : Field) → IsAtField s
    → next_record default_config s fields field (quoted_tail last) ≡ Some ((fields ++ (field ++ []) ∷ []) ++ last ∷ [], st.StartRecord, [])
unfolding next_record
quoted-end last p st.StartField fields field h = rw (append-nil field) (quoted-run (fields ++ field ∷ []) [] last p)
quoted-end last p st.InField fields field h = rw (append-nil field) (quoted-run (fields ++ field ∷ []) [] last p)
quoted-end last p st.StartRecord fields field h = absurd h
quoted-end last p st.InQuoted fields field h = absurd h
quoted-end last p st.InEscape fields field h = absurd h
quoted-end last p st.AfterQuote fields field h = absurd h
quoted-end last p st.InComment fields field h = absurd h
quoted-end last p st.AfterCr fields field h = absurd h

-- a record that begins with plain bytes and one more of them
first-plain : (front : List ℕ) (b : ℕ) (tail : List ℕ) → b ≢ 34 → b ≢ 13 → b ≢ 10 → IsPlain front
    → next_record default_config st.StartRecord [] [] (front ++ b ∷ tail) ≡ next_record default_config st.StartField [] [] (front ++ b ∷ tail)
first-plain [] b tail q r f p = plain-start b tail q r f
first-plain (c ∷ front) b tail q r f p = plain-start c (front ++ b ∷ tail) p.0.0 p.0.1 p.0.2

comma : ℕ
comma = 44

comma-plain : (comma ≢ 34) × (comma ≢ 13) × (comma ≢ 10)
unfolding comma
comma-plain = (λ e. absurd (omega (arith, e)), λ e. absurd (omega (arith, e)), λ e. absurd (omega (arith, e)))

comma-start : (front tail : List ℕ) → IsPlain front
    → next_record default_config st.StartRecord [] [] (front ++ 44 ∷ tail) ≡ next_record default_config st.StartField [] [] (front ++ 44 ∷ tail)
unfolding comma
comma-start front tail p = first-plain front comma tail comma-plain.0 comma-plain.1 comma-plain.2 p

with_last : Field → List Field → Option Read
with_last last fields = Some (fields ++ last ∷ [], st.StartRecord, [])

last-end : (last : Field) → IsPlain last → (s : State) (fields : List Field) (field : Field) → IsAtField s
    → next_record default_config s fields field (quoted_tail last) ≡ with_last last (fields ++ (field ++ []) ∷ [])
unfolding with_last
last-end last p s fields field h = quoted-end last p s fields field h

split-last : (front last : List ℕ) → with_last last (before [] (split_at_commas front)) ≡ Some (split_at_commas front ++ last ∷ [], st.StartRecord, [])
unfolding with_last
split-last front last = rw (before-none (split_at_commas front) (some-split front)) refl

pub quoted_line : (front last : List ℕ) → IsPlain front → IsPlain last
    → next_record default_config st.StartRecord [] [] (front ++ quoted_tail last) ≡ Some (split_at_commas front ++ last ∷ [], st.StartRecord, [])
quoted_line front last p q =
    comma-start front (34 ∷ (last ++ 34 ∷ [])) p
    ∙ plain-run (with_last last) (quoted_tail last) (last-end last q) st.StartField [] [] front tt p ∙ split-last front last
