-- What clap's walk does with words that are options with a value each.
use Rattle.std.proofs.Common.{◌≡◌, ◌==◌, ◌&&◌, ◌||◌, ℕ, suc, Bool, true, false, not, List, [], ◌∷◌, ◌++◌, Option, Some, None, map, option_map, refl, sym, ap, ◌∙◌, cond, length, append_assoc, ◌⊎◌, inl, inr, option_and_then, codes}
use Rattle.std.specs.Prelude.{slice_get, fold}
use Rattle.std.proofs.lemmas.List.{append-nil}
use Rattle.std.proofs.lemmas.Slice.Eq.{bytes_eq-Decides}
use Rattle.std.specs.List.{list_all}
use Rattle.std.specs.Char.{is_ascii_digit}
use Rattle.std.specs.Str.{all_ascii_digits, bytes_eq, chars}
use Rattle.clap.specs.Lexer.{long_of, short_of, short_of_rest}
use Rattle.clap.specs.Kinds.{Kinds, or_else}
use Rattle.clap.specs.Simple.{Shape, built, filled, new_shape}
use Rattle.clap.specs.Faults.{flags_fault, is_simple_and_free, react_fault, settle_fault, turn_fault, use_fault, walk_fault}
use Rattle.clap.specs.Walk.{Held, Row, more_values, Rule, Text, Walk, idle, option, arg_by_id, arg_by_index, arg_by_long, arg_by_short, at_row, bundle_met, has_row, plain, reacted, settled, settled_rows, used, walked}
use Rattle.clap.specs.Values.{reading_of}
use Rattle.clap.specs.declared.builder.value_parser.ValueParser.TheVariants as vp
use Rattle.clap.specs.declared.parser.matches.ValueSource.TheVariants.{CommandLine}
use Rattle.clap.specs.declared.error.kind.ErrorKind.TheVariants as kind
use Rattle.std.proofs.Common.{arith}
use Rattle.std.specs.Prelude.{nat_le}
use Rattle.std.proofs.lemmas.Bool.{ne_eqb}
use Rattle.std.proofs.lemmas.Str.Parse.{tells_all_ascii_digits}
use Rattle.act_words.specs.Words.{is_number, Given, Word, given_by, given_option, is_among, is_apart, is_seen, option_names, with_given}
use Rattle.act_words.specs.Clap.{join_app, plain_rule}

abbrev pub option_rule : Text → Rule
option_rule name = filled (plain_rule name)

abbrev pub rules : List Word → List Rule
rules names = map option_rule names

abbrev pub shape : List Word → Shape
shape names = record (new_shape (codes "join")) {
  rules = rules names;
  no_binary_name = true;
  disable_help_flag = true;
  disable_help_subcommand = true;
  is_built = true;
}

pub join_shape : (built join_app).top ≡ shape option_names
join_shape = refl

pub join_simple : is_simple_and_free join_app ≡ true
join_simple = refl

-- ---- which option a name names

picked : (b r : Bool) (x y : Rule) (o : Option Rule) → (b ≡ true → x ≡ y) → o ≡ cond r (Some y) None → cond b (Some x) o ≡ cond (b || r) (Some y) None
picked true r x y o same rest = ap Some (same refl)
picked false r x y o same rest = rest

or-false : (b : Bool) → (b || false) ≡ b
or-false true = refl
or-false false = refl

pub by_long : (names : List Word) (name : Word) → arg_by_long (rules names) name ≡ cond (is_among names name) (Some (option_rule name)) None
by_long [] name = refl
by_long (n ∷ names) name = rw (or-false (bytes_eq n name)) (picked (bytes_eq n name) (is_among names name) (option_rule n) (option_rule name) _
    (λ e. ap option_rule ((bytes_eq-Decides n name).0 e)) (by_long names name))

pub by_id : (names : List Word) (name : Word) → arg_by_id (rules names) name ≡ cond (is_among names name) (Some (option_rule name)) None
by_id [] name = refl
by_id (n ∷ names) name = picked (bytes_eq n name) (is_among names name) (option_rule n) (option_rule name) _
    (λ e. ap option_rule ((bytes_eq-Decides n name).0 e)) (by_id names name)

pub no_short : (names : List Word) (x : ℕ) → arg_by_short (rules names) x ≡ None
no_short [] x = refl
no_short (n ∷ names) x = no_short names x

pub no_index : (names : List Word) (i : ℕ) → arg_by_index (rules names) i ≡ None
no_index [] i = refl
no_index (n ∷ names) i = no_index names i

-- ---- what is held of options that were given

abbrev pub option_row : Word × Word → Row
option_row p = record { id = p.0; values = p.1 ∷ []; count = None; source = Some CommandLine; reading = reading_of vp.String }

abbrev pub rows : Given → List Row
rows seen = map option_row seen

abbrev pub held_at : Given → Option (Word × List Word) → Held
held_at seen pending = record { rows = rows seen; pending = pending; skip = 0 }

has_seen : (seen : Given) (name : Word) → has_row name (rows seen) ≡ is_seen seen name
has_seen [] name = refl
has_seen (p ∷ seen) name = ap (λ b. bytes_eq p.0 name || b) (has_seen seen name)

-- a row for a name that has none is put at the end
new_row : (seen : Given) (name : Word) (change : Row → List Row) (missing : List Row) → is_seen seen name ≡ false → at_row name change missing (rows seen) ≡ rows seen ++ missing
new_row [] name change missing h = refl
new_row (p ∷ seen) name change missing h = by (bytes_eq p.0 name) h (new_row seen name change missing)
  where
    by : (b : Bool) → (b || is_seen seen name) ≡ false → (is_seen seen name ≡ false → at_row name change missing (rows seen) ≡ rows seen ++ missing)
        → cond b (change (option_row p) ++ rows seen) (option_row p ∷ at_row name change missing (rows seen)) ≡ option_row p ∷ (rows seen ++ missing)
    by true q more = cc
    by false q more = ap (λ l. option_row p ∷ l) (more q)

rows-more : (seen : Given) (p : Word × Word) → rows (seen ++ p ∷ []) ≡ rows seen ++ option_row p ∷ []
rows-more [] p = refl
rows-more (q ∷ seen) p = ap (λ l. option_row q ∷ l) (rows-more seen p)

-- one use of an option
pub used_new : (seen : Given) (name value : Word) → is_seen seen name ≡ false → used (option_rule name) (value ∷ []) (rows seen) ≡ rows (seen ++ (name, value) ∷ [])
used_new seen name value h =
    let gone = new_row seen name (λ _. []) [] h ∙ append-nil (rows seen) in
    rw gone (new_row seen name (more_values CommandLine (value ∷ [])) (option_row (name, value) ∷ []) h ∙ sym (rows-more seen (name, value)))

pub use_fault_is : (seen : Given) (name value : Word) → use_fault false (option_rule name) (value ∷ []) (rows seen) ≡ cond (is_seen seen name) (kind.ArgumentConflict ∷ []) []
use_fault_is seen name value = rw (has_seen seen name) (by (is_seen seen name))
  where
    by : (b : Bool) → or_else (cond (b && true) (kind.ArgumentConflict ∷ []) []) [] ≡ cond b (kind.ArgumentConflict ∷ []) []
    by true = refl
    by false = refl

-- ---- one word

abbrev pub standing : Held → Walk
standing h = record { held = h; waiting = idle; position = 1; is_trailing = false; stopped = None }

abbrev pub waiting_for : Word → Held → Walk
waiting_for name h = record { held = h; waiting = option name; position = 1; is_trailing = false; stopped = None }

abbrev pub dashes : Word
dashes = 45 ∷ 45 ∷ []

-- a word of the form `--name` or `--name=value` isn't `--`
pub no_dashes : (word : Word) (p : Word × Option Word) → long_of word ≡ Some p → bytes_eq word dashes ≡ false
no_dashes word p e = by (bytes_eq word dashes) refl
  where
    by : (b : Bool) → bytes_eq word dashes ≡ b → b ≡ false
    by false h = refl
    by true h = let none : long_of word ≡ None = ap long_of ((bytes_eq-Decides word dashes).0 h) in cc (e, none)

known_long : (names : List Word) (name : Word) → is_among names name ≡ true → arg_by_long (rules names) name ≡ Some (option_rule name)
known_long names name h = by_long names name ∙ rw h refl

known_id : (names : List Word) (name : Word) → is_among names name ≡ true → arg_by_id (rules names) name ≡ Some (option_rule name)
known_id names name h = by_id names name ∙ rw h refl

unknown_long : (names : List Word) (name : Word) → is_among names name ≡ false → arg_by_long (rules names) name ≡ None
unknown_long names name h = by_long names name ∙ rw h refl

pub or_none : (a : Kinds) → or_else a [] ≡ a
or_none [] = refl
or_none (k ∷ ks) = refl

-- `--name=value`, where nothing waits
joined_turn : (names : List Word) (h : Held) (word name value : Word) → long_of word ≡ Some (name, Some value) → is_among names name ≡ true
    → (turn_fault (shape names) [] (standing h) word ≡ react_fault (rules names) false (option_rule name) (value ∷ []) h)
    × (walked (rules names) [] (standing h) word ≡ standing (reacted (rules names) (option_rule name) (value ∷ []) h))
unfolding walked
joined_turn names h word name value e known =
    let not_end = no_dashes word _ e in
    let rule = known_long names name known in
    (rw (not_end, e, rule) (or_none _), rw (not_end, e, rule) refl)

-- `--name`, where nothing waits
apart_turn : (names : List Word) (h : Held) (word name : Word) → long_of word ≡ Some (name, None) → is_among names name ≡ true
    → (turn_fault (shape names) [] (standing h) word ≡ settle_fault (rules names) false h)
    × (walked (rules names) [] (standing h) word ≡ waiting_for name (record (settled (rules names) h) { pending = Some (name, []) }))
unfolding walked
apart_turn names h word name e known =
    let not_end = no_dashes word _ e in
    let rule = known_long names name known in
    (rw (not_end, e, rule) (or_none _), rw (not_end, e, rule) refl)

-- an option that the command doesn't have
abbrev pub Faulty : Kinds → Type 0
Faulty kinds = kinds ≡ [] → ⊥

unknown_standing : (names : List Word) (h : Held) (word name : Word) (v : Option Word) → long_of word ≡ Some (name, v) → is_among names name ≡ false
    → Faulty (turn_fault (shape names) [] (standing h) word)
unknown_standing names h word name v e known =
    let not_end = no_dashes word _ e in
    let rule = unknown_long names name known in
    rw (not_end, e, rule) (λ q. cc)

unknown_waiting : (names : List Word) (n : Word) (h : Held) (word name : Word) (v : Option Word) → long_of word ≡ Some (name, v) → is_among names name ≡ false
    → Faulty (turn_fault (shape names) [] (waiting_for n h) word)
unknown_waiting names n h word name v e known =
    let not_end = no_dashes word _ e in
    let rule = unknown_long names name known in
    rw (not_end, e, rule) (λ q. cc)

-- a flag of one letter, or a word that is no flag, where nothing waits
stray_standing : (names : List Word) (h : Held) (word : Word) → bytes_eq word dashes ≡ false → long_of word ≡ None → short_of word ≡ None
    → Faulty (turn_fault (shape names) [] (standing h) word)
stray_standing names h word not_end e short = rw (not_end, e, short, no_index names 1) (λ q. cc)

-- the first letter of a bundle
letters_fault : (names : List Word) (k : ℕ) (flags : Word) (h : Held) (x : ℕ) → slice_get (chars flags) 0 ≡ Some x → Faulty (flags_fault (rules names) false (suc k) flags 0 h)
unfolding flags_fault
letters_fault names k flags h x e = rw (e, no_short names x) (λ q. cc)

no_letters_fault : (names : List Word) (k : ℕ) (flags : Word) (h : Held) → slice_get (chars flags) 0 ≡ None → flags_fault (rules names) false (suc k) flags 0 h ≡ []
unfolding flags_fault
no_letters_fault names k flags h e = rw e refl

no_letters_met : (names : List Word) (k : ℕ) (flags : Word) (h : Held) → slice_get (chars flags) 0 ≡ None → bundle_met (rules names) (suc k) flags 0 plain h ≡ (h, plain)
unfolding bundle_met
no_letters_met names k flags h e = rw e refl

-- a value, where an option waits
value_waiting : (names : List Word) (n : Word) (seen : Given) (word : Word) → is_among names n ≡ true → bytes_eq word dashes ≡ false → long_of word ≡ None → short_of word ≡ None
    → (turn_fault (shape names) [] (waiting_for n (held_at seen (Some (n, [])))) word ≡ [])
    × (walked (rules names) [] (waiting_for n (held_at seen (Some (n, [])))) word ≡ standing (held_at seen (Some (n, word ∷ []))))
unfolding walked
value_waiting names n seen word known not_end e short =
    let rule = known_id names n known in
    let same = (bytes_eq-Decides n n).1 refl in
    (rw (not_end, e, short) refl, rw (not_end, e, short, rule, same) refl)

-- an option, where an option waits
known_waiting : (names : List Word) (n : Word) (seen : Given) (word name : Word) (v : Option Word) → is_among names n ≡ true → long_of word ≡ Some (name, v) → is_among names name ≡ true
    → Faulty (turn_fault (shape names) [] (waiting_for n (held_at seen (Some (n, [])))) word)
known_waiting names n seen word name None waits e known =
    let not_end = no_dashes word _ e in
    rw (not_end, e, known_long names name known, known_id names n waits) (λ q. cc)
known_waiting names n seen word name (Some v) waits e known =
    let not_end = no_dashes word _ e in
    rw (not_end, e, known_long names name known, known_id names n waits) (λ q. cc)

faulty_or : (a b : Kinds) → Faulty a → Faulty (or_else a b)
faulty_or [] b h q = absurd (h refl)
faulty_or (k ∷ ks) b h q = cc

-- a bundle has a letter
no_empty_bundle : (word : Word) → short_of word ≡ Some [] → ⊥
no_empty_bundle [] e = cc
no_empty_bundle (x ∷ xs) e = first (x == 45) xs e
  where
    second : (b : Bool) (y : ℕ) (ys : Word) → cond b None (Some (y ∷ ys)) ≡ Some [] → ⊥
    second true y ys q = cc
    second false y ys q = cc

    first : (b : Bool) (rest : Word) → option_and_then short_of_rest (cond b (Some rest) None) ≡ Some [] → ⊥
    first false rest q = cc
    first true [] q = cc
    first true (y ∷ ys) q = second (y == 45) y ys q

-- a bundle of letters, where nothing waits
short_standing : (names : List Word) (seen : Given) (p : Option (Word × List Word)) (word flags : Word) → bytes_eq word dashes ≡ false → long_of word ≡ None → short_of word ≡ Some flags
    → Faulty (turn_fault (shape names) [] (standing (held_at seen p)) word)
short_standing names seen p word [] not_end e short = absurd (no_empty_bundle word short)
short_standing names seen p word (y ∷ ys) not_end e short = by (slice_get (chars (y ∷ ys)) 0) refl
  where
    by : (o : Option ℕ) → slice_get (chars (y ∷ ys)) 0 ≡ o → Faulty (turn_fault (shape names) [] (standing (held_at seen p)) word)
    by (Some x) at = rw (not_end, e, short) (faulty_or _ _ (letters_fault names (length ys) (y ∷ ys) (held_at seen p) x at))
    by None at = rw (not_end, e, short, no_letters_fault names (length ys) (y ∷ ys) (held_at seen p) at, no_letters_met names (length ys) (y ∷ ys) (held_at seen p) at, no_index names 1) (λ q. cc)

-- a word with one hyphen, where an option waits: it is refused, or it is taken for the value
short_waiting : (names : List Word) (n : Word) (seen : Given) (word flags : Word) → is_among names n ≡ true → bytes_eq word dashes ≡ false → long_of word ≡ None → short_of word ≡ Some flags
    → Faulty (turn_fault (shape names) [] (waiting_for n (held_at seen (Some (n, [])))) word)
    ⊎ ((turn_fault (shape names) [] (waiting_for n (held_at seen (Some (n, [])))) word ≡ [])
    × (walked (rules names) [] (waiting_for n (held_at seen (Some (n, [])))) word ≡ standing (held_at seen (Some (n, word ∷ [])))))
unfolding walked
short_waiting names n seen word [] known not_end e short = absurd (no_empty_bundle word short)
short_waiting names n seen word (y ∷ ys) known not_end e short = by (slice_get (chars (y ∷ ys)) 0) refl
  where
    h : Held
    h = held_at seen (Some (n, []))

    by : (o : Option ℕ) → slice_get (chars (y ∷ ys)) 0 ≡ o
        → Faulty (turn_fault (shape names) [] (waiting_for n (held_at seen (Some (n, [])))) word)
        ⊎ ((turn_fault (shape names) [] (waiting_for n (held_at seen (Some (n, [])))) word ≡ [])
        × (walked (rules names) [] (waiting_for n (held_at seen (Some (n, [])))) word ≡ standing (held_at seen (Some (n, word ∷ [])))))
    by (Some x) at = inl (rw (not_end, e, short) (faulty_or _ _ (letters_fault names (length ys) (y ∷ ys) (held_at seen (Some (n, []))) x at)))
    by None at =
        let fault = no_letters_fault names (length ys) (y ∷ ys) (held_at seen (Some (n, []))) at in
        let met = no_letters_met names (length ys) (y ∷ ys) (held_at seen (Some (n, []))) at in
        let rule = known_id names n known in
        let same = (bytes_eq-Decides n n).1 refl in
        inr (rw (not_end, e, short, fault, met) refl, rw (not_end, e, short, met, rule, same) refl)

-- ---- all the words

abbrev pub fault_from : List Word → Walk → List Word → Kinds
fault_from names w words = or_else (walk_fault (shape names) [] w words) (settle_fault (rules names) false (fold (walked (rules names) []) w words).held)

abbrev pub rows_from : List Word → Walk → List Word → List Row
rows_from names w words = (settled (rules names) (fold (walked (rules names) []) w words).held).rows

or_assoc : (a b c : Kinds) → or_else (or_else a b) c ≡ or_else a (or_else b c)
or_assoc [] b c = refl
or_assoc (k ∷ ks) b c = refl

both_none : (a b : Kinds) → or_else a b ≡ [] → (a ≡ []) × (b ≡ [])
both_none [] b q = (refl, q)
both_none (k ∷ ks) b q = cc

fault_step : (names : List Word) (w : Walk) (word : Word) (words : List Word)
    → fault_from names w (word ∷ words) ≡ or_else (turn_fault (shape names) [] w word) (fault_from names (walked (rules names) [] w word) words)
unfolding walk_fault
fault_step names w word words = or_assoc (turn_fault (shape names) [] w word) (walk_fault (shape names) [] (walked (rules names) [] w word) words)
    (settle_fault (rules names) false (fold (walked (rules names) []) w (word ∷ words)).held)

-- where the words stand: behind an option, or behind a name that waits for its value
pub data Stand : Type 0 where
  behind : Option (Word × Word) → Stand
  open_for : Word → Stand

abbrev pub pend : Option (Word × Word) → Option (Word × List Word)
pend = option_map (λ p. (p.0, p.1 ∷ []))

abbrev pub walk_at : Given → Stand → Walk
walk_at seen (behind p) = standing (held_at seen (pend p))
walk_at seen (open_for n) = waiting_for n (held_at seen (Some (n, [])))

abbrev pub waits_for : Stand → Option Word
waits_for (behind p) = None
waits_for (open_for n) = Some n

abbrev pub IsKnown : List Word → Stand → Type 0
IsKnown names (behind None) = Unit {0}
IsKnown names (behind (Some p)) = is_among names p.0 ≡ true
IsKnown names (open_for n) = is_among names n ≡ true

abbrev pub front : Stand → Given → Given
front (behind None) given = given
front (behind (Some p)) given = p ∷ given
front (open_for n) given = given

-- none of the words is `--`
abbrev pub NoDashes : List Word → Type 0
NoDashes [] = Unit {0}
NoDashes (word ∷ words) = (bytes_eq word dashes ≡ false) × NoDashes words

-- what the words give, where clap takes them
pub record Gives (names : List Word) (seen : Given) (stand : Stand) (words : List Word) : Type 0 where
  pub given : Given
  pub reads : given_by names words (waits_for stand) ≡ Some given
  pub apart : is_apart seen (front stand given) ≡ true
  pub rows_are : rows_from names (walk_at seen stand) words ≡ rows (seen ++ front stand given)

settle_pending : (names : List Word) (seen : Given) (n v : Word) → is_among names n ≡ true
    → settle_fault (rules names) false (held_at seen (Some (n, v ∷ []))) ≡ cond (is_seen seen n) (kind.ArgumentConflict ∷ []) []
settle_pending names seen n v known = rw (known_id names n known) (use_fault_is seen n v)

settled_pending : (names : List Word) (seen : Given) (n v : Word) → is_among names n ≡ true → is_seen seen n ≡ false
    → settled_rows (rules names) (Some (n, v ∷ [])) (rows seen) ≡ rows (seen ++ (n, v) ∷ [])
settled_pending names seen n v known new = rw (known_id names n known) (used_new seen n v new)

settle_open : (names : List Word) (seen : Given) (n : Word) → is_among names n ≡ true → Faulty (settle_fault (rules names) false (held_at seen (Some (n, []))))
settle_open names seen n known = rw (known_id names n known) (λ q. cc)

not_seen : (b : Bool) → cond b (kind.ArgumentConflict ∷ []) [] ≡ [] → b ≡ false
not_seen true q = cc
not_seen false q = refl

fault_end : (names : List Word) (w : Walk) → fault_from names w [] ≡ settle_fault (rules names) false w.held
unfolding walk_fault
fault_end names w = refl

abbrev after : Given → Option (Word × Word) → Given
after seen None = seen
after seen (Some p) = seen ++ p ∷ []

-- what is pending is used
record Settles (names : List Word) (seen : Given) (p : Option (Word × Word)) : Type 0 where
  held : settled_rows (rules names) (pend p) (rows seen) ≡ rows (after seen p)
  apart : (given : Given) → is_apart (after seen p) given ≡ true → is_apart seen (front (behind p) given) ≡ true
  joins : (given : Given) → after seen p ++ given ≡ seen ++ front (behind p) given

settles : (names : List Word) (seen : Given) (p : Option (Word × Word)) → IsKnown names (behind p) → settle_fault (rules names) false (held_at seen (pend p)) ≡ []
    → Settles names seen p
settles names seen None known q = record { held = refl; apart = λ given h. h; joins = λ given. refl }
settles names seen (Some p) known q =
    let new : is_seen seen p.0 ≡ false = not_seen _ (sym (settle_pending names seen p.0 p.1 known) ∙ q) in
    record {
      held = settled_pending names seen p.0 p.1 known new;
      apart = λ given h. rw new h;
      joins = λ given. append_assoc seen (p ∷ []) given;
    }

gives_end : (names : List Word) (seen : Given) (p : Option (Word × Word)) → Settles names seen p → Gives names seen (behind p) []
gives_end names seen p s = record {
  given = [];
  reads = refl;
  apart = s.apart [] refl;
  rows_are = s.held ∙ ap rows (sym (append-nil (after seen p)) ∙ s.joins []);
}

joined_more : (names : List Word) (seen : Given) (p : Option (Word × Word)) (word name value : Word) (words : List Word) → Settles names seen p
    → long_of word ≡ Some (name, Some value) → is_among names name ≡ true → is_seen (after seen p) name ≡ false
    → walked (rules names) [] (walk_at seen (behind p)) word ≡ walk_at (after seen p ++ (name, value) ∷ []) (behind None)
    → Gives names (after seen p ++ (name, value) ∷ []) (behind None) words → Gives names seen (behind p) (word ∷ words)
joined_more names seen p word name value words s e among new goes rest = record {
  given = (name, value) ∷ rest.given;
  reads = rw (e, among) (ap (λ o. with_given name value o) rest.reads);
  apart = s.apart ((name, value) ∷ rest.given) (rw new rest.apart);
  rows_are = ap (λ v. rows_from names v words) goes ∙ rest.rows_are ∙ ap rows (append_assoc (after seen p) ((name, value) ∷ []) rest.given ∙ s.joins ((name, value) ∷ rest.given));
}

apart_more : (names : List Word) (seen : Given) (p : Option (Word × Word)) (word name : Word) (words : List Word) → Settles names seen p
    → long_of word ≡ Some (name, None) → is_among names name ≡ true
    → walked (rules names) [] (walk_at seen (behind p)) word ≡ walk_at (after seen p) (open_for name)
    → Gives names (after seen p) (open_for name) words → Gives names seen (behind p) (word ∷ words)
apart_more names seen p word name words s e among goes rest = record {
  given = rest.given;
  reads = rw (e, among) rest.reads;
  apart = s.apart rest.given rest.apart;
  rows_are = ap (λ v. rows_from names v words) goes ∙ rest.rows_are ∙ ap rows (s.joins rest.given);
}

value_more : (names : List Word) (seen : Given) (n word : Word) (words : List Word)
    → walked (rules names) [] (walk_at seen (open_for n)) word ≡ walk_at seen (behind (Some (n, word)))
    → Gives names seen (behind (Some (n, word))) words → Gives names seen (open_for n) (word ∷ words)
value_more names seen n word words goes rest = record {
  given = (n, word) ∷ rest.given;
  reads = ap (λ o. with_given n word o) rest.reads;
  apart = rest.apart;
  rows_are = ap (λ v. rows_from names v words) goes ∙ rest.rows_are;
}

-- the walk goes on from w to v with this fault
turn_parts : (names : List Word) (w v : Walk) (word : Word) (words : List Word) (fault : Kinds) → turn_fault (shape names) [] w word ≡ fault
    → walked (rules names) [] w word ≡ v → fault_from names w (word ∷ words) ≡ or_else fault (fault_from names v words)
turn_parts names w v word words fault t goes = rw (← t, ← goes) (fault_step names w word words)

gives_joined : (names : List Word) (seen : Given) (p : Option (Word × Word)) (word name value : Word) (words : List Word) → IsKnown names (behind p)
    → long_of word ≡ Some (name, Some value) → is_among names name ≡ true
    → ((now : Given) → fault_from names (walk_at now (behind None)) words ≡ [] → Gives names now (behind None) words)
    → fault_from names (walk_at seen (behind p)) (word ∷ words) ≡ [] → Gives names seen (behind p) (word ∷ words)
gives_joined names seen p word name value words known e among more q =
    let h = held_at seen (pend p) in
    let t = joined_turn names h word name value e among in
    let parts = both_none _ _ (sym (turn_parts names (standing h) _ word words _ t.0 t.1) ∙ q) in
    let uses = both_none _ _ parts.0 in
    let s = settles names seen p known uses.0 in
    let new : is_seen (after seen p) name ≡ false = not_seen _ (sym (use_fault_is (after seen p) name value) ∙ rw s.held at uses.1) in
    let now = after seen p ++ (name, value) ∷ [] in
    let held : reacted (rules names) (option_rule name) (value ∷ []) h ≡ held_at now None = rw s.held (ap (λ r. record { rows = r; pending = None; skip = 0 }) (used_new (after seen p) name value new)) in
    joined_more names seen p word name value words s e among new (t.1 ∙ ap standing held) (more now (rw held at parts.1))

gives_apart : (names : List Word) (seen : Given) (p : Option (Word × Word)) (word name : Word) (words : List Word) → IsKnown names (behind p)
    → long_of word ≡ Some (name, None) → is_among names name ≡ true
    → ((now : Given) → fault_from names (walk_at now (open_for name)) words ≡ [] → Gives names now (open_for name) words)
    → fault_from names (walk_at seen (behind p)) (word ∷ words) ≡ [] → Gives names seen (behind p) (word ∷ words)
gives_apart names seen p word name words known e among more q =
    let h = held_at seen (pend p) in
    let t = apart_turn names h word name e among in
    let parts = both_none _ _ (sym (turn_parts names (standing h) _ word words _ t.0 t.1) ∙ q) in
    let s = settles names seen p known parts.0 in
    let held = ap (λ r. waiting_for name (record { rows = r; pending = Some (name, []); skip = 0 })) s.held in
    apart_more names seen p word name words s e among (t.1 ∙ held) (more (after seen p) (rw s.held at parts.1))

gives_value : (names : List Word) (seen : Given) (n word : Word) (words : List Word)
    → turn_fault (shape names) [] (walk_at seen (open_for n)) word ≡ []
    → walked (rules names) [] (walk_at seen (open_for n)) word ≡ walk_at seen (behind (Some (n, word)))
    → (fault_from names (walk_at seen (behind (Some (n, word)))) words ≡ [] → Gives names seen (behind (Some (n, word))) words)
    → fault_from names (walk_at seen (open_for n)) (word ∷ words) ≡ [] → Gives names seen (open_for n) (word ∷ words)
gives_value names seen n word words free goes more q =
    value_more names seen n word words goes (more (sym (turn_parts names (walk_at seen (open_for n)) _ word words [] free goes) ∙ q))

-- where clap finds no fault, the words are options, none given twice, and it holds their values
pub gives : (words : List Word) (names : List Word) (seen : Given) (stand : Stand) → IsKnown names stand → NoDashes words
    → fault_from names (walk_at seen stand) words ≡ [] → Gives names seen stand words
gives [] names seen (behind p) known nd q = gives_end names seen p (settles names seen p known (sym (fault_end names (walk_at seen (behind p))) ∙ q))
gives [] names seen (open_for n) known nd q = absurd (settle_open names seen n known (sym (fault_end names (walk_at seen (open_for n))) ∙ q))
gives (word ∷ words) names seen (behind p) known nd q = long (long_of word) refl (λ now stand k. gives words names now stand k nd.1)
  where
    faulty : Faulty (turn_fault (shape names) [] (walk_at seen (behind p)) word) → Gives names seen (behind p) (word ∷ words)
    faulty h = absurd (h (both_none _ _ (sym (fault_step names (walk_at seen (behind p)) word words) ∙ q)).0)

    short : long_of word ≡ None → (o : Option Word) → short_of word ≡ o → Gives names seen (behind p) (word ∷ words)
    short e None r = faulty (stray_standing names (held_at seen (pend p)) word nd.0 e r)
    short e (Some flags) r = faulty (short_standing names seen (pend p) word flags nd.0 e r)

    named : (name : Word) (v : Option Word) → long_of word ≡ Some (name, v) → (b : Bool) → is_among names name ≡ b
        → ((now : Given) (stand : Stand) → IsKnown names stand → fault_from names (walk_at now stand) words ≡ [] → Gives names now stand words) → Gives names seen (behind p) (word ∷ words)
    named name v e false among more = faulty (unknown_standing names (held_at seen (pend p)) word name v e among)
    named name (Some value) e true among more = gives_joined names seen p word name value words known e among (λ now. more now (behind None) tt) q
    named name None e true among more = gives_apart names seen p word name words known e among (λ now. more now (open_for name) among) q

    long : (o : Option (Word × Option Word)) → long_of word ≡ o
        → ((now : Given) (stand : Stand) → IsKnown names stand → fault_from names (walk_at now stand) words ≡ [] → Gives names now stand words) → Gives names seen (behind p) (word ∷ words)
    long None e more = short e (short_of word) refl
    long (Some (name, v)) e more = named name v e (is_among names name) refl more
gives (word ∷ words) names seen (open_for n) known nd q = long (long_of word) refl (gives words names seen (behind (Some (n, word))) known nd.1)
  where
    faulty : Faulty (turn_fault (shape names) [] (walk_at seen (open_for n)) word) → Gives names seen (open_for n) (word ∷ words)
    faulty h = absurd (h (both_none _ _ (sym (fault_step names (walk_at seen (open_for n)) word words) ∙ q)).0)

    short : long_of word ≡ None → (o : Option Word) → short_of word ≡ o
        → (fault_from names (walk_at seen (behind (Some (n, word)))) words ≡ [] → Gives names seen (behind (Some (n, word))) words) → Gives names seen (open_for n) (word ∷ words)
    short e None r more = let t = value_waiting names n seen word known nd.0 e r in gives_value names seen n word words t.0 t.1 more q
    short e (Some flags) r more = elim (short_waiting names n seen word flags known nd.0 e r) [ inl h ↦ faulty h | inr t ↦ gives_value names seen n word words t.0 t.1 more q ]

    named : (name : Word) (v : Option Word) → long_of word ≡ Some (name, v) → (b : Bool) → is_among names name ≡ b → Gives names seen (open_for n) (word ∷ words)
    named name v e false among = faulty (unknown_waiting names n (held_at seen (Some (n, []))) word name v e among)
    named name v e true among = faulty (known_waiting names n seen word name v known e among)

    long : (o : Option (Word × Option Word)) → long_of word ≡ o
        → (fault_from names (walk_at seen (behind (Some (n, word)))) words ≡ [] → Gives names seen (behind (Some (n, word))) words) → Gives names seen (open_for n) (word ∷ words)
    long None e more = short e (short_of word) refl more
    long (Some (name, v)) e more = named name v e (is_among names name) refl

-- ---- and the other way round

pub and_true : (a b : Bool) → (a && b) ≡ true → (a ≡ true) × (b ≡ true)
and_true true b h = (refl, h)
and_true false b h = cc

pub not_true : (b : Bool) → not b ≡ true → b ≡ false
not_true true h = cc
not_true false h = refl

-- a number is no flag and not `--`
abbrev pub IsPlain : Word → Type 0
IsPlain word = (bytes_eq word dashes ≡ false) × (long_of word ≡ None) × (short_of word ≡ None)

pub same_digits : (ds : List ℕ) → list_all is_ascii_digit ds ≡ all_ascii_digits ds
same_digits [] = refl
same_digits (d ∷ ds) = ap (λ b. is_ascii_digit d && b) (same_digits ds)

pub number_plain : (word : Word) → is_number word ≡ true → IsPlain word
number_plain [] h = cc
number_plain (x ∷ xs) h =
    let digits = (and_true (nat_le (length (x ∷ xs)) 10) (list_all is_ascii_digit (x ∷ xs)) (and_true (nat_le 1 (length (x ∷ xs))) _ h).1).1 in
    let first = (tells_all_ascii_digits.parts x xs (sym (same_digits (x ∷ xs)) ∙ digits)).0 in
    let other : (x == 45) ≡ false = ne_eqb x 45 (omega (arith, first)) in
    (rw other refl, rw other refl, rw other refl)

pub with_given_is : (name value : Word) (o : Option Given) (given : Given) → with_given name value o ≡ Some given → (rest : Given) × (o ≡ Some rest) × (given ≡ (name, value) ∷ rest)
with_given_is name value None given h = cc
with_given_is name value (Some rest) given h = (rest, refl, cc)

abbrev pub AllNumbers : Given → Type 0
AllNumbers given = list_all (λ p. is_number p.1) given ≡ true

free_pending : (names : List Word) (seen : Given) (p : Option (Word × Word)) (given : Given) → IsKnown names (behind p) → is_apart seen (front (behind p) given) ≡ true
    → (settle_fault (rules names) false (held_at seen (pend p)) ≡ []) × (is_apart (after seen p) given ≡ true)
free_pending names seen None given known h = (refl, h)
free_pending names seen (Some p) given known h =
    let parts = and_true (not (is_seen seen p.0)) _ h in
    let new : is_seen seen p.0 ≡ false = not_true _ parts.0 in
    (settle_pending names seen p.0 p.1 known ∙ rw new refl, parts.1)

takes_joined : (names : List Word) (seen : Given) (p : Option (Word × Word)) (word name value : Word) (words : List Word) (given rest : Given) → IsKnown names (behind p)
    → long_of word ≡ Some (name, Some value) → is_among names name ≡ true → given ≡ (name, value) ∷ rest → is_apart seen (front (behind p) given) ≡ true
    → ((now : Given) → is_apart now rest ≡ true → fault_from names (walk_at now (behind None)) words ≡ [])
    → fault_from names (walk_at seen (behind p)) (word ∷ words) ≡ []
takes_joined names seen p word name value words given rest known e among is apart more =
    let h = held_at seen (pend p) in
    let free = free_pending names seen p given known apart in
    let s = settles names seen p known free.0 in
    let parts = and_true (not (is_seen (after seen p) name)) _ (rw is at free.1) in
    let new : is_seen (after seen p) name ≡ false = not_true _ parts.0 in
    let now = after seen p ++ (name, value) ∷ [] in
    let held : reacted (rules names) (option_rule name) (value ∷ []) h ≡ held_at now None = rw s.held (ap (λ r. record { rows = r; pending = None; skip = 0 }) (used_new (after seen p) name value new)) in
    let used_free : use_fault false (option_rule name) (value ∷ []) (rows (after seen p)) ≡ [] = use_fault_is (after seen p) name value ∙ rw new refl in
    let react : react_fault (rules names) false (option_rule name) (value ∷ []) h ≡ [] = rw (free.0, s.held) used_free in
    let t = joined_turn names h word name value e among in
    turn_parts names (standing h) (walk_at now (behind None)) word words [] (t.0 ∙ react) (t.1 ∙ ap standing held) ∙ more now parts.1

takes_apart : (names : List Word) (seen : Given) (p : Option (Word × Word)) (word name : Word) (words : List Word) (given : Given) → IsKnown names (behind p)
    → long_of word ≡ Some (name, None) → is_among names name ≡ true → is_apart seen (front (behind p) given) ≡ true
    → ((now : Given) → is_apart now given ≡ true → fault_from names (walk_at now (open_for name)) words ≡ [])
    → fault_from names (walk_at seen (behind p)) (word ∷ words) ≡ []
takes_apart names seen p word name words given known e among apart more =
    let h = held_at seen (pend p) in
    let free = free_pending names seen p given known apart in
    let s = settles names seen p known free.0 in
    let held = ap (λ r. waiting_for name (record { rows = r; pending = Some (name, []); skip = 0 })) s.held in
    let t = apart_turn names h word name e among in
    turn_parts names (standing h) (walk_at (after seen p) (open_for name)) word words [] (t.0 ∙ free.0) (t.1 ∙ held) ∙ more (after seen p) free.1

-- where the words are options, none given twice and each value a number, clap finds no fault
pub takes : (words : List Word) (names : List Word) (seen : Given) (stand : Stand) (given : Given) → IsKnown names stand
    → given_by names words (waits_for stand) ≡ Some given → AllNumbers given → is_apart seen (front stand given) ≡ true
    → fault_from names (walk_at seen stand) words ≡ []
takes [] names seen (behind p) given known reads numbers apart = fault_end names (walk_at seen (behind p)) ∙ (free_pending names seen p given known apart).0
takes [] names seen (open_for n) given known reads numbers apart = cc
takes (word ∷ words) names seen (behind p) given known reads numbers apart = long (long_of word) refl reads (λ now stand more k r a n. takes words names now stand more k r a n)
  where
    Goal : Type 0
    Goal = fault_from names (walk_at seen (behind p)) (word ∷ words) ≡ []

    More : Type 0
    More = (now : Given) (stand : Stand) (more : Given) → IsKnown names stand → given_by names words (waits_for stand) ≡ Some more → AllNumbers more
        → is_apart now (front stand more) ≡ true → fault_from names (walk_at now stand) words ≡ []

    named : (name : Word) (v : Option Word) → long_of word ≡ Some (name, v) → (b : Bool) → is_among names name ≡ b
        → given_option names (Some (name, v)) (given_by names words None) (λ n. given_by names words (Some n)) ≡ Some given → More → Goal
    named name None e false among r more = let none : ◌≡◌ {A = Option Given} None (Some given) = rw among at r in cc
    named name (Some value) e false among r more = let none : ◌≡◌ {A = Option Given} None (Some given) = rw among at r in cc
    named name None e true among r more =
        takes_apart names seen p word name words given known e among apart (λ now a. more now (open_for name) given among (rw among at r) numbers a)
    named name (Some value) e true among r more =
        let parts = with_given_is name value (given_by names words None) given (rw among at r) in
        let all = and_true (is_number value) _ (rw parts.2 at numbers) in
        takes_joined names seen p word name value words given parts.0 known e among parts.2 apart (λ now a. more now (behind None) parts.0 tt parts.1 all.1 a)

    long : (o : Option (Word × Option Word)) → long_of word ≡ o → given_option names o (given_by names words None) (λ n. given_by names words (Some n)) ≡ Some given → More → Goal
    long None e r more = cc
    long (Some (name, v)) e r more = named name v e (is_among names name) refl r more
takes (word ∷ words) names seen (open_for n) given known reads numbers apart =
    let parts = with_given_is n word (given_by names words None) given reads in
    let all = and_true (is_number word) _ (rw parts.2 at numbers) in
    let plain_word = number_plain word all.0 in
    let t = value_waiting names n seen word known plain_word.0 plain_word.1 plain_word.2 in
    turn_parts names (walk_at seen (open_for n)) (walk_at seen (behind (Some (n, word)))) word words [] t.0 t.1
    ∙ takes words names seen (behind (Some (n, word))) parts.0 known parts.1 all.1 (rw parts.2 at apart)
