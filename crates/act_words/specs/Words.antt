-- Which words of a command line fit, and what they say.
use Rattle.std.specs.Prelude.{◌&&◌, ◌≤◌, ℕ, Bool, true, false, not, List, [], ◌∷◌, ◌++◌, Option, Some, None, option_map, option_and_then, if◌then◌else◌, codes, find, length, nat_le}
use Rattle.std.specs.List.{list_all, list_any}
use Rattle.std.specs.Option.{option_map_or}
use Rattle.std.specs.Char.{is_ascii_digit}
use Rattle.std.specs.Str.{bytes_eq}
use Rattle.std.specs.Str.Parse.{digits_value}
use Rattle.clap.specs.Lexer.{long_of}
use Rattle.act_grid.specs.declared.settings.Settings.{Settings}
use Rattle.act_words.specs.declared.kind.WordKind.{WordKind}
use Rattle.act_words.specs.declared.words.Asked.{Asked}
use Rattle.act_words.specs.declared.words.Asked.TheVariants as asked
use Rattle.act_words.specs.declared.kind.WordKind.TheVariants as kind

abbrev pub Word : Type 0
Word = List ℕ

-- options, each with its name and its value, as they were given
abbrev pub Given : Type 0
Given = List (Word × Word)

abbrev pub is_among : List Word → Word → Bool
is_among names name = list_any (λ n. bytes_eq n name) names

abbrev pub with_given : Word → Word → Option Given → Option Given
with_given name value rest = option_map (λ given. (name, value) ∷ given) rest

-- a word of the form `--name` or `--name=value`, with what the words after it give, alone and as a value of the name
abbrev pub given_option : List Word → Option (Word × Option Word) → Option Given → (Word → Option Given) → Option Given
given_option names None rest value = None
given_option names (Some (name, None)) rest value = if is_among names name then value name else None
given_option names (Some (name, Some attached)) rest value = if is_among names name then with_given name attached rest else None

-- The options that the words give, in order, where they are two words `--name value` or one word `--name=value` each, and
-- nothing else. The name of an option waits for its value.
abbrev pub given_by : List Word → List Word → Option Word → Option Given
given_by names [] None = Some []
given_by names [] (Some name) = None
given_by names (word ∷ words) None = given_option names (long_of word) (given_by names words None) (λ name. given_by names words (Some name))
given_by names (word ∷ words) (Some name) = with_given name word (given_by names words None)

-- no option is given twice
abbrev pub is_seen : Given → Word → Bool
is_seen seen name = list_any (λ p. bytes_eq p.0 name) seen

abbrev pub is_apart : Given → Given → Bool
is_apart seen [] = true
is_apart seen (p ∷ given) = not (is_seen seen p.0) && is_apart (seen ++ p ∷ []) given

-- a value is one to ten decimal digits
abbrev pub is_number : Word → Bool
is_number value = nat_le 1 (length value) && (nat_le (length value) 10 && list_all is_ascii_digit value)

-- the value of an option, where it is given
abbrev pub value_of : Word → Given → Option Word
value_of name given = option_map (λ p. p.1) (find (λ p. bytes_eq p.0 name) given)

-- the number that a value says, where it is one from `least` to `most`
abbrev pub number_in : ℕ → ℕ → Word → Option ℕ
number_in least most value =
    if is_number value && (nat_le least (digits_value 10 value) && nat_le (digits_value 10 value) most) then Some (digits_value 10 value) else None

-- what an option is set to: the number of its value, or what stands for it where it isn't given
abbrev pub set_to : ℕ → ℕ → ℕ → Option Word → Option ℕ
set_to otherwise least most value = option_map_or (number_in least most) value (Some otherwise)

-- what the words ask for
pub record Wanted : Type 0 where
  pub digits : ℕ
  pub rows : ℕ
  pub cells : ℕ
  pub workers : ℕ

abbrev pub wanted_of : Settings → Wanted
wanted_of s = record { digits = s.digits; rows = s.rows; cells = s.cells; workers = s.workers }

-- by the values of the options
abbrev pub wanted_by : Option Word → Option Word → Option Word → Option Word → Option Wanted
wanted_by digits rows cells workers =
    option_and_then (λ d. option_and_then (λ r. option_and_then (λ c. option_map (λ w. record { digits = d; rows = r; cells = c; workers = w })
    (set_to 4 1 64 workers)) (set_to 64 1 1024 cells)) (set_to 16384 1 262144 rows)) (set_to 7 0 9 digits)

abbrev pub wanted_given : Given → Option Wanted
wanted_given given =
    wanted_by (value_of (codes "digits") given) (value_of (codes "rows") given) (value_of (codes "cells") given) (value_of (codes "workers") given)

abbrev pub option_names : List Word
option_names = codes "digits" ∷ codes "rows" ∷ codes "cells" ∷ codes "workers" ∷ []

-- options that fit: none is given twice, and each is set to a number within its limits
abbrev pub fits_given : Given → Option Wanted
fits_given given = if is_apart [] given then wanted_given given else None

-- what the words after the command ask for, where they fit
abbrev pub fits_options : List Word → Option Wanted
fits_options words = option_and_then fits_given (given_by option_names words None)

-- ---- the demo

-- a word that stands where an option may begin: one that begins none, `--name`, or `--name=value`
abbrev pub kind_of_long : Option (Word × Option Word) → WordKind
kind_of_long None = kind.Plain
kind_of_long (Some (name, None)) = kind.Name
kind_of_long (Some (name, Some attached)) = kind.Whole

abbrev pub kind_of : Word → WordKind
kind_of word = kind_of_long (long_of word)

-- one of three, by the kind
abbrev pub with_kind : {X : Type 0} → WordKind → X → X → X → X
with_kind kind.Plain plain name whole = plain
with_kind kind.Name plain name whole = name
with_kind kind.Whole plain name whole = whole

-- the words that belong to options, where the first one may be the value of an option that waits
abbrev pub option_words : Bool → List Word → List Word
option_words waits [] = []
option_words true (word ∷ words) = word ∷ option_words false words
option_words false (word ∷ words) = with_kind (kind_of word) (option_words false words) (word ∷ option_words true words) (word ∷ option_words false words)

-- the others
abbrev pub plain_words : Bool → List Word → List Word
plain_words waits [] = []
plain_words true (word ∷ words) = plain_words false words
plain_words false (word ∷ words) = with_kind (kind_of word) (word ∷ plain_words false words) (plain_words true words) (plain_words false words)

-- what a command line asks for
pub data Asks : Type 0 where
  Joins : Wanted → Asks
  Shows : ℕ → Wanted → Asks

-- the number that the only one of these words says
abbrev pub only_number : List Word → Option ℕ
only_number [] = None
only_number (word ∷ []) = number_in 1 16 word
only_number (word ∷ other ∷ words) = None

-- options of the demo: those of `join` but the digits
abbrev pub fits_demo_given : Given → Option Wanted
fits_demo_given given = option_map_or (λ digits. None) (value_of (codes "digits") given) (fits_given given)

abbrev pub fits_demo_options : List Word → Option Wanted
fits_demo_options words = option_and_then fits_demo_given (given_by option_names words None)

-- what the words after `demo` ask for, where they fit: one is a number from 1 to 16, and the others are options
abbrev pub fits_demo : List Word → Option Asks
fits_demo words = option_and_then (λ n. option_map (Shows n) (fits_demo_options (option_words false words))) (only_number (plain_words false words))

abbrev pub asks_of : Asked → Asks
asks_of (asked.Join s) = Joins (wanted_of s)
asks_of (asked.Demo n s) = Shows n (wanted_of s)

-- the number of a demo is from 1 to 16
abbrev pub HasSides : Asked → Type 0
HasSides (asked.Join s) = Unit {0}
HasSides (asked.Demo n s) = (1 ≤ n) × (n ≤ 16)

-- what the words of a command line ask for, where they fit
abbrev pub fits : List Word → Option Asks
fits [] = None
fits (command ∷ words) =
    if bytes_eq command (codes "join") then option_map Joins (fits_options words) else if bytes_eq command (codes "demo") then fits_demo words else None
