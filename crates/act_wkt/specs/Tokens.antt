-- Blanks, words and numbers of a text.
use Rattle.std.specs.Prelude.{ℕ, suc, ◌==◌, ◌||◌, Bool, List, [], ◌∷◌, drop, if◌then◌else◌, length, slice_index, take}
use Rattle.std.specs.Char.{is_ascii_alphabetic, is_ascii_digit}
use Rattle.std.specs.Str.{str_eq_ignore_ascii_case}
use Rattle.act_wkt.specs.declared.fault.Miss.{Miss}
use Rattle.act_wkt.specs.declared.fault.WktKind.{WktKind}
use Rattle.act_wkt.specs.declared.token.Class.{Class}
use Rattle.act_wkt.specs.declared.token.Class.TheVariants as class

-- the bytes of a class: space, tab, LF and CR; letters; what numbers are made of
abbrev pub is_in : Class → ℕ → Bool
is_in class.Blank b = b == 32 || b == 9 || b == 10 || b == 13
is_in class.Letter b = is_ascii_alphabetic b
is_in class.Number b = is_ascii_digit b || b == 43 || b == 45 || b == 46 || b == 101 || b == 69

-- how many bytes of the class stand first
abbrev pub run_of : Class → List ℕ → ℕ
run_of class [] = 0
run_of class (b ∷ text) = if is_in class b then suc (run_of class text) else 0

-- the bytes of the class that stand first, and the text behind them
abbrev pub front_of : Class → List ℕ → List ℕ
front_of class text = take (run_of class text) text

abbrev pub behind : Class → List ℕ → List ℕ
behind class text = drop (run_of class text) text

-- the text from its next token on
unfoldable pub skip : List ℕ → List ℕ
skip text = behind class.Blank text

-- this byte stands first
abbrev pub begins : List ℕ → ℕ → Bool
begins text byte = slice_index text 0 == byte

-- the word is this one, in whichever case its letters are
abbrev pub is_word : List ℕ → List ℕ → Bool
is_word = str_eq_ignore_ascii_case

-- the fault at the front of this rest of the text
abbrev pub miss : WktKind → List ℕ → Miss
miss kind rest = record { kind = kind; left = length rest }
