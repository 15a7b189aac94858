-- The lines of a script.
use Rattle.std.specs.Prelude.{◌==◌, ◌&&◌, ◌+◌, ◌-◌, ℕ, Bool, List, [], ◌∷◌, Option, Some, None, if◌then◌else◌, nat_lt, length, take, slice_index}
use Rattle.act_script.specs.declared.cutter.CutFault.{CutFault}
use Rattle.act_script.specs.declared.cutter.CutFault.TheVariants as fault
use Rattle.act_script.specs.declared.cutter.TheConstants.{MOST_BYTES, MOST_LINES}

abbrev pub Line : Type 0
Line = List ℕ

-- the three bytes of a byte order mark
abbrev pub is_mark : ℕ → ℕ → ℕ → Bool
is_mark a b c = (a == 0xEF) && (b == 0xBB) && (c == 0xBF)

-- the bytes of a script after the byte order mark at its start, where there is one
abbrev pub without_mark : List ℕ → List ℕ
without_mark [] = []
without_mark (a ∷ []) = a ∷ []
without_mark (a ∷ b ∷ []) = a ∷ b ∷ []
without_mark (a ∷ b ∷ c ∷ rest) = if is_mark a b c then rest else a ∷ b ∷ c ∷ rest

abbrev pub onto_first : ℕ → List Line → List Line
onto_first b [] = (b ∷ []) ∷ []
onto_first b (line ∷ lines) = (b ∷ line) ∷ lines

-- the bytes up to each line feed, and those left at the end where there are any
abbrev pub lines_of : List ℕ → List Line
lines_of [] = []
lines_of (b ∷ bytes) = if b == 10 then [] ∷ lines_of bytes else onto_first b (lines_of bytes)

-- a line without the carriage return at its end
abbrev pub without_return : Line → Line
without_return line = if slice_index line (length line - 1) == 13 then take (length line - 1) line else line

-- the lines of a script up to the first that may not stand, and why that one may not
pub record Cut : Type 0 where
  pub lines : List Line
  pub fault : Option CutFault

-- no line stands
abbrev pub refused : CutFault → Cut
refused why = record { lines = []; fault = Some why }

-- one more line before the others
abbrev pub line_onto : Line → Cut → Cut
line_onto line cut = record { lines = line ∷ cut.lines; fault = cut.fault }

-- what stands of these lines where n lines came before: a line may not stand where it is one line too many, or
-- where it has too many bytes, its carriage return with them
abbrev pub cut_from : ℕ → List Line → Cut
cut_from n [] = record { lines = []; fault = None }
cut_from n (line ∷ lines) =
    if n == MOST_LINES then refused fault.Lines
    else if nat_lt MOST_BYTES (length line) then refused fault.LineLong
    else line_onto (without_return line) (cut_from (n + 1) lines)

-- the lines of a script
abbrev pub script_lines : List ℕ → Cut
script_lines script = cut_from 0 (lines_of (without_mark script))
