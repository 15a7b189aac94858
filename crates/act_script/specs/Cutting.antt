-- Cutting a script into lines while its bytes come in pieces.
use Rattle.std.specs.Prelude.{◌≡◌, ◌≢◌, ◌≤◌, ◌<◌, ◌==◌, ◌+◌, ◌-◌, ◌*◌, ◌++◌, ℕ, Bool, true, false, List, [], ◌∷◌, Option, None, if◌then◌else◌, length, take, drop, MatchBool}
use Rattle.std.specs.Option.{option_map_or}
use Rattle.std.specs.List.{AllByRecursion}
use Rattle.act_script.specs.Lines.{Line, Cut, cut_from, line_onto, lines_of, refused, without_mark}
use Rattle.act_script.specs.declared.cutter.CutFault.{CutFault}
use Rattle.act_script.specs.declared.cutter.CutFault.TheVariants as fault
use Rattle.act_script.specs.declared.cutter.Taken.{Taken}
use Rattle.act_script.specs.declared.cutter.TheConstants.{MOST_BYTES, MOST_LINES}

-- where a cutter stands: how many lines ended, the bytes of the line at hand, the line that the last call ended, and
-- the fault that was answered
pub record Cutting : Type 0 where
  pub number : ℕ
  pub held : List ℕ
  pub line : Line
  pub fault : Option CutFault

-- the bytes of a line with this many before it; only the first line may have a mark
abbrev pub unmarked : ℕ → List ℕ → List ℕ
unmarked n bytes = if n == 0 then without_mark bytes else bytes

-- the lines from the one at hand on, where these bytes are still to come
abbrev pub to_come : Cutting → List ℕ → Cut
to_come cutting rest = option_map_or refused cutting.fault (cut_from cutting.number (lines_of (unmarked cutting.number (cutting.held ++ rest))))

-- no byte is a line feed
abbrev pub IsOpen : List ℕ → Type 0
IsOpen = AllByRecursion (λ b. b ≢ 10)

-- the bytes before the first line feed, or all where there is none, are so many
pub record IsLineLen (piece : List ℕ) (size : ℕ) : Type 0 where
  pub within : size ≤ length piece
  pub open_front : IsOpen (take size piece)
  pub feed : size < length piece → piece ≡ take size piece ++ 10 ∷ drop (size + 1) piece

-- the line at hand has no line feed and not too many bytes
pub record IsInLimits (cutting : Cutting) : Type 0 where
  pub number : cutting.number ≤ MOST_LINES
  pub last : cutting.number ≡ MOST_LINES → cutting.held ≡ []
  pub open_line : IsOpen cutting.held
  pub short : length (unmarked cutting.number cutting.held) ≤ MOST_BYTES

-- how many bytes may still come before a fault
abbrev pub turns : Cutting → ℕ
turns cutting = (MOST_LINES - cutting.number) * (MOST_BYTES + 4) + (MOST_BYTES + 3 - length cutting.held)

-- bytes whose last one is a line feed
abbrev pub EndsInFeed : List ℕ → Type 0
EndsInFeed bytes = (front : List ℕ) × (bytes ≡ front ++ 10 ∷ [])

-- a piece was taken up to the end of a line, or whole
abbrev pub TakesPart : Cutting → List ℕ → Taken → Cutting → Type 0
TakesPart old piece taken new = MatchBool taken.line
    ((new.number ≡ old.number + 1) × (0 < taken.used) × (taken.used ≤ length piece) × EndsInFeed (take taken.used piece) × (new.held ≡ [])
    × ((rest : List ℕ) → to_come old (take taken.used piece ++ rest) ≡ line_onto new.line (to_come new rest)))
    ((taken.used ≡ length piece) × (new ≡ record old { held = old.held ++ piece }))

-- a fault is that of the line at hand, whatever comes after the piece
abbrev pub IsCause : Cutting → List ℕ → CutFault → Type 0
IsCause old piece fault.LineLong = (rest : List ℕ) → to_come old (piece ++ rest) ≡ refused fault.LineLong
IsCause old piece fault.Lines = (rest : List ℕ) → to_come old (piece ++ rest) ≡ refused fault.Lines
IsCause old piece fault.NoMemory = Unit {0}

-- at the end of the input a line is left, which is then the last, or none is
abbrev pub TakesEnd : Cutting → Bool → Cutting → Type 0
TakesEnd old true new = (new.number ≡ old.number + 1) × (to_come old [] ≡ record { lines = new.line ∷ []; fault = None })
TakesEnd old false new = (new ≡ old) × (to_come old [] ≡ record { lines = []; fault = None })
