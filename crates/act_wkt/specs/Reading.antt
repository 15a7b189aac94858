-- What is found in a text, and what a reader answers about it.
use Rattle.std.specs.Prelude.{◌≡◌, ◌++◌, ℕ, List, Result, Ok, Err}
use Rattle.act_grid.specs.declared.Point.{Point}
use Rattle.act_wkt.specs.declared.fault.Miss.{Miss}
use Rattle.act_wkt.specs.declared.fault.Stop.{Stop}
use Rattle.act_wkt.specs.declared.fault.Stop.TheVariants as stop
use Rattle.act_wkt.specs.declared.fault.WktKind.{WktKind}
use Rattle.act_wkt.specs.declared.fault.WktFault.{WktFault}
use Rattle.act_wkt.specs.declared.fault.WktFault.TheVariants as fault

abbrev pub Rings : Type 0
Rings = List (List Point)

-- rings, how many points may still come in the text, and the text behind
pub record Found : Type 0 where
  pub rings : Rings
  pub room : ℕ
  pub rest : List ℕ

-- the next step, where there is no fault yet
infixl 10 ◌>>=◌
abbrev pub ◌>>=◌ : {F A B : Type 0} → Result A F → (A → Result B F) → Result B F
(Ok x) >>= f = f x
(Err e) >>= f = Err e

-- these rings, and then those that were found
abbrev pub with_front : Rings → Result Found Miss → Result Found Miss
with_front front read = read >>= λ found. Ok (record { rings = front ++ found.rings; room = found.room; rest = found.rest })

-- what stopped a reader is the fault that the text has, or want of memory
abbrev pub Stops : {Y : Type 0} → Stop → Result Y Miss → Type 0
Stops stop.NoMemory said = Unit {0}
Stops (stop.At miss) said = said ≡ Err miss

-- what a reader answers, seen by view, is what the text says
abbrev pub Gives : {X Y : Type 0} → (X → Y) → Result X Stop → Result Y Miss → Type 0
Gives view (Ok x) said = said ≡ Ok (view x)
Gives view (Err e) said = Stops e said

-- a fault of a text: its kind, and the place of the byte where it lies
pub record Fault : Type 0 where
  pub kind : WktKind
  pub place : ℕ

-- the answer about a text is its rings or its fault, or memory ran out
abbrev pub Answers : Result Rings WktFault → Result Rings Fault → Type 0
Answers (Ok rings) said = said ≡ Ok rings
Answers (Err (fault.At kind place)) said = said ≡ Err (record { kind = kind; place = place })
Answers (Err fault.NoMemory) said = Unit {0}
