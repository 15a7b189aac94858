-- What is said of a line, and what a reader answers about it.
use Rattle.std.specs.Prelude.{◌≡◌, Option, Some, None, Result, Ok, Err}
use Rattle.act_script.specs.declared.fault.LineFault.{LineFault}
use Rattle.act_script.specs.declared.fault.LineFault.TheVariants as fault

-- a value, or the first fault of a line
abbrev pub Said : Type 0 → Type 0
Said X = Result X LineFault

-- the next step, where there is no fault yet
infixl 10 ◌>>=◌
abbrev pub ◌>>=◌ : {A B : Type 0} → Said A → (A → Said B) → Said B
(Ok x) >>= f = f x
(Err why) >>= f = Err why

-- the value that is asked for, or else this fault
abbrev pub required : {X : Type 0} → LineFault → Option X → Said X
required why None = Err why
required why (Some x) = Ok x

-- a fault that is answered is the one that the line has, or memory ran out
abbrev pub IsFaultOf : {X : Type 0} → LineFault → Said X → Type 0
IsFaultOf fault.NoMemory said = Unit {0}
IsFaultOf why said = said ≡ Err why

-- what a reader answers is what the line says, or memory ran out
abbrev pub IsAnswer : {X : Type 0} → Said X → Said X → Type 0
IsAnswer (Ok x) said = said ≡ Ok x
IsAnswer (Err why) said = IsFaultOf why said
