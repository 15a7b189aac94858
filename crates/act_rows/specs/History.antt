-- The one history: a list of entries, each a list of numbers.
use Rattle.std.specs.Prelude.{◌≡◌, ℕ, ◌≤◌, List, length, take}
use lib.Dec.{ltb}
use mathlib.Core.Bool.{cond}

abbrev pub History : Type 0
History = List (List ℕ)

-- xs is a beginning of ys
pub record Begins (xs ys : History) : Type 0 where
  pub short : length xs ≤ length ys
  pub same : xs ≡ take (length xs) ys

-- the longer of two histories, the first where they are as long
abbrev pub longer : History → History → History
longer xs ys = cond (ltb (length xs) (length ys)) ys xs
