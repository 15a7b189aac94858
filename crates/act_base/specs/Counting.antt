-- How often a list has a number, and sums over a range of numbers.
use Rattle.std.specs.Prelude.{ℕ, zero, suc, ◌+◌, List, [], ◌∷◌, eqb, cond}

-- how often the list has the number
abbrev pub times : List ℕ → ℕ → ℕ
times [] r = 0
times (x ∷ xs) r = cond (eqb x r) 1 0 + times xs r

-- the sum of f over the k numbers from b on
abbrev pub span : (ℕ → ℕ) → ℕ → ℕ → ℕ
span f b zero = 0
span f b (suc k) = span f b k + f (b + k)

-- the k numbers from b on
abbrev pub from : ℕ → ℕ → List ℕ
from b zero = []
from b (suc k) = b ∷ from (b + 1) k
