-- Bounds: for each reader that is lent, a version such that it holds none below it.
use Rattle.std.specs.Prelude.{◌≡◌, ℕ, zero, suc, ◌≤◌, min, max, List, [], ◌∷◌, Option, Some, None}
use lib.ListN.{get_elem?}
use mathlib.Core.Option.{some}

-- the least of n and the bounds of the readers that are lent
abbrev pub least : ℕ → List (Option ℕ) → ℕ
least n [] = n
least n (None ∷ bs) = least n bs
least n (Some c ∷ bs) = min c (least n bs)

-- the bound c after a look found this pin word at version n: a reader whose pin is 0 holds nothing
abbrev pub raised : ℕ → ℕ → ℕ → ℕ
raised n zero c = n
raised n (suc p) c = max c p

-- the bound of reader j, or 0
abbrev pub bound_at : List (Option ℕ) → ℕ → ℕ
bound_at [] j = 0
bound_at (None ∷ bs) zero = 0
bound_at (Some c ∷ bs) zero = c
bound_at (b ∷ bs) (suc j) = bound_at bs j

-- the lowest reader that is not lent, or the number of readers
abbrev pub lowest : List (Option ℕ) → ℕ
lowest [] = 0
lowest (None ∷ bs) = 0
lowest (Some c ∷ bs) = suc (lowest bs)

-- each reader that was lent is lent still, with a bound no lower
abbrev pub BoundsRise : List (Option ℕ) → List (Option ℕ) → Type 0
BoundsRise bs bs' = (j c : ℕ) → get_elem? bs j ≡ some (Some c) → (c' : ℕ) × (get_elem? bs' j ≡ some (Some c')) × (c ≤ c')
