-- Retired rows, each with the version that it waits for.
use Rattle.std.specs.Prelude.{ℕ, ◌≤◌, List, [], ◌∷◌, cond}
use lib.Dec.{leb}

-- the rows alone
abbrev pub rows_of : List (ℕ × ℕ) → List ℕ
rows_of [] = []
rows_of (x ∷ xs) = x.0 ∷ rows_of xs

-- the versions alone
abbrev pub versions_of : List (ℕ × ℕ) → List ℕ
versions_of [] = []
versions_of (x ∷ xs) = x.1 ∷ versions_of xs

-- what holds of each row with its version
abbrev pub Each : (ℕ → ℕ → Type 0) → List (ℕ × ℕ) → Type 0
Each P [] = Unit {0}
Each P (x ∷ xs) = P x.0 x.1 × Each P xs

-- no row stands before one that waits for an earlier version
abbrev pub IsInOrder : List (ℕ × ℕ) → Type 0
IsInOrder [] = Unit {0}
IsInOrder (x ∷ xs) = Each (λ _ w. x.1 ≤ w) xs × IsInOrder xs

-- the row that waits for version w stands behind those whose version isn't above w
abbrev pub placed : ℕ → ℕ → List (ℕ × ℕ) → List (ℕ × ℕ)
placed r w [] = (r, w) ∷ []
placed r w (x ∷ xs) = cond (leb x.1 w) (x ∷ placed r w xs) ((r, w) ∷ x ∷ xs)

-- those that wait for a version above the bound
abbrev pub later : ℕ → List (ℕ × ℕ) → List (ℕ × ℕ)
later b [] = []
later b (x ∷ xs) = cond (leb x.1 b) (later b xs) (x ∷ later b xs)

-- the rows of the others
abbrev pub freed : ℕ → List (ℕ × ℕ) → List ℕ
freed b [] = []
freed b (x ∷ xs) = cond (leb x.1 b) (x.0 ∷ freed b xs) (freed b xs)
