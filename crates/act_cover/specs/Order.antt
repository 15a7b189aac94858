-- Numbers in ascending order.
use Rattle.std.specs.Prelude.{ℕ, ◌+◌, ◌≤◌, List, [], ◌∷◌}

-- each number is below those after it, and none is below `low`
abbrev pub AscendsFrom : ℕ → List ℕ → Type 0
AscendsFrom low [] = Unit {0}
AscendsFrom low (x ∷ xs) = (low ≤ x) × AscendsFrom (x + 1) xs

-- each number is below those after it
abbrev pub IsAscending : List ℕ → Type 0
IsAscending xs = AscendsFrom 0 xs
