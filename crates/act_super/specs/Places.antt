-- Places among keys in ascending order.
use Rattle.std.specs.Prelude.{◌≡◌, ◌<◌, ◌≤◌, ◌+◌, ℕ, List, [], ◌∷◌, length, slice_index, MatchResult, Result}
use Rattle.act_grid.specs.declared.Point.{Point}
use Rattle.act_super.specs.declared.entry.Zone.{Zone}

-- each key is below those after it, and none is below this number
abbrev pub IsRisingFrom : ℕ → List ℕ → Type 0
IsRisingFrom low [] = Unit {0}
IsRisingFrom low (key ∷ keys) = (low ≤ key) × IsRisingFrom (key + 1) keys

abbrev pub IsRising : List ℕ → Type 0
IsRising keys = IsRisingFrom 0 keys

-- the place of a key, or else the place before which all keys are below it, and from which all are above
abbrev pub IsPlaceOf : ℕ → List ℕ → Result ℕ ℕ → Type 0
IsPlaceOf key keys place =
    MatchResult place (λ i. (i < length keys) × (slice_index keys i ≡ key))
    (λ i. (i ≤ length keys) × ((k : ℕ) → k < i → slice_index keys k < key) × ((k : ℕ) → i ≤ k → k < length keys → key < slice_index keys k))

-- the zones with these keys and shapes
abbrev pub zones_with : List ℕ → List (List (List Point)) → List Zone
zones_with [] shapes = []
zones_with (key ∷ keys) [] = []
zones_with (key ∷ keys) (shape ∷ shapes) = record { key = key; shape = shape } ∷ zones_with keys shapes
