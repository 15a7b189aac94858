-- The text that is written for rings.
use Rattle.std.specs.Prelude.{ℕ, ℤ, zero, suc, pos, ◌+◌, ◌/◌, ◌%◌, ◌^◌, ◌++◌, List, [], ◌∷◌, codes, decimal, flat_map, if◌then◌else◌, int_lt, length, negsuc, unsigned_abs, ◌≤◌, ◌≤ℤ◌}
use Rattle.std.specs.List.{AllByRecursion}
use Rattle.act_grid.specs.declared.Point.{Point}
use Rattle.act_wkt.specs.Reading.{Rings}

-- the last k decimal digits of a number
abbrev pub last_digits : ℕ → ℕ → List ℕ
last_digits zero n = []
last_digits (suc k) n = (48 + n / 10 ^ k % 10) ∷ last_digits k n

-- a point and this many decimals, or nothing where there are none
abbrev pub decimals_of : ℕ → ℕ → List ℕ
decimals_of zero n = []
decimals_of (suc k) n = 46 ∷ last_digits (suc k) n

-- a number of units: `-` where it is below 0, the whole part, and exactly `digits` decimals
unfoldable pub number_text : ℕ → ℤ → List ℕ
number_text digits z =
    (if int_lt z (pos 0) then codes "-" else []) ++ (decimal (unsigned_abs z / 10 ^ digits) ++ decimals_of digits (unsigned_abs z))

unfoldable pub point_text : ℕ → Point → List ℕ
point_text digits point = number_text digits point.x ++ (32 ∷ number_text digits point.y)

-- each point of a ring with a `,` behind it, and then its first one again, in parentheses
unfoldable pub ring_text : ℕ → List Point → List ℕ
ring_text digits [] = codes "()"
ring_text digits (first ∷ more) = 40 ∷ (flat_map (λ point. point_text digits point ++ (44 ∷ [])) (first ∷ more) ++ (point_text digits first ++ codes ")"))

-- the text of rings
unfoldable pub spelling : ℕ → Rings → List ℕ
spelling digits [] = codes "POLYGON EMPTY"
spelling digits (ring ∷ rings) = codes "POLYGON(" ++ (ring_text digits ring ++ (flat_map (λ other. 44 ∷ ring_text digits other) rings ++ codes ")"))

-- a number that a coordinate has room for
pub record IsCoordinate (z : ℤ) : Type 0 where
  pub low : negsuc 2147483647 ≤ℤ z
  pub high : z ≤ℤ pos 2147483647

pub record IsGridPoint (point : Point) : Type 0 where
  pub x : IsCoordinate point.x
  pub y : IsCoordinate point.y

-- rings of three vertices or more, on the grid
abbrev pub AreRings : Rings → Type 0
AreRings = AllByRecursion (λ ring. (3 ≤ length ring) × AllByRecursion IsGridPoint ring)
