-- Rings that lie one after another in one list of vertices.
use Rattle.std.specs.Prelude.{◌≡◌, ℕ, zero, suc, ◌+◌, ◌≤◌, List, [], ◌∷◌, length}
use Rattle.std.specs.List.{slice_range}
use Rattle.act_grid.specs.declared.Point.{Point}
use Rattle.act_geom.specs.declared.shape.TheConstants.{MOST_VERTICES}

-- the rings that end at these places, the first of which begins at `start`
abbrev pub rings_between : ℕ → List ℕ → List Point → List (List Point)
rings_between start [] points = []
rings_between start (end ∷ ends) points = slice_range points start end ∷ rings_between end ends points

-- where the k-th of these rings begins
abbrev pub begin_of : ℕ → List ℕ → ℕ → ℕ
begin_of start ends zero = start
begin_of start [] (suc k) = 0
begin_of start (end ∷ ends) (suc k) = begin_of end ends k

-- each ring has at least three vertices, and the last one ends where the vertices end
abbrev pub EndsFit : ℕ → List ℕ → ℕ → Type 0
EndsFit start [] total = start ≡ total
EndsFit start (end ∷ ends) total = (start + 3 ≤ end) × EndsFit end ends total

-- the two lists belong to a shape
pub record IsLaid (ends : List ℕ) (points : List Point) : Type 0 where
  pub fits : EndsFit 0 ends (length points)
  pub few : length points ≤ MOST_VERTICES
