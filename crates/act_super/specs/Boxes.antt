-- Standings in a box.
use Rattle.std.specs.Prelude.{◌≡◌, ◌<◌, List, All}
use Rattle.act_grid.specs.declared.Hull.{Hull}
use Rattle.act_grid.specs.Cell.{Address}
use Rattle.act_geom.specs.declared.class.Class.TheVariants.{Mixed}
use Rattle.act_geom.specs.Rings.{vertices_of}
use Rattle.act_cover.specs.Covering.{class_at}
use Rattle.act_super.specs.declared.standing.Standing.{Standing}
use Rattle.act_super.specs.Frames.{IsFrame}

-- the vertices of each lie in the box
abbrev pub AreFramed : Hull → List Standing → Type 0
AreFramed frame standings = All (λ (s : Standing). IsFrame frame s.shape) standings

-- and each has a vertex
abbrev pub AreBoxed : Hull → List Standing → Type 0
AreBoxed frame standings = All (λ (s : Standing). IsFrame frame s.shape × (0 < vertices_of s.shape)) standings

-- each is Mixed on the cell
abbrev pub AreMixed : Address → List Standing → Type 0
AreMixed c standings = All (λ (s : Standing). class_at s.shape c ≡ Mixed) standings
