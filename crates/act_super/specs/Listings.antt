-- Standings with the keys of their zones, read in place.
use Rattle.std.specs.Prelude.{ℕ, List, [], ◌∷◌, ◌++◌, Option, Some, None, All, map, filter, take, drop}
use Rattle.std.specs.Borrow.{Bor}
use Rattle.act_grid.specs.declared.Hull.{Hull}
use Rattle.act_grid.specs.Cell.{Address}
use Rattle.act_cover.specs.Covering.{class_at, is_on, is_within}
use Rattle.act_super.specs.declared.listed.Listed.{Listed}
use Rattle.act_super.specs.declared.refs.ZoneRef.{ZoneRef}
use Rattle.act_super.specs.declared.standing.Standing.{Standing}
use Rattle.act_super.specs.Frames.{IsFrame}
use Rattle.act_super.specs.Grounds.{Ground, is_among}

abbrev pub keys_in : List Listed → List ℕ
keys_in zones = map (λ (z : Listed). z.key) zones

abbrev pub standings_in : List Listed → List Standing
standings_in zones = map (λ (z : Listed). z.zone.now) zones

-- the key beside a reference, where there is one
abbrev pub lone_key : ℕ → Option (Bor Standing) → List ℕ
lone_key key None = []
lone_key key (Some r) = key ∷ []

-- the keys before a place, perhaps one more, and those from a place on
abbrev pub spliced_keys : List ℕ → ℕ → ℕ → Option (Bor Standing) → ℕ → List ℕ
spliced_keys keys from key new to = take from keys ++ lone_key key new ++ drop to keys

-- how these zones lie on the grid, with these trained cells
abbrev pub listed_ground : List Address → Ground Listed
listed_ground trained = record { class = λ z c. class_at z.zone.now.shape c; level = λ z. z.zone.now.level; trained = is_among trained }

-- the references of a cell to these zones
abbrev pub refs_here : List Listed → Address → List ZoneRef
refs_here zones c =
    map (λ (z : Listed). record { key = z.key; hit = is_within (class_at z.zone.now.shape c) }) (filter (λ (z : Listed). is_on (class_at z.zone.now.shape c)) zones)

-- the vertices of each zone lie in the box
abbrev pub AreFramed : Hull → List Listed → Type 0
AreFramed frame zones = All (λ (z : Listed). IsFrame frame z.zone.now.shape) zones
