-- The join of points with zones.
use Rattle.std.specs.Prelude.{ℕ, ◌+◌, ◌++◌, ◌&&◌, List, [], ◌∷◌, map, filter}
use Rattle.act_grid.specs.declared.Point.{Point}
use Rattle.act_grid.specs.declared.Layers.{Layers}
use Rattle.act_grid.specs.Layers.{has_layer, layer_of}
use Rattle.act_geom.specs.Inside.{is_inside}
use Rattle.act_super.specs.declared.entry.Zone.{Zone}

-- a point by its place in a batch, and the key of a zone that it is inside
pub record Hit : Type 0 where
  pub point : ℕ
  pub key : ℕ

-- the zones of the layers that a point is inside
abbrev pub zones_at : Layers → List Zone → Point → List Zone
zones_at layers zones p = filter (λ zone. has_layer layers (layer_of zone.key) && is_inside zone.shape p) zones

-- the pairs of the points from a place on
abbrev pub join_from : ℕ → Layers → List Zone → List Point → List Hit
join_from place layers zones [] = []
join_from place layers zones (p ∷ points) =
    map (λ zone. record { point = place; key = zone.key }) (zones_at layers zones p) ++ join_from (place + 1) layers zones points

-- the pairs of each point in order with each zone of the layers that it is inside, in the order of the zones
abbrev pub join : Layers → List Zone → List Point → List Hit
join layers zones points = join_from 0 layers zones points
