-- The nodes of a new state that don't stay, and cells on which a change has no effect.
use Rattle.std.specs.Prelude.{◌≡◌, ℕ, ◌<◌, ◌&&◌, Bool, not, List, [], filter, length}
use Rattle.std.specs.List.{All, list_all}
use Rattle.act_grid.specs.declared.Settings.{Settings}
use Rattle.act_grid.specs.Hull.{IsIn}
use Rattle.act_grid.specs.Cell.{Address, IsCell, hull_of}
use Rattle.act_cover.specs.Covering.{class_at, is_on}
use Rattle.act_super.specs.declared.entry.Entry.{Entry}
use Rattle.act_super.specs.declared.entry.State.{State}
use Rattle.act_super.specs.declared.entry.Zone.{Zone}
use Rattle.act_super.specs.Choices.{spans}
use Rattle.act_super.specs.Grounds.{is_among}
use Rattle.act_super.specs.States.{changed, zone_shape_at}
use Rattle.act_image.specs.Fresh.{branch_stays, is_changed}
use Rattle.act_image.specs.Plans.{nodes_from}

-- a zone with the changed key is Outside on the cell, wherever one stands
abbrev pub is_clear : Entry → List Zone → Address → Bool
is_clear e zones c = list_all (λ (zone : Zone). not (is_changed e zone.key && is_on (class_at zone.shape c))) zones

-- so it is before and after the change
abbrev pub is_free : Entry → List Zone → Address → Bool
is_free e zones c = is_clear e zones c && is_clear e (changed zones e) c

-- the same cells within this one are trained in both states
abbrev pub IsTrainedAlike : State → State → Address → Type 0
IsTrainedAlike old new c = (d : Address) → IsCell d → IsIn (hull_of c) (hull_of d).lo → is_among old.trained d ≡ is_among new.trained d

-- a cell that spans none of these keys has the same trained cells within it in both states
abbrev pub KeysTell : State → State → List ℕ → Type 0
KeysTell old new keys = (c : Address) → IsCell c → filter (spans c) keys ≡ [] → IsTrainedAlike old new c

-- the places of the zones with the changed key among the first ones of all
pub record IsPlaces (e : Entry) (all zones : List Zone) (places : List ℕ) : Type 0 where
  pub within : All (λ i. i < length all) places
  pub clear : (c : Address) → list_all (λ i. not (is_on (class_at (zone_shape_at all i) c))) places ≡ is_clear e zones c

-- the nodes from a cell down that don't stay
unfoldable pub turned_under : Settings → State → State → Entry → Address → List Address
turned_under settings old new e c = filter (λ d. not (branch_stays settings old new e d)) (nodes_from settings new c)
