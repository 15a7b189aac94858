-- Which rows of a plan stay.
use Rattle.std.specs.Prelude.{◌≡◌, ℕ, zero, suc, ◌+◌, ◌≤◌, true, cond, List, [], ◌∷◌, ◌++◌, length, map}
use Rattle.std.specs.List.{AllByRecursion, flat_map}
use Rattle.act_grid.specs.declared.Settings.{Settings}
use Rattle.act_grid.specs.Cell.{Address}
use Rattle.act_grid.specs.declared.Point.{Point}
use Rattle.act_super.specs.declared.entry.Entry.{Entry}
use Rattle.act_super.specs.declared.entry.State.{State}
use Rattle.act_super.specs.declared.entry.Zone.{Zone}
use Rattle.act_super.specs.Sizes.{chain_rows}
use Rattle.act_super.specs.Stands.{Layout}
use Rattle.act_image.specs.declared.chains.ChainPlace.{ChainPlace}
use Rattle.act_image.specs.declared.chains.ChainRow.{ChainRow}
use Rattle.act_image.specs.declared.kept.KeptChains.{KeptChains}
use Rattle.act_image.specs.declared.slots.Slot.{Slot}
use Rattle.act_image.specs.declared.slots.Slot.TheVariants as slot
use Rattle.act_image.specs.Fresh.{branch_stays, is_changed}
use Rattle.act_image.specs.Pics.{HaveOwnKeys, chain_of, part_of}
use Rattle.act_image.specs.Plans.{chain_rows_from, chains_from, lists_of, rows_from}

-- so many new rows
abbrev pub new_slots : ℕ → List Slot
new_slots zero = []
new_slots (suc n) = slot.New ∷ new_slots n

-- these rows stay
abbrev pub kept_slots : List ℕ → List Slot
kept_slots rows = map slot.Kept rows

-- the rows of a chain stay where its zone isn't changed
abbrev pub zone_slots : (ℕ → List ℕ) → Entry → Zone → List Slot
zone_slots chain e zone = cond (is_changed e zone.key) (new_slots (chain_rows zone.shape)) (kept_slots (chain zone.key))

-- the chains of an image's zones are these, and their rows stand from one on
pub record IsOldChains (zones : List Zone) (places : List ChainPlace) (rows : List ℕ) (from : ℕ) : Type 0 where
  pub places_are : places ≡ chains_from 0 zones
  pub enough : from + length (chain_rows_from 0 zones) ≤ length rows
  pub own : HaveOwnKeys zones

-- the rows of the chain of a key
abbrev pub old_chain : List ChainPlace → List ℕ → ℕ → ℕ → List ℕ
old_chain places rows from key = part_of rows (from + (chain_of places key).first) (chain_of places key).count

-- the rows of the chains of changed zones, of those of all zones
abbrev pub own_rows : Entry → ℕ → List Zone → List ChainRow
own_rows e chain [] = []
own_rows e chain (zone ∷ zones) = cond (is_changed e zone.key) (rows_from chain 0 (chain_rows zone.shape)) [] ++ own_rows e (chain + 1) zones

-- a row whose body is the only one at hand
abbrev pub of_first_body : ChainRow → ChainRow
of_first_body r = record { chain = r.chain; body = 0; row = r.row }

-- the chains of zones, where those of zones that aren't changed have these rows, and each changed zone has this shape
pub record IsKeptChains (chain : ℕ → List ℕ) (e : Entry) (shape : List (List Point)) (zones : List Zone) (c : KeptChains) : Type 0 where
  pub places : c.places.items ≡ chains_from 0 zones
  pub slots : c.slots.items ≡ flat_map (zone_slots chain e) zones
  pub count : c.count ≡ length (chain_rows_from 0 zones)
  pub rows : c.rows.items ≡ map of_first_body (own_rows e 0 zones)
  pub shapes : AllByRecursion (λ (zone : Zone). is_changed e zone.key ≡ true → zone.shape ≡ shape) zones

-- a node and its lists stay with all nodes below it
module _ (settings : Settings) (layout : Layout) (old new : State) (e : Entry) where
  abbrev pub node_slot : Address → Slot
  node_slot c = cond (branch_stays settings old new e c) (slot.Kept (layout.node c)) slot.New

  abbrev pub list_slots : Address → List Slot
  list_slots c = cond (branch_stays settings old new e c) (kept_slots (layout.lists c)) (new_slots (length (lists_of settings new c)))

  abbrev pub chain_slots : Zone → List Slot
  chain_slots zone = zone_slots layout.chain e zone

  abbrev pub slots_of : List Address → List Slot
  slots_of cells = map node_slot cells ++ (flat_map list_slots cells ++ flat_map chain_slots new.zones)
