-- The rows of a new state that the image of the old one lacks.
use Rattle.std.specs.Prelude.{ℕ, ◌+◌, ◌==◌, ◌&&◌, ◌||◌, Bool, true, false, not, cond, List, [], ◌∷◌, Option, Some, None, sum_by}
use Rattle.std.specs.List.{list_all}
use Rattle.act_grid.specs.declared.Settings.{Settings}
use Rattle.act_grid.specs.Cell.{Address, root_cell}
use Rattle.act_super.specs.declared.entry.Entry.{Entry}
use Rattle.act_super.specs.declared.entry.State.{State}
use Rattle.act_super.specs.declared.entry.Zone.{Zone}
use Rattle.act_super.specs.declared.refs.ZoneRef.{ZoneRef}
use Rattle.act_super.specs.Grounds.{same_cell}
use Rattle.act_super.specs.Nodes.{is_parted, list_rows, node_children, node_leaves, nodes_of}
use Rattle.act_super.specs.Sizes.{chain_rows, refs_of}
use Rattle.act_super.specs.States.{after, key_of}
use Rattle.act_image.specs.Plans.{nodes_from}

-- the zone of this key is changed
abbrev pub is_changed : Entry → ℕ → Bool
is_changed e key = by (key_of e)
  where
    by : Option ℕ → Bool
    by None = false
    by (Some changed) = changed == key

abbrev pub same_cells : List Address → List Address → Bool
same_cells [] [] = true
same_cells [] (d ∷ others) = false
same_cells (c ∷ cells) [] = false
same_cells (c ∷ cells) (d ∷ others) = same_cell c d && same_cells cells others

abbrev pub same_refs : List ZoneRef → List ZoneRef → Bool
same_refs [] [] = true
same_refs [] (b ∷ others) = false
same_refs (a ∷ refs) [] = false
same_refs (a ∷ refs) (b ∷ others) = a.key == b.key && cond a.hit b.hit (not b.hit) && same_refs refs others

-- a leaf has the same references in both states, and none to the changed zone
abbrev pub leaf_stays : State → State → Entry → Address → Bool
leaf_stays old new e leaf =
    same_refs (refs_of old.zones leaf) (refs_of new.zones leaf) && list_all (λ (r : ZoneRef). not (is_changed e r.key)) (refs_of new.zones leaf)

-- the old state has an equal node of the cell: the same leaves, which stay, and child nodes at the same places
abbrev pub node_stays : Settings → State → State → Entry → Address → Bool
node_stays settings old new e c =
    (same_cell c root_cell || is_parted settings old c)
    && same_cells (node_leaves settings old c) (node_leaves settings new c)
    && same_cells (node_children settings old c) (node_children settings new c)
    && list_all (leaf_stays old new e) (node_leaves settings new c)

-- so it is with each node from the cell down
abbrev pub branch_stays : Settings → State → State → Entry → Address → Bool
branch_stays settings old new e c = list_all (node_stays settings old new e) (nodes_from settings new c)

-- the rows of the nodes that don't stay, with their lists, and of the chain of the changed zone
unfoldable pub fresh_rows : Settings → State → Entry → ℕ
fresh_rows settings old e =
    sum_by (λ c. cond (branch_stays settings old (after settings old e) e c) 0 (1 + list_rows settings (after settings old e) c)) (nodes_of settings (after settings old e))
    + sum_by (λ (zone : Zone). cond (is_changed e zone.key) (chain_rows zone.shape) 0) (after settings old e).zones
