-- The zones after a history.
use Rattle.std.proofs.Common.{◌≡◌, List, [], ◌∷◌, filter, refl}
use Rattle.act_grid.specs.declared.Settings.{Settings}
use Rattle.act_super.specs.declared.entry.Entry.{Entry}
use Rattle.act_super.specs.declared.entry.Entry.TheVariants as entry
use Rattle.act_super.specs.declared.entry.State.{State}
use Rattle.act_super.specs.declared.entry.Zone.{Zone}
use Rattle.act_super.specs.Histories.{StateHasZones, TrainingChangesNoZone, is_update, state_from, zones_from}
use Rattle.act_super.specs.States.{after, changed, nothing}

zones_are : (settings : Settings) (state : State) (changes : List Entry) → (state_from settings state changes).zones ≡ zones_from state.zones changes
zones_are settings state [] = refl
zones_are settings state (change ∷ changes) = zones_are settings (after settings state change) changes

pub state_has_zones : StateHasZones
state_has_zones settings changes = zones_are settings nothing changes

updates_alone : (zones : List Zone) (changes : List Entry) → zones_from zones changes ≡ zones_from zones (filter is_update changes)
updates_alone zones [] = refl
updates_alone zones (entry.Add key shape ∷ changes) = updates_alone (changed zones (entry.Add key shape)) changes
updates_alone zones (entry.DropZone key ∷ changes) = updates_alone (changed zones (entry.DropZone key)) changes
updates_alone zones (entry.Replace key shape ∷ changes) = updates_alone (changed zones (entry.Replace key shape)) changes
updates_alone zones (entry.Train cells ∷ changes) = updates_alone zones changes

pub training_changes_no_zone : TrainingChangesNoZone
training_changes_no_zone changes = updates_alone [] changes
