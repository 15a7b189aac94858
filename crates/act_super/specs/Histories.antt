-- Histories: lists of accepted updates.
use Rattle.std.specs.Prelude.{◌≡◌, ℕ, Bool, true, false, List, [], ◌∷◌, filter, take}
use Rattle.act_grid.specs.declared.Settings.{Settings}
use Rattle.act_super.specs.declared.entry.Zone.{Zone}
use Rattle.act_super.specs.declared.entry.State.{State}
use Rattle.act_super.specs.declared.entry.Entry.{Entry}
use Rattle.act_super.specs.declared.entry.Entry.TheVariants as entry
use Rattle.act_super.specs.States.{IsAllowed, after, changed, nothing}

-- the state after a list of entries
abbrev pub state_from : Settings → State → List Entry → State
state_from settings state [] = state
state_from settings state (change ∷ changes) = state_from settings (after settings state change) changes

abbrev pub state_of : Settings → List Entry → State
state_of settings changes = state_from settings nothing changes

-- the zones after a list of entries
abbrev pub zones_from : List Zone → List Entry → List Zone
zones_from zones [] = zones
zones_from zones (change ∷ changes) = zones_from (changed zones change) changes

-- the zones that stand after a history
abbrev pub zones_of : List Entry → List Zone
zones_of changes = zones_from [] changes

-- each entry is allowed in the state before it
abbrev pub IsLegalFrom : Settings → State → List Entry → Type 0
IsLegalFrom settings state [] = Unit {0}
IsLegalFrom settings state (change ∷ changes) = IsAllowed settings state change × IsLegalFrom settings (after settings state change) changes

abbrev pub IsLegal : Settings → List Entry → Type 0
IsLegal settings changes = IsLegalFrom settings nothing changes

-- an entry that changes the zones
abbrev pub is_update : Entry → Bool
is_update (entry.Add key shape) = true
is_update (entry.DropZone key) = true
is_update (entry.Replace key shape) = true
is_update (entry.Train cells) = false

-- the zones after the first so many of the updates
abbrev pub zones_after : ℕ → List Entry → List Zone
zones_after count changes = zones_of (take count (filter is_update changes))

-- the zones of the state after a history are those after its entries, and a training changes none
abbrev pub StateHasZones : Type 0
StateHasZones = (settings : Settings) (changes : List Entry) → (state_of settings changes).zones ≡ zones_of changes

abbrev pub TrainingChangesNoZone : Type 0
TrainingChangesNoZone = (changes : List Entry) → zones_of changes ≡ zones_of (filter is_update changes)
