-- States, and what an update leads to.
use Rattle.std.specs.Prelude.{◌≡◌, ◌≤◌, ◌==◌, ◌&&◌, ◌++◌, ℕ, Bool, not, List, [], ◌∷◌, Option, Some, None, if◌then◌else◌, nat_lt, length, map, filter, slice_index, slice_index_or}
use Rattle.std.specs.List.{list_any}
use Rattle.act_grid.specs.declared.Point.{Point}
use Rattle.act_grid.specs.declared.Settings.{Settings}
use Rattle.act_grid.specs.Cell.{Address}
use Rattle.act_super.specs.declared.entry.Zone.{Zone}
use Rattle.act_super.specs.declared.entry.State.{State}
use Rattle.act_super.specs.declared.entry.Entry.{Entry}
use Rattle.act_super.specs.declared.entry.Entry.TheVariants as entry
use Rattle.act_super.specs.declared.verdict.Verdict.{Verdict}
use Rattle.act_super.specs.declared.verdict.Verdict.TheVariants as verdict
use Rattle.act_super.specs.Packs.{reference_limit}
use Rattle.act_super.specs.Shapes.{same_rings}
use Rattle.act_super.specs.Sizes.{most_references, rows_with, size_of}
use Rattle.act_super.specs.Training.{fit, most_trained}

-- no zones and no trained cells
abbrev pub nothing : State
nothing = record { zones = []; trained = [] }

-- a zone with the key stands among these
abbrev pub has_key : ℕ → List Zone → Bool
has_key key zones = list_any (λ zone. zone.key == key) zones

-- a zone with the key and the shape stands among these
abbrev pub has_zone : ℕ → List (List Point) → List Zone → Bool
has_zone key shape zones = list_any (λ zone. zone.key == key && same_rings zone.shape shape) zones

-- the zones by ascending key, with one more
abbrev pub with_zone : Zone → List Zone → List Zone
with_zone zone [] = zone ∷ []
with_zone zone (other ∷ zones) = if nat_lt zone.key other.key then zone ∷ other ∷ zones else other ∷ with_zone zone zones

-- the zones but the one with the key
abbrev pub without_key : ℕ → List Zone → List Zone
without_key key zones = filter (λ zone. not (zone.key == key)) zones

-- the zones, where the one with the key gets this shape
abbrev pub reshaped : ℕ → List (List Point) → List Zone → List Zone
reshaped key shape zones = map (λ (zone : Zone). if zone.key == key then record { key = key; shape = shape } else zone) zones

-- the key and the shape of the zone at a place
abbrev pub zone_key_at : List Zone → ℕ → ℕ
zone_key_at zones i = slice_index (map (λ zone. zone.key) zones) i

abbrev pub zone_shape_at : List Zone → ℕ → List (List Point)
zone_shape_at zones i = slice_index_or (map (λ zone. zone.shape) zones) i []

-- the zones after an entry; a training leaves them
abbrev pub changed : List Zone → Entry → List Zone
changed zones (entry.Add key shape) = with_zone (record { key = key; shape = shape }) zones
changed zones (entry.DropZone key) = without_key key zones
changed zones (entry.Replace key shape) = reshaped key shape zones
changed zones (entry.Train cells) = zones

-- the trained cells after an entry: a training appends its own, and any other entry leaves the Fit of those before it
abbrev pub trained_after : Settings → State → Entry → List Address
trained_after settings state (entry.Add key shape) = fit settings (changed state.zones (entry.Add key shape)) state.trained
trained_after settings state (entry.DropZone key) = fit settings (changed state.zones (entry.DropZone key)) state.trained
trained_after settings state (entry.Replace key shape) = fit settings (changed state.zones (entry.Replace key shape)) state.trained
trained_after settings state (entry.Train cells) = state.trained ++ cells

-- the state after an entry
abbrev pub after : Settings → State → Entry → State
after settings state change = record { zones = changed state.zones change; trained = trained_after settings state change }

-- why an update is turned away for its key or its shape
abbrev pub key_verdict : List Zone → Entry → Option Verdict
key_verdict zones (entry.Add key shape) = if has_key key zones then Some verdict.Duplicate else None
key_verdict zones (entry.DropZone key) = if has_key key zones then None else Some verdict.Unknown
key_verdict zones (entry.Replace key shape) = if has_key key zones then (if has_zone key shape zones then Some verdict.Same else None) else Some verdict.Unknown
key_verdict zones (entry.Train cells) = None

-- why a greatest number of references, or a number of rows, is too great for so many rows
abbrev pub room_of : ℕ → ℕ → ℕ → Option Verdict
room_of limit references rows =
    if nat_lt reference_limit references then Some (verdict.Refs references) else if nat_lt limit rows then Some (verdict.Rows rows limit) else None

-- why zones are too many: some leaf has too many references, or they take too many rows, both where no cell is trained
unfoldable pub room_verdict : Settings → List Zone → Option Verdict
room_verdict settings zones = room_of settings.rows (most_references settings zones) (rows_with settings zones [])

-- the first cause, where there is one
abbrev pub first_cause : Option Verdict → Option Verdict → Option Verdict
first_cause None second = second
first_cause (Some why) second = Some why

-- why an update is turned away, and None where it is accepted
abbrev pub verdict_of : Settings → State → Entry → Option Verdict
verdict_of settings state (entry.Add key shape) =
    first_cause (key_verdict state.zones (entry.Add key shape)) (room_verdict settings (changed state.zones (entry.Add key shape)))
verdict_of settings state (entry.DropZone key) =
    first_cause (key_verdict state.zones (entry.DropZone key)) (room_verdict settings (changed state.zones (entry.DropZone key)))
verdict_of settings state (entry.Replace key shape) =
    first_cause (key_verdict state.zones (entry.Replace key shape)) (room_verdict settings (changed state.zones (entry.Replace key shape)))
verdict_of settings state (entry.Train cells) = None

-- what an entry changes
abbrev pub key_of : Entry → Option ℕ
key_of (entry.Add key shape) = Some key
key_of (entry.DropZone key) = Some key
key_of (entry.Replace key shape) = Some key
key_of (entry.Train cells) = None

abbrev pub shape_of : Entry → Option (List (List Point))
shape_of (entry.Add key shape) = Some shape
shape_of (entry.DropZone key) = None
shape_of (entry.Replace key shape) = Some shape
shape_of (entry.Train cells) = None

-- what contracts see of a `Super`: its settings and state, and for how many zones there is room beside those that stand
pub record Plain : Type 0 where
  pub settings : Settings
  pub state : State
  pub spare : ℕ

-- the room that a change needs
abbrev pub needs : Entry → ℕ
needs (entry.Add key shape) = 1
needs (entry.DropZone key) = 0
needs (entry.Replace key shape) = 0
needs (entry.Train cells) = 0

-- how many cells an entry trains
abbrev pub split_of : Entry → ℕ
split_of (entry.Add key shape) = 0
split_of (entry.DropZone key) = 0
split_of (entry.Replace key shape) = 0
split_of (entry.Train cells) = length cells

-- the state is within the limits of the settings
pub record IsWithin (settings : Settings) (state : State) : Type 0 where
  pub rows : size_of settings state ≤ settings.rows
  pub trained : length state.trained ≤ most_trained

-- what contracts see of a `Next`: its entry, the trained cells of the state after it, the Size of that state and what that
-- is with no trained cell, and for which budget of cells it was prepared
pub record Prepared : Type 0 where
  pub entry : Entry
  pub trained : List Address
  pub size : ℕ
  pub plain : ℕ
  pub cells : ℕ

-- the change was prepared on the state: the trained cells after it are their own Fit
pub record IsFor (settings : Settings) (state : State) (change : Prepared) : Type 0 where
  pub accepted : verdict_of settings state change.entry ≡ None
  pub trained : change.trained ≡ trained_after settings state change.entry
  pub kept : fit settings (changed state.zones change.entry) change.trained ≡ change.trained
  pub sized : change.size ≡ size_of settings (after settings state change.entry)
  pub plainly : change.plain ≡ rows_with settings (changed state.zones change.entry) []
  pub budget : change.cells ≡ settings.cells
  pub within : IsWithin settings (after settings state change.entry)

-- the entry may stand in a history after this state: it is accepted, a training has a cell, and the state after it is
-- within the limits
pub record IsAllowed (settings : Settings) (state : State) (change : Entry) : Type 0 where
  pub accepted : verdict_of settings state change ≡ None
  pub trains : key_of change ≡ None → 1 ≤ split_of change
  pub within : IsWithin settings (after settings state change)
