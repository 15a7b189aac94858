-- The updates of a script that are accepted.
use Rattle.std.specs.Prelude.{◌++◌, ◌&&◌, ℕ, Bool, true, List, [], ◌∷◌, filter, if◌then◌else◌, is_none, length, nat_lt}
use Rattle.act_grid.specs.declared.Point.{Point}
use Rattle.act_grid.specs.declared.Settings.{Settings}
use Rattle.act_super.specs.declared.entry.Entry.{Entry}
use Rattle.act_super.specs.declared.entry.Entry.TheVariants as entry
use Rattle.act_super.specs.declared.entry.State.{State}
use Rattle.act_super.specs.Histories.{is_update}
use Rattle.act_super.specs.States.{after, nothing, verdict_of}
use Rattle.act_super.specs.Training.{trained_more}
use Rattle.act_script.specs.Script.{script_segments}
use Rattle.act_script.specs.Turns.{Turn, turns_from}
use Rattle.act_script.specs.Turns.Turn.{Asks, Joins}
use Rattle.act_script.specs.declared.segment.Step.{Step}
use Rattle.act_script.specs.declared.segment.Update.{Update}
use Rattle.act_script.specs.declared.segment.Update.TheVariants as update

-- the entry that an update asks for in a state: a training asks for the cells that it trains with its sample
abbrev pub entry_of : Settings → State → List Point → Update → Entry
entry_of settings state sample (update.Add key shape) = entry.Add key shape
entry_of settings state sample (update.DropZone key) = entry.DropZone key
entry_of settings state sample (update.Replace key shape) = entry.Replace key shape
entry_of settings state sample (update.Train threshold) = entry.Train (trained_more settings state sample threshold)

-- a training without a cell changes nothing
abbrev pub has_change : Entry → Bool
has_change (entry.Add key shape) = true
has_change (entry.DropZone key) = true
has_change (entry.Replace key shape) = true
has_change (entry.Train cells) = nat_lt 0 (length cells)

-- an entry that is asked for is accepted and changes something
abbrev pub is_made : Settings → State → Entry → Bool
is_made settings state asked = is_none (verdict_of settings state asked) && has_change asked

-- the state after an entry is decided: it is made where it is accepted
abbrev pub decided : Settings → State → Entry → State
decided settings state asked = if is_made settings state asked then after settings state asked else state

-- the state after turns, and the entries that are made when they are decided in order
abbrev pub state_by : Settings → State → Turn → State
state_by settings state (Asks sample asked) = decided settings state (entry_of settings state sample asked)
state_by settings state (Joins batch) = state

abbrev pub state_decided : Settings → State → List Turn → State
state_decided settings state [] = state
state_decided settings state (first ∷ turns) = state_decided settings (state_by settings state first) turns

abbrev pub made_by : Settings → State → Turn → List Entry
made_by settings state (Asks sample asked) =
    if is_made settings state (entry_of settings state sample asked) then entry_of settings state sample asked ∷ [] else []
made_by settings state (Joins batch) = []

abbrev pub accepted_from : Settings → State → List Turn → List Entry
accepted_from settings state [] = []
accepted_from settings state (first ∷ turns) = made_by settings state first ++ accepted_from settings (state_by settings state first) turns

-- how many of the entries change the zones
abbrev pub updates_of : List Entry → ℕ
updates_of entries = length (filter is_update entries)

-- the history of segments that are run one after another
abbrev pub history_in : Settings → List (List Step) → List Entry
history_in settings segments = accepted_from settings nothing (turns_from [] segments)

-- the history of a script
abbrev pub history_of : Settings → List ℕ → List Entry
history_of settings script = history_in settings (script_segments settings.digits script)
