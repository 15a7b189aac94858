-- What is written for a script.
use Rattle.std.specs.Prelude.{◌≡◌, ◌+◌, ◌≤◌, ◌++◌, ℕ, List, [], ◌∷◌, All, Option, Some, None, codes, decimal, drop, length, replicate, slice_index, take}
use Rattle.std.specs.List.{flat_map}
use Rattle.act_grid.specs.declared.Point.{Point}
use Rattle.act_grid.specs.declared.Settings.{Settings}
use Rattle.act_super.specs.declared.entry.Entry.{Entry}
use Rattle.act_super.specs.declared.entry.Entry.TheVariants as entry
use Rattle.act_super.specs.declared.entry.State.{State}
use Rattle.act_super.specs.declared.verdict.Verdict.{Verdict}
use Rattle.act_super.specs.declared.verdict.Verdict.TheVariants as verdict
use Rattle.act_super.specs.Histories.{zones_after}
use Rattle.act_super.specs.Joins.{Hit, join}
use Rattle.act_super.specs.Packs.{reference_limit}
use Rattle.act_super.specs.States.{nothing, verdict_of}
use Rattle.act_script.specs.History.{accepted_from, decided, entry_of, history_in, state_decided, updates_of}
use Rattle.act_script.specs.Script.{script_segments}
use Rattle.act_script.specs.Segments.{batches_in}
use Rattle.act_script.specs.declared.segment.Batch.{Batch}
use Rattle.act_script.specs.Turns.{Turn, points_after, turns_from, turns_of}
use Rattle.act_script.specs.Turns.Turn.{Asks, Joins}
use Rattle.act_script.specs.declared.segment.Step.{Step}
use Rattle.act_script.specs.declared.segment.Update.{Update}
use Rattle.act_script.specs.declared.segment.Update.TheVariants as update

-- the start of the reply to an update
abbrev pub asked_text : Update → List ℕ
asked_text (update.Add key shape) = codes "zone " ++ decimal key
asked_text (update.DropZone key) = codes "drop " ++ decimal key
asked_text (update.Replace key shape) = codes "replace " ++ decimal key
asked_text (update.Train threshold) = codes "train"

-- the end of the reply: accepted, or why not
abbrev pub verdict_text : Option Verdict → List ℕ
verdict_text None = codes " ok\n"
verdict_text (Some verdict.Duplicate) = codes " refused duplicate\n"
verdict_text (Some verdict.Unknown) = codes " refused unknown\n"
verdict_text (Some verdict.Same) = codes " refused same\n"
verdict_text (Some (verdict.Refs need)) = codes " refused refs " ++ decimal need ++ codes " of " ++ decimal reference_limit ++ codes "\n"
verdict_text (Some (verdict.Rows need limit)) = codes " refused rows " ++ decimal need ++ codes " of " ++ decimal limit ++ codes "\n"
verdict_text (Some verdict.NoMemory) = []

-- the end of the reply to an update that asks for this entry: a training says by how many cells it lengthens the list
abbrev pub told_text : Settings → State → Entry → List ℕ
told_text settings state (entry.Add key shape) = verdict_text (verdict_of settings state (entry.Add key shape))
told_text settings state (entry.DropZone key) = verdict_text (verdict_of settings state (entry.DropZone key))
told_text settings state (entry.Replace key shape) = verdict_text (verdict_of settings state (entry.Replace key shape))
told_text settings state (entry.Train cells) = codes " split " ++ decimal (length cells) ++ codes "\n"

-- the reply to an update in this state, where a training has this sample
abbrev pub reply_text : Settings → State → List Point → Update → List ℕ
reply_text settings state sample asked = asked_text asked ++ told_text settings state (entry_of settings state sample asked)

abbrev pub pair_text : List ℕ → Hit → List ℕ
pair_text ids hit = decimal (slice_index ids hit.point) ++ codes "," ++ decimal hit.key ++ codes "\n"

-- the reply to a batch that is answered over the zones after the first `count` updates of a history
abbrev pub batch_text : List Entry → ℕ → Batch → List ℕ
batch_text history count batch =
    codes "batch " ++ decimal batch.number ++ codes " after " ++ decimal count ++ codes " points " ++ decimal (length batch.points) ++ codes "\n"
    ++ flat_map (pair_text batch.ids) (join batch.layers (zones_after count history) batch.points)

-- the replies to turns in their order, this being the state before them, where each batch takes the next count
abbrev pub turns_text : Settings → List Entry → State → List Turn → List ℕ → List ℕ
turns_text settings history state [] counts = []
turns_text settings history state (Asks sample asked ∷ turns) counts =
    reply_text settings state sample asked ++ turns_text settings history (decided settings state (entry_of settings state sample asked)) turns counts
turns_text settings history state (Joins batch ∷ turns) counts =
    batch_text history (slice_index counts 0) batch ++ turns_text settings history state turns (drop 1 counts)

-- the text of segments, where their batches are answered after these numbers of accepted updates
abbrev pub segments_text : Settings → List (List Step) → List ℕ → List ℕ
segments_text settings segments counts = turns_text settings (history_in settings segments) nothing (turns_from [] segments) counts

-- the text of a script
abbrev pub text_of : Settings → List ℕ → List ℕ → List ℕ
text_of settings script counts = segments_text settings (script_segments settings.digits script) counts

-- the counts of a segment's batches are fair: from the updates that were accepted before the segment to those that
-- are accepted by its end
abbrev pub AreFair : ℕ → ℕ → List ℕ → Type 0
AreFair before by_end counts = All (λ count. (before ≤ count) × (count ≤ by_end)) counts

-- the counts of all batches are fair, in this state after so many accepted updates, where these points are there for a
-- sample
abbrev pub IsFairFrom : Settings → State → List Point → ℕ → List (List Step) → List ℕ → Type 0
IsFairFrom settings state points before [] counts = counts ≡ []
IsFairFrom settings state points before (segment ∷ segments) counts =
    let by_end = before + updates_of (accepted_from settings state (turns_of points segment)) in
    (batches_in segment ≤ length counts) × AreFair before by_end (take (batches_in segment) counts)
    × IsFairFrom settings (state_decided settings state (turns_of points segment)) (points_after points segment) by_end segments (drop (batches_in segment) counts)

-- one fair count for each batch of a script
abbrev pub IsFair : Settings → List ℕ → List ℕ → Type 0
IsFair settings script counts = IsFairFrom settings nothing [] 0 (script_segments settings.digits script) counts

-- the least counts: each batch before the updates of its own segment
abbrev pub least_counts : Settings → State → List Point → ℕ → List (List Step) → List ℕ
least_counts settings state points before [] = []
least_counts settings state points before (segment ∷ segments) =
    replicate (batches_in segment) before
    ++ least_counts settings (state_decided settings state (turns_of points segment)) (points_after points segment)
    (before + updates_of (accepted_from settings state (turns_of points segment))) segments

-- each script has fair counts
abbrev pub LeastCountsAreFair : Type 0
LeastCountsAreFair = (settings : Settings) (script : List ℕ) → IsFair settings script (least_counts settings nothing [] 0 (script_segments settings.digits script))
