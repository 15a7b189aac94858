-- What is so within a segment: of the updates that were decided so far, and of the batches that were answered.
use Rattle.std.specs.Prelude.{◌≡◌, ◌+◌, ◌++◌, ℕ, Bool, true, false, List, [], ◌∷◌, Option, Some, None, length, if◌then◌else◌, map, nat_lt}
use Rattle.act_grid.specs.declared.Point.{Point}
use Rattle.act_grid.specs.declared.Settings.{Settings}
use Rattle.act_super.specs.declared.entry.Entry.{Entry}
use Rattle.act_super.specs.declared.entry.State.{State}
use Rattle.act_super.specs.declared.verdict.Verdict.TheVariants as verdict
use Rattle.act_super.specs.Histories.{IsLegalFrom, state_from}
use Rattle.act_rows.specs.History.{History, Begins}
use Rattle.act_rows.specs.Versions.{newest}
use Rattle.act_index.specs.Answers.{Answered, IsJoin}
use Rattle.act_index.specs.Codes.{codes, updates_in}
use Rattle.act_index.specs.Whole.{IsWhole, Writing}
use Rattle.act_index.specs.declared.done.Refused.{Refused}
use Rattle.act_index.specs.declared.done.Refused.TheVariants as refused
use Rattle.act_script.specs.History.{accepted_from, decided, entry_of, made_by, updates_of}
use Rattle.act_script.specs.Text.{reply_text}
use Rattle.act_script.specs.Turns.{Turn, left_by_update}
use Rattle.act_script.specs.Turns.Turn.{Asks}
use Rattle.act_script.specs.Segments.{is_batch}
use Rattle.act_script.specs.declared.segment.Batch.{Batch}
use Rattle.act_script.specs.declared.segment.Step.{Step}
use Rattle.act_script.specs.declared.segment.Step.TheVariants as step
use Rattle.act_script.specs.declared.segment.Update.{Update}
use Rattle.act_script.specs.declared.segment.Update.TheVariants as update
use Rattle.act_join.specs.Held.{Held}
use Rattle.act_join.specs.Replies.{added_by, told_of}
use Rattle.act_join.specs.declared.told.Told.TheVariants as told
use Rattle.act_join.specs.declared.told.Tried.{Tried}
use Rattle.act_join.specs.declared.told.Tried.TheVariants as tried
use Rattle.act_join.specs.declared.told.Told.{Told}
use Rattle.act_join.specs.declared.decide.Decided.{Decided}
use Rattle.act_join.specs.declared.decide.Stepped.{Stepped}
use Rattle.act_join.specs.declared.decide.Stepped.TheVariants as stepped
use Rattle.act_join.specs.declared.parts.Parts.{Parts}
use Rattle.act_join.specs.declared.updating.Updating.{Updating}
use Rattle.std.specs.List.{flat_map}

-- what is held, as the writer sees it
abbrev pub held_by : Writing → Held
held_by w = record { settings = w.settings; state = w.state; version = newest w.desk; updates = updates_in w.desk.history }

-- ---- one update

-- these entries were made, each of them allowed
pub record Makes (w w' : Writing) (entries : List Entry) : Type 0 where
  pub history : w'.desk.history ≡ w.desk.history ++ codes w.settings entries
  pub settings : w'.settings ≡ w.settings
  pub state : w'.state ≡ state_from w.settings w.state entries
  pub table : w'.table ≡ w.table
  pub legal : IsLegalFrom w.settings w.state entries

-- an update was tried: it was decided and is told, or it is held and comes back
abbrev pub Tries : Writing → Writing → List Point → Update → Tried → Type 0
Tries w w' sample asked (tried.Told says) =
    (says ≡ told_of w.settings w.state (entry_of w.settings w.state sample asked)) × Makes w w' (made_by w.settings w.state (Asks sample asked))
Tries w w' sample asked (tried.Held back) = (back ≡ asked) × Makes w w' []

-- what an update that was refused is told. Want of memory is no verdict on it, and no version behind the last is known by another name
abbrev pub TurnedBy : Refused → Update → Tried → Type 0
TurnedBy refused.Duplicate back says = says ≡ tried.Told (told.Verdict (Some verdict.Duplicate))
TurnedBy refused.Unknown back says = says ≡ tried.Told (told.Verdict (Some verdict.Unknown))
TurnedBy refused.Same back says = says ≡ tried.Told (told.Verdict (Some verdict.Same))
TurnedBy (refused.Refs need) back says = says ≡ tried.Told (told.Verdict (Some (verdict.Refs need)))
TurnedBy (refused.Rows need limit) back says = says ≡ tried.Told (told.Verdict (Some (verdict.Rows need limit)))
TurnedBy (refused.Held reader version word) back says = says ≡ tried.Held back
TurnedBy refused.Versions back says = ⊥
TurnedBy refused.NoMemory back says = ⊥

-- a decided update, or one that is held
abbrev pub Steps : Writing → Writing → List Point → List Point → Update → Stepped → Type 0
Steps w w' points left asked (stepped.Done says) =
    (says.line ≡ reply_text w.settings w.state points asked) × (says.added ≡ added_by w.settings w.state asked)
    × Makes w w' (made_by w.settings w.state (Asks points asked)) × (left ≡ left_by_update points asked)
Steps w w' points left asked (stepped.Held back) = (back ≡ asked) × Makes w w' [] × (left ≡ points)

-- the key of a zone that an update would add, and where it is told that it was
abbrev pub key_added : Update → Option ℕ
key_added (update.Add key shape) = Some key
key_added (update.DropZone key) = None
key_added (update.Replace key shape) = None
key_added (update.Train threshold) = None

abbrev pub key_where : Told → Option ℕ → Option ℕ
key_where (told.Verdict None) key = key
key_where (told.Verdict (Some why)) key = None
key_where (told.Split cells) key = None

-- an update takes the points that are there for a sample
abbrev pub takes_points : Update → Bool
takes_points (update.Add key shape) = false
takes_points (update.DropZone key) = false
takes_points (update.Replace key shape) = false
takes_points (update.Train threshold) = true

-- the number of updates, where the version has grown
abbrev pub counted : ℕ → ℕ → ℕ → List ℕ
counted before now updates = if nat_lt before now then updates ∷ [] else []

-- ---- updates in a row

-- the turns of updates, where these points are there for a sample, and the points that they leave
abbrev pub asks_of : List Point → List Update → List Turn
asks_of points [] = []
asks_of points (first ∷ updates) = Asks points first ∷ asks_of (left_by_update points first) updates

abbrev pub left_from : List Point → List Update → List Point
left_from points [] = points
left_from points (first ∷ updates) = left_from (left_by_update points first) updates

-- each update has its line and its key
abbrev pub AreDecided : Settings → State → List Point → List Update → List Decided → Type 0
AreDecided settings state points [] [] = Unit {0}
AreDecided settings state points (first ∷ updates) (says ∷ others) =
    (says.line ≡ reply_text settings state points first) × (says.added ≡ added_by settings state first)
    × AreDecided settings (decided settings state (entry_of settings state points first)) (left_by_update points first) updates others
AreDecided settings state points [] (says ∷ others) = ⊥
AreDecided settings state points (first ∷ updates) [] = ⊥

-- how many updates there are after none of the entries, after the first, and so on
abbrev pub counts_from : ℕ → List Entry → List ℕ
counts_from n [] = n ∷ []
counts_from n (first ∷ entries) = n ∷ counts_from (n + updates_of (first ∷ [])) entries

-- the updates are decided so far, and these are left
pub record IsAlong (start : Writing) (points : List Point) (updates : List Update) (now : Updating) : Type 0 where
  pub entries : List Entry
  pub makes : Makes start now.writer entries
  pub rest : entries ++ accepted_from now.writer.settings now.writer.state (asks_of now.points.items now.waiting.items) ≡ accepted_from start.settings start.state (asks_of points updates)
  pub left : left_from now.points.items now.waiting.items ≡ left_from points updates
  pub told : (more : List Decided) → AreDecided now.writer.settings now.writer.state now.points.items now.waiting.items more → AreDecided start.settings start.state points updates (now.decided.items ++ more)
  pub counts : now.counts.items ≡ counts_from (updates_in start.desk.history) entries

-- all of them are decided
pub record IsDone (start : Writing) (points : List Point) (updates : List Update) (now : Updating) : Type 0 where
  pub makes : Makes start now.writer (accepted_from start.settings start.state (asks_of points updates))
  pub left : now.points.items ≡ left_from points updates
  pub told : AreDecided start.settings start.state points updates now.decided.items
  pub counts : now.counts.items ≡ counts_from (updates_in start.desk.history) (accepted_from start.settings start.state (asks_of points updates))

-- ---- batches

-- the answer is that of a version between these two histories
pub record IsFound (before now : History) (batch : Batch) (answer : Answered) : Type 0 where
  pub seen : History
  pub version : answer.version ≡ length seen
  pub low : Begins before seen
  pub high : Begins seen now
  pub join : IsJoin seen batch.layers batch.points answer.pairs answer.reads

-- each batch has its answer
abbrev pub AreFound : History → History → List Batch → List Answered → Type 0
AreFound before now [] [] = Unit {0}
AreFound before now (batch ∷ batches) (answer ∷ answers) = IsFound before now batch answer × AreFound before now batches answers
AreFound before now [] (answer ∷ answers) = ⊥
AreFound before now (batch ∷ batches) [] = ⊥

-- ---- the parts of a segment

abbrev pub updates_among : List Step → List Update
updates_among [] = []
updates_among (step.Update asked ∷ steps) = asked ∷ updates_among steps
updates_among (step.Batch batch ∷ steps) = updates_among steps

abbrev pub batches_among : List Step → List Batch
batches_among [] = []
batches_among (step.Update asked ∷ steps) = batches_among steps
batches_among (step.Batch batch ∷ steps) = batch ∷ batches_among steps

-- the points of batches
abbrev pub points_of : List Batch → List Point
points_of batches = flat_map (λ (batch : Batch). batch.points) batches

-- a segment was begun: its updates wait, and its batches and their order are apart
pub record IsOpen (start : Writing) (points : List Point) (steps : List Step) (now : Updating) (parts : Parts) (first : ℕ) : Type 0 where
  pub along : IsAlong start points (updates_among steps) now
  pub whole : IsWhole start
  pub history : now.writer.desk.history ≡ start.desk.history
  pub batches : parts.batches.items ≡ batches_among steps
  pub order : parts.order.items ≡ map is_batch steps
  pub begun : first ≡ newest start.desk
