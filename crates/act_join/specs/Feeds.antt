-- What reading on does, whatever bytes come after it.
use Rattle.std.specs.Prelude.{◌≡◌, ◌≤◌, ◌+◌, ◌++◌, ℕ, List, [], ◌∷◌, Option, Some, None, Result, Ok, Err, length, min, take}
use Rattle.std.specs.Option.{option_map_or}
use Rattle.std.specs.Io.KnownBytes.{Appends, Consumes}
use Rattle.act_grid.specs.declared.Settings.{Settings}
use Rattle.act_io.specs.Bytes.{AppendsFront}
use Rattle.act_io.specs.Streams.{Stream, HasFailed}
use Rattle.act_script.specs.Answers.{Said}
use Rattle.act_script.specs.Cutting.{Cutting, IsInLimits, to_come}
use Rattle.act_script.specs.Script.{Content, ended_part, lines_content, said_then, with_items}
use Rattle.act_script.specs.Segments.{Pending, closed_segments, nothing_pending, pending_by, segments_from}
use Rattle.act_script.specs.Text.{IsFairFrom}
use Rattle.act_script.specs.Turns.{turns_from}
use Rattle.act_script.specs.declared.cutter.CutFault.{CutFault}
use Rattle.act_script.specs.declared.cutter.CutFault.TheVariants as cut
use Rattle.act_script.specs.declared.cutter.TheConstants.{MOST_LINES}
use Rattle.act_script.specs.declared.fault.LineFault.{LineFault}
use Rattle.act_script.specs.declared.fault.LineFault.TheVariants as line
use Rattle.act_script.specs.declared.item.Item.{Item}
use Rattle.act_script.specs.declared.segment.Step.{Step}
use Rattle.act_join.specs.Held.{IsTextFor, joins_in}
use Rattle.act_join.specs.Kept.{Kept, after_segments, nothing_kept}
use Rattle.act_join.specs.Ends.{bad_of}
use Rattle.act_join.specs.declared.ended.ScriptFault.TheVariants as why
use Rattle.act_join.specs.declared.ended.Ended.{Ended}
use Rattle.act_join.specs.declared.ended.Ended.TheVariants as ended
use Rattle.act_join.specs.declared.progress.Progress.{Progress}

-- ---- segments that are run one after another

-- a text of segments, with fair counts, in each history that leads here
pub record IsAnswer (kept : Kept) (segments : List (List Step)) (text : List ℕ) : Type 0 where
  pub counts : List ℕ
  pub each : length counts ≡ joins_in (turns_from kept.points segments)
  pub fair : IsFairFrom kept.held.settings kept.held.state kept.points kept.held.updates segments counts
  pub is : IsTextFor kept.held (turns_from kept.points segments) counts text

-- known bytes grew by such a text, and by a front of one
abbrev pub Answered : Kept → List (List Step) → Option (List ℕ) → Option (List ℕ) → Type 0
Answered kept segments old new = (text : List ℕ) × IsAnswer kept segments text × Appends old new text

abbrev pub AnsweredFront : Kept → List (List Step) → Option (List ℕ) → Option (List ℕ) → Type 0
AnsweredFront kept segments old new = (text : List ℕ) × IsAnswer kept segments text × AppendsFront old new text

-- segments were run, or running stopped so
abbrev pub Runs : Kept → List (List Step) → Stream → Kept → Result (Unit {0}) Ended → Type 0
Runs kept segments out new (Ok done) = (new ≡ after_segments kept segments) × Answered kept segments out.old out.new
Runs kept segments out new (Err ended.WriteFault) = HasFailed out × AnsweredFront kept segments out.old out.new
Runs kept segments out new (Err ended.NoMemory) = AnsweredFront kept segments out.old out.new
Runs kept segments out new (Err ended.Done) = ⊥
Runs kept segments out new (Err ended.ReadFault) = ⊥
Runs kept segments out new (Err (ended.BadLine n fault)) = ⊥

-- ---- items that are taken one after another

-- what is pending after items
abbrev pub pending_after : Pending → List Item → Pending
pending_after p [] = p
pending_after p (item ∷ items) = pending_after (pending_by p item) items

-- the segments of what lines say, from what is pending on
abbrev pub segments_after : Pending → Content → List (List Step)
segments_after p content = option_map_or (λ bad. closed_segments p content.items) content.bad (segments_from p content.items)

-- items were taken, and the segments that they close were run
pub record Takes (items : List Item) (before after : Progress) (old new : Option (List ℕ)) : Type 0 where
  pub pending : after.segmenter ≡ pending_after before.segmenter items
  pub held : after.run ≡ after_segments before.run (closed_segments before.segmenter items)
  pub answers : Answered before.run (closed_segments before.segmenter items) old new

-- reading stopped so, where this is what all lines from here on say
abbrev pub Stops : Content → Progress → Stream → Ended → Type 0
Stops said before out (ended.BadLine n fault) =
    (said.bad ≡ Some (bad_of n fault)) × Answered before.run (segments_after before.segmenter said) out.old out.new
Stops said before out ended.WriteFault = HasFailed out × AnsweredFront before.run (segments_after before.segmenter said) out.old out.new
Stops said before out ended.NoMemory = AnsweredFront before.run (segments_after before.segmenter said) out.old out.new
Stops said before out ended.ReadFault = ⊥
Stops said before out ended.Done = ⊥

-- ---- lines

-- the end of a run at a line with this fault, and where no line was cut behind this many
abbrev pub line_end : ℕ → LineFault → Ended
line_end n line.NoMemory = ended.NoMemory
line_end n fault = ended.BadLine n (why.Line fault)

abbrev pub cut_end : ℕ → CutFault → Ended
cut_end n cut.NoMemory = ended.NoMemory
cut_end n fault = ended.BadLine (min (n + 1) MOST_LINES) (why.Cut fault)

-- the line of this number says so, and was taken
abbrev pub TakesLine : ℕ → Said (Option Item) → Progress → Progress → Stream → Result (Unit {0}) Ended → Type 0
TakesLine n said before after out (Ok done) =
    (items : List Item) × ((more : Content) → said_then n said more ≡ with_items items more) × Takes items before after out.old out.new
TakesLine n said before after out (Err e) = (more : Content) → Stops (said_then n said more) before out e

-- ---- bytes

-- what lines say from the one at hand on, where these bytes are still to come
abbrev pub content_from : ℕ → Cutting → List ℕ → Content
content_from digits cutting rest = lines_content digits (cutting.number + 1) (to_come cutting rest).lines (to_come cutting rest).fault

-- a cutter at the start of the line at hand
abbrev pub at_start : Cutting → Cutting
at_start cutting = record cutting { held = [] }

-- the bytes are lines that end with a line feed
abbrev pub AreLines : List ℕ → Type 0
AreLines bytes = (rest : List ℕ) → ended_part (bytes ++ rest) ≡ bytes ++ ended_part rest

-- bytes were taken: those of the lines that ended, and those that are held
pub record Feeds (digits : ℕ) (before : Progress) (bytes : List ℕ) (after : Progress) (old new : Option (List ℕ)) : Type 0 where
  pub lines : List ℕ
  pub items : List Item
  pub whole : before.cutter.held ++ bytes ≡ lines ++ after.cutter.held
  pub are_lines : AreLines lines
  pub says : (rest : List ℕ) → content_from digits (at_start before.cutter) (lines ++ rest) ≡ with_items items (content_from digits (at_start after.cutter) rest)
  pub takes : Takes items before after old new

-- a part of a piece was taken, or reading stopped so
abbrev pub FeedsPart : ℕ → Progress → List ℕ → Progress → Stream → Result ℕ Ended → Type 0
FeedsPart digits before piece after out (Ok used) = Feeds digits before (take used piece) after out.old out.new
FeedsPart digits before piece after out (Err e) = (rest : List ℕ) → Stops (content_from digits before.cutter (piece ++ rest)) before out e

-- a piece was taken whole
abbrev pub FeedsAll : ℕ → Progress → List ℕ → Progress → Stream → Result (Unit {0}) Ended → Type 0
FeedsAll digits before piece after out (Ok done) = Feeds digits before piece after out.old out.new
FeedsAll digits before piece after out (Err e) = (rest : List ℕ) → Stops (content_from digits before.cutter (piece ++ rest)) before out e

-- the last line was taken at the end of the input, where one is left
abbrev pub TakesLast : ℕ → Progress → Progress → Stream → Result (Unit {0}) Ended → Type 0
TakesLast digits before after out (Ok done) =
    (items : List Item) × (content_from digits before.cutter [] ≡ record { items = items; bad = None }) × Takes items before after out.old out.new
TakesLast digits before after out (Err e) = Stops (content_from digits before.cutter []) before out e

-- the end of the input was taken
abbrev pub Closes : ℕ → Progress → Stream → Result (Unit {0}) Ended → Type 0
Closes digits before out (Ok done) =
    ((content_from digits before.cutter []).bad ≡ None)
    × Answered before.run (segments_after before.segmenter (content_from digits before.cutter [])) out.old out.new
Closes digits before out (Err e) = Stops (content_from digits before.cutter []) before out e

-- ---- the whole run

-- before the first byte
pub record IsStart (settings : Settings) (p : Progress) : Type 0 where
  pub cutter : p.cutter ≡ record { number = 0; held = []; line = []; fault = None }
  pub segmenter : p.segmenter ≡ nothing_pending
  pub run : p.run ≡ nothing_kept settings

-- each batch lies in lines that have ended, and the line at hand keeps to its limits
pub record IsWithin (p : Progress) : Type 0 where
  pub number : p.segmenter.number ≤ p.cutter.number
  pub limits : IsInLimits p.cutter

-- a part of the input was read and taken
pub record HasRead (digits : ℕ) (start now : Progress) (left rest old new : Option (List ℕ)) : Type 0 where
  pub read : List ℕ
  pub consumed : Consumes left rest read
  pub feeds : Feeds digits start read now old new

-- an end, where all was taken, and where reading stopped
abbrev pub ended_of : Result (Unit {0}) Ended → Ended
ended_of (Ok done) = ended.Done
ended_of (Err e) = e
