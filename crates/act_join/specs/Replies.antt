-- The parts of a reply.
use Rattle.std.specs.Prelude.{◌++◌, ℕ, List, Option, Some, None, codes, decimal, length, slice_index, if◌then◌else◌}
use Rattle.std.specs.List.{flat_map}
use Rattle.act_grid.specs.declared.Settings.{Settings}
use Rattle.act_super.specs.declared.entry.Entry.{Entry}
use Rattle.act_super.specs.declared.entry.Entry.TheVariants as entry
use Rattle.act_super.specs.declared.entry.State.{State}
use Rattle.act_super.specs.declared.entry.Zone.{Zone}
use Rattle.act_super.specs.Joins.{Hit, join}
use Rattle.act_super.specs.States.{verdict_of}
use Rattle.act_script.specs.History.{is_made}
use Rattle.act_script.specs.Text.{pair_text, verdict_text}
use Rattle.act_script.specs.declared.segment.Batch.{Batch}
use Rattle.act_script.specs.declared.segment.Update.{Update}
use Rattle.act_script.specs.declared.segment.Update.TheVariants as update
use Rattle.act_index.specs.declared.pairs.Pair.{Pair}
use Rattle.act_join.specs.declared.reply.Reply.{Reply}
use Rattle.act_join.specs.declared.reply.Reply.TheVariants as reply
use Rattle.act_join.specs.declared.told.Told.{Told}
use Rattle.act_join.specs.declared.told.Told.TheVariants as told

-- the end of the reply to an update that is told so
abbrev pub end_text : Told → List ℕ
end_text (told.Verdict why) = verdict_text why
end_text (told.Split cells) = codes " split " ++ decimal cells ++ codes "\n"

-- what is told of an update that asks for this entry
abbrev pub told_of : Settings → State → Entry → Told
told_of settings state (entry.Add key shape) = told.Verdict (verdict_of settings state (entry.Add key shape))
told_of settings state (entry.DropZone key) = told.Verdict (verdict_of settings state (entry.DropZone key))
told_of settings state (entry.Replace key shape) = told.Verdict (verdict_of settings state (entry.Replace key shape))
told_of settings state (entry.Train cells) = told.Split (length cells)

-- the key of an update that adds a zone and is accepted
abbrev pub added_by : Settings → State → Update → Option ℕ
added_by settings state (update.Add key shape) = if is_made settings state (entry.Add key shape) then Some key else None
added_by settings state (update.DropZone key) = None
added_by settings state (update.Replace key shape) = None
added_by settings state (update.Train threshold) = None

-- the line of a pair
abbrev pub key_text : ℕ → ℕ → List ℕ
key_text id key = decimal id ++ codes "," ++ decimal key ++ codes "\n"

abbrev pub hits_text : List ℕ → List Hit → List ℕ
hits_text ids hits = flat_map (pair_text ids) hits

-- the lines of the pairs of an answer
abbrev pub pairs_text : List ℕ → List Pair → List ℕ
pairs_text ids pairs = flat_map (λ (pair : Pair). key_text (slice_index ids pair.point) pair.key) pairs

-- the first line of the reply to a batch
abbrev pub head_text : ℕ → Batch → List ℕ
head_text count batch = codes "batch " ++ decimal batch.number ++ codes " after " ++ decimal count ++ codes " points " ++ decimal (length batch.points) ++ codes "\n"

-- the reply to a batch that is answered over these zones, which stand after the first `count` updates
abbrev pub answer_text : ℕ → List Zone → Batch → List ℕ
answer_text count zones batch = head_text count batch ++ hits_text batch.ids (join batch.layers zones batch.points)

-- the text of replies
abbrev pub one_text : Reply → List ℕ
one_text (reply.Update added line) = line
one_text (reply.Batch batch after answer) = head_text after batch ++ pairs_text batch.ids answer.pairs

abbrev pub replies_text : List Reply → List ℕ
replies_text replies = flat_map one_text replies
