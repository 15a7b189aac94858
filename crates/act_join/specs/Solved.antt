-- Replies that are those to turns.
use Rattle.std.specs.Prelude.{◌≡◌, ◌≤◌, ◌+◌, ℕ, List, [], ◌∷◌, length, map, sum_by, take}
use Rattle.act_super.specs.declared.entry.Entry.{Entry}
use Rattle.act_super.specs.Histories.{state_from}
use Rattle.act_super.specs.Joins.{join}
use Rattle.act_script.specs.Turns.{Turn}
use Rattle.act_script.specs.Turns.Turn.{Asks, Joins}
use Rattle.act_script.specs.History.{updates_of}
use Rattle.act_script.specs.Text.{reply_text}
use Rattle.act_script.specs.declared.segment.Batch.{Batch}
use Rattle.act_probe.specs.Reads.{reads_of}
use Rattle.act_index.specs.Answers.{Answered, pair_of}
use Rattle.act_join.specs.Held.{Held, after_asked, accepted_in}
use Rattle.act_join.specs.Replies.{added_by}
use Rattle.act_join.specs.declared.reply.Reply.{Reply}
use Rattle.act_join.specs.declared.reply.Reply.TheVariants as reply

-- the answer is that over the zones after the first so many of the entries that were made since these zones were held, its
-- version says so, and `after` counts the updates
pub record IsAnswered (held : Held) (made : List Entry) (batch : Batch) (after : ℕ) (answer : Answered) : Type 0 where
  pub count : ℕ
  pub within : count ≤ length made
  pub version : answer.version ≡ held.version + count
  pub updates : after ≡ held.updates + updates_of (take count made)
  pub pairs : answer.pairs ≡ map pair_of (join batch.layers (state_from held.settings held.state (take count made)).zones batch.points)
  pub few : answer.reads ≤ sum_by (λ p. reads_of held.settings (state_from held.settings held.state (take count made)) p batch.layers) batch.points

-- each turn has its reply, where `held` was held and these entries are made since then, and `now` is held before the first of the turns
abbrev pub AreReplies : Held → List Entry → Held → List Turn → List Reply → Type 0
AreReplies held made now [] [] = Unit {0}
AreReplies held made now (Asks sample asked ∷ turns) (reply.Update added line ∷ replies) =
    (line ≡ reply_text now.settings now.state sample asked) × (added ≡ added_by now.settings now.state asked)
    × AreReplies held made (after_asked now sample asked) turns replies
AreReplies held made now (Joins batch ∷ turns) (reply.Batch answered after answer ∷ replies) =
    (answered ≡ batch) × IsAnswered held made batch after answer × AreReplies held made now turns replies
AreReplies held made now (Joins batch ∷ turns) (reply.Update added line ∷ replies) = ⊥
AreReplies held made now (Asks sample asked ∷ turns) (reply.Batch answered after answer ∷ replies) = ⊥
AreReplies held made now [] (first ∷ replies) = ⊥
AreReplies held made now (first ∷ turns) [] = ⊥

-- the replies to the turns of a segment
abbrev pub Solves : Held → List Turn → List Reply → Type 0
Solves held turns replies = AreReplies held (accepted_in held turns) held turns replies
