-- Answers that are put together in the order of a segment's turns.
use Rattle.std.specs.Prelude.{◌≡◌, ◌+◌, ◌-◌, ◌++◌, ℕ, Bool, List, [], ◌∷◌, map, slice_index, take}
use Rattle.act_super.specs.declared.entry.Entry.{Entry}
use Rattle.act_index.specs.Answers.{Answered}
use Rattle.act_script.specs.History.{updates_of}
use Rattle.act_script.specs.Text.{reply_text}
use Rattle.act_script.specs.Turns.{Turn}
use Rattle.act_script.specs.Turns.Turn.{Asks, Joins}
use Rattle.act_script.specs.declared.segment.Batch.{Batch}
use Rattle.act_join.specs.Held.{Held, after_asked, is_join}
use Rattle.act_join.specs.Replies.{added_by}
use Rattle.act_join.specs.Solved.{AreReplies, IsAnswered}
use Rattle.act_join.specs.Working.{counts_from}
use Rattle.act_join.specs.declared.decide.Decided.{Decided}
use Rattle.act_join.specs.declared.reply.Reply.{Reply}
use Rattle.act_join.specs.declared.reply.Reply.TheVariants as reply

-- the batches among turns
abbrev pub joined : List Turn → List Batch
joined [] = []
joined (Asks sample asked ∷ turns) = joined turns
joined (Joins batch ∷ turns) = batch ∷ joined turns

-- how many updates the history has at a version, where `held` was held before these entries
abbrev pub count_of : Held → List Entry → ℕ → ℕ
count_of held made version = held.updates + updates_of (take (version - held.version) made)

-- each batch is answered over the zones of a version
abbrev pub AreAnswered : Held → List Entry → List Batch → List Answered → Type 0
AreAnswered held made [] [] = Unit {0}
AreAnswered held made (batch ∷ batches) (answer ∷ answers) = IsAnswered held made batch (count_of held made answer.version) answer × AreAnswered held made batches answers
AreAnswered held made [] (answer ∷ answers) = ⊥
AreAnswered held made (batch ∷ batches) [] = ⊥

-- each update among the turns has its line and its key
abbrev pub AreTold : Held → List Turn → List Decided → Type 0
AreTold now [] decided = Unit {0}
AreTold now (Joins batch ∷ turns) decided = AreTold now turns decided
AreTold now (Asks sample asked ∷ turns) (says ∷ decided) =
    (says.line ≡ reply_text now.settings now.state sample asked) × (says.added ≡ added_by now.settings now.state asked)
    × AreTold (after_asked now sample asked) turns decided
AreTold now (Asks sample asked ∷ turns) [] = ⊥

-- the replies so far, and what is left for the other turns
pub record IsMerging (held : Held) (made : List Entry) (turns : List Turn) (order : List Bool) (decided : List Decided) (batches : List Batch)
    (answers : List Answered) (counts : List ℕ) (first : ℕ) (replies : List Reply) : Type 0 where
  pub now : Held
  pub rest : List Turn
  pub order_is : order ≡ map is_join rest
  pub told : AreTold now rest decided
  pub batches_are : batches ≡ joined rest
  pub answered : AreAnswered held made batches answers
  pub counted : counts ≡ counts_from held.updates made
  pub begun : first ≡ held.version
  pub says : (more : List Reply) → AreReplies held made now rest more → AreReplies held made held turns (replies ++ more)

-- the next reply is that to a batch, or that to an update
abbrev pub TakesBatch : List ℕ → ℕ → List Batch → List Batch → List Answered → List Answered → Reply → Type 0
TakesBatch counts first old new before after (reply.Batch batch count answer) =
    (old ≡ batch ∷ new) × (before ≡ answer ∷ after) × (count ≡ slice_index counts (answer.version - first))
TakesBatch counts first old new before after (reply.Update added line) = ⊥

abbrev pub TakesUpdate : List Decided → List Decided → Reply → Type 0
TakesUpdate old new (reply.Update added line) = old ≡ record { added = added; line = line } ∷ new
TakesUpdate old new (reply.Batch batch count answer) = ⊥
