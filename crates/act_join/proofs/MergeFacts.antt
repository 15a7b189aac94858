-- Replies in the order of the turns.
use Rattle.std.proofs.Common.{◌≡◌, ℕ, ◌-◌, ◌≤◌, Bool, true, false, List, [], ◌∷◌, ◌++◌, map, drop, length, get_or, refl, arith, ap, sym, ◌∙◌, subst, append_assoc, append-nil}
use Rattle.std.specs.Prelude.{slice_index}
use Rattle.act_grid.specs.declared.Point.{Point}
use Rattle.act_grid.specs.declared.Settings.{Settings}
use Rattle.act_super.specs.declared.entry.Entry.{Entry}
use Rattle.act_super.specs.declared.entry.State.{State}
use Rattle.act_index.specs.Answers.{Answered}
use Rattle.act_script.specs.History.{accepted_from, decided, entry_of, made_by}
use Rattle.act_script.specs.Segments.{is_batch}
use Rattle.act_script.specs.Turns.{Turn, left_after, left_by_update, turns_of}
use Rattle.act_script.specs.Turns.Turn.{Asks, Joins}
use Rattle.act_script.specs.declared.segment.Batch.{Batch}
use Rattle.act_script.specs.declared.segment.Step.{Step}
use Rattle.act_script.specs.declared.segment.Step.TheVariants as step
use Rattle.act_join.specs.Held.{Held, after_asked, is_join}
use Rattle.act_join.specs.Solved.{AreReplies, IsAnswered}
use Rattle.act_join.specs.Working.{AreDecided, asks_of, batches_among, counts_from, left_from, updates_among}
use Rattle.act_join.specs.Merging.{AreAnswered, AreTold, IsMerging, TakesBatch, TakesUpdate, count_of, joined}
use Rattle.act_join.specs.declared.decide.Decided.{Decided}
use Rattle.act_join.specs.declared.reply.Reply.{Reply}
use Rattle.act_join.specs.declared.reply.Reply.TheVariants as reply
use Rattle.act_join.proofs.UpdatingFacts.{count_at}

-- ---- the turns of steps

pub order_are : (points : List Point) (steps : List Step) → map is_batch steps ≡ map is_join (turns_of points steps)
order_are points [] = refl
order_are points (step.Update asked ∷ steps) = ap (λ z. false ∷ z) (order_are (left_by_update points asked) steps)
order_are points (step.Batch batch ∷ steps) = ap (λ z. true ∷ z) (order_are points steps)

pub joined_are : (points : List Point) (steps : List Step) → batches_among steps ≡ joined (turns_of points steps)
joined_are points [] = refl
joined_are points (step.Update asked ∷ steps) = joined_are (left_by_update points asked) steps
joined_are points (step.Batch batch ∷ steps) = ap (λ z. batch ∷ z) (joined_are points steps)

pub asks_are : (settings : Settings) (state : State) (points : List Point) (steps : List Step)
    → accepted_from settings state (asks_of points (updates_among steps)) ≡ accepted_from settings state (turns_of points steps)
asks_are settings state points [] = refl
asks_are settings state points (step.Update asked ∷ steps) =
    ap (λ z. made_by settings state (Asks points asked) ++ z) (asks_are settings (decided settings state (entry_of settings state points asked)) (left_by_update points asked) steps)
asks_are settings state points (step.Batch batch ∷ steps) = asks_are settings state points steps

pub left_are : (points : List Point) (steps : List Step) → left_from points (updates_among steps) ≡ left_after points steps
left_are points [] = refl
left_are points (step.Update asked ∷ steps) = left_are (left_by_update points asked) steps
left_are points (step.Batch batch ∷ steps) = left_are points steps

pub told_are : (now : Held) (points : List Point) (steps : List Step) (says : List Decided) → AreDecided now.settings now.state points (updates_among steps) says
    → AreTold now (turns_of points steps) says
told_are now points [] says are = tt
told_are now points (step.Update asked ∷ steps) [] are = absurd are
told_are now points (step.Update asked ∷ steps) (d ∷ says) are = (are.0, are.1, told_are (after_asked now points asked) (left_by_update points asked) steps says are.2)
told_are now points (step.Batch batch ∷ steps) says are = told_are now points steps says are

-- ---- one reply more

counted_is : (held : Held) (made : List Entry) (batch : Batch) (answer : Answered) (counts : List ℕ) (first : ℕ) → counts ≡ counts_from held.updates made → first ≡ held.version
    → IsAnswered held made batch (count_of held made answer.version) answer → slice_index counts (answer.version - first) ≡ count_of held made answer.version
counted_is held made batch answer counts first counted begun is =
    let within : answer.version - held.version ≤ length made = omega (arith, is.version, is.within) in
    (λ i. slice_index (counted i) (answer.version - begun i)) ∙ count_at held.updates made (answer.version - held.version) within

module _ (held : Held) (made : List Entry) (turns : List Turn) (order : List Bool) (counts : List ℕ) (first : ℕ) (replies : List Reply) where
  pub merging_batch : (says : List Decided) (old new : List Batch) (before after : List Answered) (one : Reply)
      → IsMerging held made turns (true ∷ order) says old before counts first replies → TakesBatch counts first old new before after one
      → IsMerging held made turns order says new after counts first (replies ++ one ∷ [])
  merging_batch says old new before after (reply.Update added line) m t = absurd t
  merging_batch says old new before after (reply.Batch batch count answer) m t =
      go m.rest m.order_is m.told (sym t.0 ∙ m.batches_are) (subst (λ (z : List Batch × List Answered). AreAnswered held made z.0 z.1) (λ i. (t.0 i, t.1 i)) m.answered) m.says
    where
      go : (rest : List Turn) → true ∷ order ≡ map is_join rest → AreTold m.now rest says → batch ∷ new ≡ joined rest → AreAnswered held made (batch ∷ new) (answer ∷ after)
          → ((more : List Reply) → AreReplies held made m.now rest more → AreReplies held made held turns (replies ++ more))
          → IsMerging held made turns order says new after counts first (replies ++ reply.Batch batch count answer ∷ [])
      go [] ordered told are answered on = absurd (cc)
      go (Asks sample asked ∷ rest) ordered told are answered on = let bad : true ≡ false = ap (λ z. get_or z 0 true) ordered in absurd (cc)
      go (Joins joins ∷ rest) ordered told are answered on =
          let same : batch ≡ joins = ap (λ z. get_or z 0 batch) are in
          let counts_are : count ≡ count_of held made answer.version = t.2 ∙ counted_is held made batch answer counts first m.counted m.begun answered.0 in
          record {
            now = m.now;
            rest = rest;
            order_is = ap (drop 1) ordered;
            told = told;
            batches_are = ap (drop 1) are;
            answered = answered.1;
            counted = m.counted;
            begun = m.begun;
            says = λ more fits.
                subst (AreReplies held made held turns) (sym (append_assoc replies (reply.Batch batch count answer ∷ []) more))
                (on (reply.Batch batch count answer ∷ more)
                (same, subst (λ (z : Batch × ℕ). IsAnswered held made z.0 z.1 answer) (λ i. (same i, sym counts_are i)) answered.0, fits));
          }

  pub merging_update : (old new : List Decided) (batches : List Batch) (answers : List Answered) (one : Reply)
      → IsMerging held made turns (false ∷ order) old batches answers counts first replies → TakesUpdate old new one
      → IsMerging held made turns order new batches answers counts first (replies ++ one ∷ [])
  merging_update old new batches answers (reply.Batch batch count answer) m t = absurd t
  merging_update old new batches answers (reply.Update added line) m t = go m.rest m.order_is (subst (AreTold m.now m.rest) t m.told) m.batches_are m.says
    where
      go : (rest : List Turn) → false ∷ order ≡ map is_join rest → AreTold m.now rest (record { added = added; line = line } ∷ new) → batches ≡ joined rest
          → ((more : List Reply) → AreReplies held made m.now rest more → AreReplies held made held turns (replies ++ more))
          → IsMerging held made turns order new batches answers counts first (replies ++ reply.Update added line ∷ [])
      go [] ordered told are on = absurd (cc)
      go (Joins joins ∷ rest) ordered told are on = let bad : false ≡ true = ap (λ z. get_or z 0 true) ordered in absurd (cc)
      go (Asks sample asked ∷ rest) ordered told are on = record {
        now = after_asked m.now sample asked;
        rest = rest;
        order_is = ap (drop 1) ordered;
        told = told.2;
        batches_are = are;
        answered = m.answered;
        counted = m.counted;
        begun = m.begun;
        says = λ more fits.
            subst (AreReplies held made held turns) (sym (append_assoc replies (reply.Update added line ∷ []) more))
            (on (reply.Update added line ∷ more) (told.0, told.1, fits));
      }

pub merging_done : (held : Held) (made : List Entry) (turns : List Turn) (says : List Decided) (batches : List Batch) (answers : List Answered) (counts : List ℕ) (first : ℕ)
    (replies : List Reply) → IsMerging held made turns [] says batches answers counts first replies → AreReplies held made held turns replies
merging_done held made turns says batches answers counts first replies m = go m.rest m.order_is m.says
  where
    go : (rest : List Turn) → [] ≡ map is_join rest → ((more : List Reply) → AreReplies held made m.now rest more → AreReplies held made held turns (replies ++ more)) → AreReplies held made held turns replies
    go [] ordered on = subst (AreReplies held made held turns) (append-nil replies) (on [] tt)
    go (t ∷ rest) ordered on = absurd (cc)
