-- Replies to turns are a text of the definitions, with fair counts.
use Rattle.std.proofs.Common.{◌≡◌, ℕ, suc, ◌+◌, ◌≤◌, List, [], ◌∷◌, ◌++◌, drop, map, take, length, refl, arith, ap, sym, ◌∙◌, append_assoc}
use Rattle.std.specs.Prelude.{if◌then◌else◌}
use Rattle.std.specs.List.{AllByRecursion}
use Rattle.std.proofs.lemmas.List.Elements.{All-from_recursion}
use Rattle.std.proofs.lemmas.List.Sums.{sum_by-cons}
use Rattle.std.proofs.lemmas.List.{take-append-drop}
use Rattle.act_super.specs.declared.entry.Entry.{Entry}
use Rattle.act_super.specs.declared.entry.State.{State}
use Rattle.act_super.specs.declared.entry.Zone.{Zone}
use Rattle.act_super.specs.Histories.{state_from, zones_after}
use Rattle.act_super.specs.Joins.{Hit, join}
use Rattle.act_super.specs.States.{nothing}
use Rattle.act_index.specs.Answers.{Answered, pair_of}
use Rattle.act_script.specs.History.{decided, entry_of, updates_of}
use Rattle.act_script.specs.Text.{batch_text, pair_text, reply_text, turns_text}
use Rattle.act_script.specs.Turns.{Turn}
use Rattle.act_script.specs.Turns.Turn.{Asks, Joins}
use Rattle.act_script.specs.declared.segment.Batch.{Batch}
use Rattle.act_join.specs.Held.{Held, IsReplyTo, LeadsTo, accepted_in, after_asked, is_join, joins_in}
use Rattle.act_join.specs.Replies.{head_text, hits_text, pairs_text, replies_text}
use Rattle.act_join.specs.Solved.{AreReplies, IsAnswered, Solves}
use Rattle.act_join.specs.declared.reply.Reply.{Reply}
use Rattle.act_join.specs.declared.reply.Reply.TheVariants as reply
use Rattle.act_join.proofs.HeldFacts.{state_more, updates_add, zones_here}

-- the counts that replies say
abbrev afters : List Reply → List ℕ
afters [] = []
afters (reply.Update added line ∷ replies) = afters replies
afters (reply.Batch batch after answer ∷ replies) = after ∷ afters replies

-- the lines of pairs
pairs_are : (ids : List ℕ) (hits : List Hit) → pairs_text ids (map pair_of hits) ≡ hits_text ids hits
pairs_are ids [] = refl
pairs_are ids (hit ∷ hits) = ap (λ z. pair_text ids hit ++ z) (pairs_are ids hits)

-- the zones after as many updates as an answer says
zones_then : (held : Held) (made before later : List Entry) (count : ℕ) → LeadsTo held before
    → zones_after (held.updates + updates_of (take count made)) (before ++ (made ++ later)) ≡ (state_from held.settings held.state (take count made)).zones
zones_then held made before later count leads =
    let front = take count made in
    let rest = drop count made in
    let there : Held = record { settings = held.settings; state = state_from held.settings held.state front; version = 0; updates = held.updates + updates_of front } in
    let on : LeadsTo there (before ++ front) = record {
      state = state_more held.settings nothing before front ∙ ap (λ (z : State). state_from held.settings z front) leads.state;
      updates = updates_add before front ∙ ap (λ n. n + updates_of front) leads.updates;
    } in
    let seam : before ++ (made ++ later) ≡ (before ++ front) ++ (rest ++ later) =
    ap (λ z. before ++ (z ++ later)) (sym (take-append-drop count made)) ∙ ap (λ z. before ++ z) (append_assoc front rest later) ∙ sym (append_assoc before front (rest ++ later)) in
    zones_here there (before ++ front) (rest ++ later) (before ++ (made ++ later)) on seam

batch_is : (held : Held) (made before later : List Entry) (batch : Batch) (after : ℕ) (answer : Answered) → LeadsTo held before → IsAnswered held made batch after answer
    → head_text after batch ++ pairs_text batch.ids answer.pairs ≡ batch_text (before ++ (made ++ later)) after batch
batch_is held made before later batch after answer leads is =
    let zones : zones_after after (before ++ (made ++ later)) ≡ (state_from held.settings held.state (take is.count made)).zones =
    ap (λ n. zones_after n (before ++ (made ++ later))) is.updates ∙ zones_then held made before later is.count leads in
    ap (λ z. head_text after batch ++ pairs_text batch.ids z) is.pairs
    ∙ ap (λ z. head_text after batch ++ z) (pairs_are batch.ids (join batch.layers (state_from held.settings held.state (take is.count made)).zones batch.points))
    ∙ ap (λ (z : List Zone). head_text after batch ++ hits_text batch.ids (join batch.layers z batch.points)) (sym zones)

-- the text of the replies
text_is : (held : Held) (made before later : List Entry) (now : Held) (turns : List Turn) (replies : List Reply) → LeadsTo held before → held.settings ≡ now.settings
    → AreReplies held made now turns replies → replies_text replies ≡ turns_text held.settings (before ++ (made ++ later)) now.state turns (afters replies)
text_is held made before later now [] [] leads same are = refl
text_is held made before later now [] (first ∷ replies) leads same are = absurd are
text_is held made before later now (Asks sample asked ∷ turns) [] leads same are = absurd are
text_is held made before later now (Joins batch ∷ turns) [] leads same are = absurd are
text_is held made before later now (Asks sample asked ∷ turns) (reply.Batch answered after answer ∷ replies) leads same are = absurd are
text_is held made before later now (Joins batch ∷ turns) (reply.Update added line ∷ replies) leads same are = absurd are
text_is held made before later now (Asks sample asked ∷ turns) (reply.Update added line ∷ replies) leads same are =
    let history = before ++ (made ++ later) in
    let rest = text_is held made before later (after_asked now sample asked) turns replies leads same are.2 in
    ap (λ z. z ++ replies_text replies) are.0
    ∙ ap (λ z. reply_text now.settings now.state sample asked ++ z) rest
    ∙ (λ i. reply_text (sym same i) now.state sample asked
    ++ turns_text held.settings history (decided (sym same i) now.state (entry_of (sym same i) now.state sample asked)) turns (afters replies))
text_is held made before later now (Joins batch ∷ turns) (reply.Batch answered after answer ∷ replies) leads same are =
    let history = before ++ (made ++ later) in
    let rest = text_is held made before later now turns replies leads same are.2 in
    ap (λ (z : Batch). (head_text after z ++ pairs_text z.ids answer.pairs) ++ replies_text replies) are.0
    ∙ ap (λ z. z ++ replies_text replies) (batch_is held made before later batch after answer leads are.1)
    ∙ ap (λ z. batch_text history after batch ++ z) rest

-- one count for each batch, and each is fair
counts_each : (held : Held) (made : List Entry) (now : Held) (turns : List Turn) (replies : List Reply) → AreReplies held made now turns replies → length (afters replies) ≡ joins_in turns
counts_each held made now [] [] are = refl
counts_each held made now [] (first ∷ replies) are = absurd are
counts_each held made now (Asks sample asked ∷ turns) [] are = absurd are
counts_each held made now (Joins batch ∷ turns) [] are = absurd are
counts_each held made now (Asks sample asked ∷ turns) (reply.Batch answered after answer ∷ replies) are = absurd are
counts_each held made now (Joins batch ∷ turns) (reply.Update added line ∷ replies) are = absurd are
counts_each held made now (Asks sample asked ∷ turns) (reply.Update added line ∷ replies) are = counts_each held made (after_asked now sample asked) turns replies are.2
counts_each held made now (Joins batch ∷ turns) (reply.Batch answered after answer ∷ replies) are =
    let one : suc (joins_in turns) ≡ 1 + joins_in turns = omega arith in
    ap suc (counts_each held made now turns replies are.2) ∙ one ∙ sym (sum_by-cons (λ t. if is_join t then 1 else 0) (Joins batch) turns)

fewer : (k : ℕ) (es : List Entry) → updates_of (take k es) ≤ updates_of es
fewer k es =
    let both = updates_add (take k es) (drop k es) in
    let all = ap updates_of (take-append-drop k es) in omega (arith, both, all)

counts_fair : (held : Held) (made : List Entry) (now : Held) (turns : List Turn) (replies : List Reply) → AreReplies held made now turns replies
    → AllByRecursion (λ count. (held.updates ≤ count) × (count ≤ held.updates + updates_of made)) (afters replies)
counts_fair held made now [] [] are = tt
counts_fair held made now [] (first ∷ replies) are = absurd are
counts_fair held made now (Asks sample asked ∷ turns) [] are = absurd are
counts_fair held made now (Joins batch ∷ turns) [] are = absurd are
counts_fair held made now (Asks sample asked ∷ turns) (reply.Batch answered after answer ∷ replies) are = absurd are
counts_fair held made now (Joins batch ∷ turns) (reply.Update added line ∷ replies) are = absurd are
counts_fair held made now (Asks sample asked ∷ turns) (reply.Update added line ∷ replies) are = counts_fair held made (after_asked now sample asked) turns replies are.2
counts_fair held made now (Joins batch ∷ turns) (reply.Batch answered after answer ∷ replies) are =
    let is = are.1 in
    let most = fewer is.count made in
    ((omega (arith, is.updates), omega (arith, is.updates, most)), counts_fair held made now turns replies are.2)

-- the replies that solve a segment are a reply to it
pub solved_reply : (held : Held) (turns : List Turn) (replies : List Reply) → Solves held turns replies → IsReplyTo held turns (replies_text replies)
solved_reply held turns replies are = record {
  counts = afters replies;
  fair = record {
    one_each = counts_each held (accepted_in held turns) held turns replies are;
    fair = All-from_recursion _ _ (counts_fair held (accepted_in held turns) held turns replies are);
  };
  is = λ before later leads. text_is held (accepted_in held turns) before later held turns replies leads refl are;
}
