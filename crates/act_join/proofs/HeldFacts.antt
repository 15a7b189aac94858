-- Turns that are done in order have the text of the definitions, with fair counts.
use Rattle.std.proofs.Common.{◌≡◌, ℕ, suc, ◌+◌, ◌≤◌, List, [], ◌∷◌, ◌++◌, Bool, true, false, filter, take, length, refl, arith, ap, sym, ◌∙◌, append_assoc, append-nil, length-append}
use lib.Seq.{take-append_seam}
use Rattle.std.specs.List.{AllByRecursion}
use Rattle.std.specs.Prelude.{if◌then◌else◌}
use Rattle.std.proofs.lemmas.List.Elements.{All-from_recursion}
use Rattle.std.proofs.lemmas.List.Sums.{sum_by-cons}
use Rattle.act_grid.specs.declared.Point.{Point}
use Rattle.act_grid.specs.declared.Settings.{Settings}
use Rattle.act_super.specs.declared.entry.State.{State}
use Rattle.act_super.specs.declared.entry.Entry.{Entry}
use Rattle.act_super.specs.declared.entry.Entry.TheVariants as entry
use Rattle.act_super.specs.States.{after, nothing}
use Rattle.act_super.specs.Histories.{is_update, state_from, state_of, zones_after, zones_of}
use Rattle.act_super.proofs.HistoryFacts.{state_has_zones, training_changes_no_zone}
use Rattle.act_script.specs.declared.segment.Update.{Update}
use Rattle.act_script.specs.Turns.{Turn}
use Rattle.act_script.specs.Turns.Turn.{Asks, Joins}
use Rattle.act_script.specs.History.{entry_of, is_made, made_by, updates_of}
use Rattle.act_join.specs.Replies.{answer_text}
use Rattle.act_script.specs.Text.{batch_text, reply_text, turns_text}
use Rattle.act_join.specs.Held.{Held, IsReplyTo, LeadsTo, accepted_in, after_asked, after_turn, after_turns, held_from, is_join, joins_in, own_counts, own_text}

-- the updates of two parts
updates_more : (xs ys : List Entry) → filter is_update (xs ++ ys) ≡ filter is_update xs ++ filter is_update ys
updates_more [] ys = refl
updates_more (entry.Add key shape ∷ xs) ys = ap (λ es. entry.Add key shape ∷ es) (updates_more xs ys)
updates_more (entry.DropZone key ∷ xs) ys = ap (λ es. entry.DropZone key ∷ es) (updates_more xs ys)
updates_more (entry.Replace key shape ∷ xs) ys = ap (λ es. entry.Replace key shape ∷ es) (updates_more xs ys)
updates_more (entry.Train cells ∷ xs) ys = updates_more xs ys

pub updates_add : (xs ys : List Entry) → updates_of (xs ++ ys) ≡ updates_of xs + updates_of ys
updates_add xs ys = ap length (updates_more xs ys) ∙ length-append (filter is_update xs) (filter is_update ys)

-- what is held after a turn, and after those behind it
counted : (n : ℕ) (xs ys : List Entry) → (n + updates_of xs) + updates_of ys ≡ n + updates_of (xs ++ ys)
counted n xs ys = let both : updates_of (xs ++ ys) ≡ updates_of xs + updates_of ys = updates_add xs ys in omega (arith, both)

longer_by : (n : ℕ) (xs ys : List Entry) → (n + length xs) + length ys ≡ n + length (xs ++ ys)
longer_by n xs ys = let both = length-append xs ys in omega (arith, both)

pub turns_step : (held : Held) (first : Turn) (turns : List Turn) → after_turns (after_turn held first) turns ≡ after_turns held (first ∷ turns)
turns_step held (Joins batch) turns = refl
turns_step held (Asks sample asked) turns =
    let made = made_by held.settings held.state (Asks sample asked) in
    let rest = accepted_in (after_asked held sample asked) turns in
    λ i. record (after_turns (after_asked held sample asked) turns) { version = longer_by held.version made rest i; updates = counted held.updates made rest i }

pub held_is : (held : Held) (turns : List Turn) → held_from held turns ≡ after_turns held turns
held_is held [] =
    let none : held.updates ≡ held.updates + 0 = omega arith in
    let same : held.version ≡ held.version + 0 = omega arith in
    λ i. record held { version = same i; updates = none i }
held_is held (first ∷ turns) = held_is (after_turn held first) turns ∙ turns_step held first turns

-- the state after more entries
pub state_more : (settings : Settings) (state : State) (xs ys : List Entry) → state_from settings state (xs ++ ys) ≡ state_from settings (state_from settings state xs) ys
state_more settings state [] ys = refl
state_more settings state (x ∷ xs) ys = state_more settings (after settings state x) xs ys

-- a history goes on with an update where it is made
state_on : (b : Bool) (settings : Settings) (state : State) (asked : Entry) (before : List Entry) → state_of settings before ≡ state
    → state_of settings (before ++ (if b then asked ∷ [] else [])) ≡ (if b then after settings state asked else state)
state_on true settings state asked before at = state_more settings nothing before (asked ∷ []) ∙ ap (λ s. after settings s asked) at
state_on false settings state asked before at = rw (append-nil before) at

pub leads_on : (held : Held) (sample : List Point) (asked : Update) (before : List Entry) → LeadsTo held before
    → LeadsTo (after_asked held sample asked) (before ++ made_by held.settings held.state (Asks sample asked))
leads_on held sample asked before leads =
    let made = made_by held.settings held.state (Asks sample asked) in
    let e = entry_of held.settings held.state sample asked in
    record {
      state = state_on (is_made held.settings held.state e) held.settings held.state e before leads.state;
      updates = updates_add before made ∙ ap (λ n. n + updates_of made) leads.updates;
    }

-- the zones after as many updates as lead here
pub zones_here : (held : Held) (before rest history : List Entry) → LeadsTo held before → history ≡ before ++ rest → zones_after held.updates history ≡ held.state.zones
zones_here held before rest history leads same =
    let front = filter is_update before in
    let parts : filter is_update history ≡ front ++ filter is_update rest = ap (filter is_update) same ∙ updates_more before rest in
    let seam : take held.updates (filter is_update history) ≡ front =
    ap (take held.updates) parts ∙ ap (λ n. take n (front ++ filter is_update rest)) (sym leads.updates) ∙ take-append_seam front (filter is_update rest) in
    ap zones_of seam ∙ sym (training_changes_no_zone before) ∙ sym (state_has_zones held.settings before) ∙ ap (λ s. s.zones) leads.state

-- the text of the turns in such a history
own_is : (held : Held) (turns : List Turn) (before later history : List Entry) → LeadsTo held before → history ≡ before ++ (accepted_in held turns ++ later)
    → own_text held turns ≡ turns_text held.settings history held.state turns (own_counts held turns)
own_is held [] before later history leads same = refl
own_is held (Asks sample asked ∷ turns) before later history leads same =
    let made = made_by held.settings held.state (Asks sample asked) in
    let next = after_asked held sample asked in
    let rest = accepted_in next turns in
    ap (λ text. reply_text held.settings held.state sample asked ++ text)
    (own_is next turns (before ++ made) later history (leads_on held sample asked before leads)
    (same ∙ ap (λ xs. before ++ xs) (append_assoc made rest later) ∙ sym (append_assoc before made (rest ++ later))))
own_is held (Joins batch ∷ turns) before later history leads same =
    let zones : zones_after held.updates history ≡ held.state.zones = zones_here held before (accepted_in held turns ++ later) history leads same in
    ap (λ zs. answer_text held.updates zs batch ++ own_text held turns) (sym zones)
    ∙ ap (λ text. batch_text history held.updates batch ++ text) (own_is held turns before later history leads same)

-- one count for each batch
pub counts_each : (held : Held) (turns : List Turn) → length (own_counts held turns) ≡ joins_in turns
counts_each held [] = refl
counts_each held (Asks sample asked ∷ turns) = counts_each (after_asked held sample asked) turns
counts_each held (Joins batch ∷ turns) =
    let one : suc (joins_in turns) ≡ 1 + joins_in turns = omega arith in
    ap suc (counts_each held turns) ∙ one ∙ sym (sum_by-cons (λ t. if is_join t then 1 else 0) (Joins batch) turns)

-- the counts never fall
grows : (held : Held) (first : Turn) → held.updates ≤ (after_turn held first).updates
grows held (Joins batch) = omega arith
grows held (Asks sample asked) = omega arith

counts_fair : (held : Held) (turns : List Turn) (low high : ℕ) → low ≤ held.updates → (after_turns held turns).updates ≤ high → AllByRecursion (λ count. (low ≤ count) × (count ≤ high)) (own_counts held turns)
counts_fair held [] low high below above = tt
counts_fair held (Asks sample asked ∷ turns) low high below above =
    let more = grows held (Asks sample asked) in
    let end = ap (λ h. h.updates) (turns_step held (Asks sample asked) turns) in
    counts_fair (after_asked held sample asked) turns low high (omega (arith, below, more)) (omega (arith, end, above))
counts_fair held (Joins batch ∷ turns) low high below above =
    ((below, omega (arith, above)), counts_fair held turns low high below above)

pub own_reply : (held : Held) (turns : List Turn) → IsReplyTo held turns (own_text held turns)
own_reply held turns = record {
  counts = own_counts held turns;
  fair = record { one_each = counts_each held turns; fair = All-from_recursion _ _ (counts_fair held turns held.updates (after_turns held turns).updates (omega arith) (omega arith)) };
  is = λ before later leads. own_is held turns before later _ leads refl;
}
