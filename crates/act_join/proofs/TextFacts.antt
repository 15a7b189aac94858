-- Turns in two parts: their entries, what is held after them, and their text.
use Rattle.std.proofs.Common.{◌≡◌, ℕ, suc, ◌+◌, List, [], ◌∷◌, ◌++◌, length, refl, arith, ap, sym, ◌∙◌, append_assoc}
use Rattle.std.specs.Prelude.{if◌then◌else◌}
use Rattle.std.proofs.lemmas.List.Sums.{sum_by-append, sum_by-cons}
use Rattle.act_grid.specs.declared.Point.{Point}
use Rattle.act_grid.specs.declared.Settings.{Settings}
use Rattle.act_super.specs.declared.entry.State.{State}
use Rattle.act_super.specs.declared.entry.Entry.{Entry}
use Rattle.act_script.specs.Segments.{batches_in, is_batch}
use Rattle.act_script.specs.declared.segment.Batch.{Batch}
use Rattle.act_script.specs.declared.segment.Step.{Step}
use Rattle.act_script.specs.declared.segment.Step.TheVariants as step
use Rattle.act_script.specs.Turns.{Turn, left_by_update, points_after, points_from, turns_from, turns_of}
use Rattle.act_script.specs.Turns.Turn.{Asks, Joins}
use Rattle.act_script.specs.History.{accepted_from, decided, entry_of, made_by, state_by, state_decided}
use Rattle.act_script.specs.Text.{batch_text, reply_text, turns_text}
use Rattle.act_join.specs.Held.{Held, after_turn, after_turns, held_from, is_join, joins_in}
use Rattle.act_join.proofs.HeldFacts.{held_is}

pub accepted_more : (settings : Settings) (state : State) (xs ys : List Turn)
    → accepted_from settings state (xs ++ ys) ≡ accepted_from settings state xs ++ accepted_from settings (state_decided settings state xs) ys
accepted_more settings state [] ys = refl
accepted_more settings state (x ∷ xs) ys =
    let here : List Entry = made_by settings state x in
    let next = state_by settings state x in
    ap (λ es. here ++ es) (accepted_more settings next xs ys)
    ∙ sym (append_assoc here (accepted_from settings next xs) (accepted_from settings (state_decided settings next xs) ys))

held_more : (held : Held) (xs ys : List Turn) → held_from held (xs ++ ys) ≡ held_from (held_from held xs) ys
held_more held [] ys = refl
held_more held (x ∷ xs) ys = held_more (after_turn held x) xs ys

-- what is held after both parts
pub after_more : (held : Held) (xs ys : List Turn) → after_turns held (xs ++ ys) ≡ after_turns (after_turns held xs) ys
after_more held xs ys =
    sym (held_is held (xs ++ ys)) ∙ held_more held xs ys ∙ ap (λ h. held_from h ys) (held_is held xs) ∙ held_is (after_turns held xs) ys

-- one batch more
joins_more : (batch : Batch) (xs : List Turn) → joins_in (Joins batch ∷ xs) ≡ suc (joins_in xs)
joins_more batch xs =
    let one : suc (joins_in xs) ≡ 1 + joins_in xs = omega arith in
    sum_by-cons (λ t. if is_join t then 1 else 0) (Joins batch) xs ∙ sym one

batches_more : (batch : Batch) (xs : List Step) → batches_in (step.Batch batch ∷ xs) ≡ suc (batches_in xs)
batches_more batch xs =
    let one : suc (batches_in xs) ≡ 1 + batches_in xs = omega arith in
    sum_by-cons (λ s. if is_batch s then 1 else 0) (step.Batch batch) xs ∙ sym one

pub joins_both : (xs ys : List Turn) → joins_in (xs ++ ys) ≡ joins_in xs + joins_in ys
joins_both xs ys = sum_by-append (λ t. if is_join t then 1 else 0) xs ys

-- the batches among the turns of steps
pub joins_are : (points : List Point) (steps : List Step) → joins_in (turns_of points steps) ≡ batches_in steps
joins_are points [] = refl
joins_are points (step.Update asked ∷ steps) = joins_are (left_by_update points asked) steps
joins_are points (step.Batch batch ∷ steps) = joins_more batch (turns_of points steps) ∙ ap suc (joins_are points steps) ∙ sym (batches_more batch steps)

-- the turns of segments in two parts, and the points that are there after them
pub turns_more : (points : List Point) (xs ys : List (List Step)) → turns_from points (xs ++ ys) ≡ turns_from points xs ++ turns_from (points_from points xs) ys
turns_more points [] ys = refl
turns_more points (x ∷ xs) ys =
    let next = points_after points x in
    ap (λ turns. turns_of points x ++ turns) (turns_more next xs ys) ∙ sym (append_assoc (turns_of points x) (turns_from next xs) (turns_from (points_from next xs) ys))

pub points_more : (points : List Point) (xs ys : List (List Step)) → points_from points (xs ++ ys) ≡ points_from (points_from points xs) ys
points_more points [] ys = refl
points_more points (x ∷ xs) ys = points_more (points_after points x) xs ys

-- the text of both parts, where the first has one count for each of its batches
pub text_more : (history : List Entry) (settings : Settings) (state : State) (xs ys : List Turn) (cs ds : List ℕ) → length cs ≡ joins_in xs
    → turns_text settings history state (xs ++ ys) (cs ++ ds)
    ≡ turns_text settings history state xs cs ++ turns_text settings history (state_decided settings state xs) ys ds
text_more history settings state [] ys [] ds each = refl
text_more history settings state [] ys (c ∷ cs) ds each = let no : suc (length cs) ≡ 0 = each in cc
text_more history settings state (Asks sample asked ∷ xs) ys cs ds each =
    let reply = reply_text settings state sample asked in
    let next = decided settings state (entry_of settings state sample asked) in
    ap (λ text. reply ++ text) (text_more history settings next xs ys cs ds each)
    ∙ sym (append_assoc reply (turns_text settings history next xs cs) _)
text_more history settings state (Joins batch ∷ xs) ys [] ds each =
    let no : 0 ≡ suc (joins_in xs) = each ∙ joins_more batch xs in cc
text_more history settings state (Joins batch ∷ xs) ys (c ∷ cs) ds each =
    let same : suc (length cs) ≡ suc (joins_in xs) = each ∙ joins_more batch xs in
    let reply = batch_text history c batch in
    ap (λ text. reply ++ text) (text_more history settings state xs ys cs ds (omega (arith, same)))
    ∙ sym (append_assoc reply (turns_text settings history state xs cs) _)
