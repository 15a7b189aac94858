-- A segment from its beginning to its replies.
use Rattle.std.proofs.Common.{◌≡◌, ℕ, suc, ◌+◌, ◌<◌, ◌≤◌, Bool, List, [], ◌∷◌, ◌++◌, map, take, drop, length, get_or, refl, arith, ap, sym, ◌∙◌, subst, append_assoc, append-nil, drop-cons, Result, Ok, Err}
use Rattle.std.specs.Prelude.{IfOk, OnOk}
use Rattle.std.proofs.Math.Seq.{take-append-add}
use Rattle.std.proofs.lemmas.List.{take_all}
use Rattle.act_grid.specs.declared.Point.{Point}
use Rattle.act_grid.specs.declared.Settings.{Settings}
use Rattle.act_super.specs.declared.entry.Entry.{Entry}
use Rattle.act_super.specs.declared.entry.State.{State}
use Rattle.act_super.specs.Histories.{state_from}
use Rattle.act_rows.specs.History.{Begins, History}
use Rattle.act_rows.specs.Tokens.{Guested}
use Rattle.act_rows.specs.Updates.{lent, newcomer, returned}
use Rattle.act_rows.specs.Versions.{newest}
use Rattle.act_grid.specs.declared.memory.NoMemory.{NoMemory}
use Rattle.act_rows.specs.declared.views.Ticket.{Ticket}
use Rattle.act_index.specs.Answers.{Answered}
use Rattle.act_index.specs.Codes.{updates_in}
use Rattle.act_index.specs.Whole.{IsWhole, Writing}
use Rattle.act_script.specs.History.{accepted_from, decided, entry_of, made_by, state_decided}
use Rattle.act_script.proofs.SampleFacts.{take_front}
use Rattle.act_script.specs.Segments.{is_batch}
use Rattle.act_script.specs.Turns.{Turn, most_sampled, points_after, points_in, turns_of}
use Rattle.act_script.specs.Turns.Turn.{Asks, Joins}
use Rattle.act_script.specs.declared.segment.Batch.{Batch}
use Rattle.act_script.specs.declared.segment.Step.{Step}
use Rattle.act_script.specs.declared.segment.Step.TheVariants as step
use Rattle.act_join.specs.Held.{Held, accepted_in, after_turns}
use Rattle.act_join.specs.Kept.{Kept, after_segment}
use Rattle.act_join.specs.Merging.{IsMerging}
use Rattle.act_join.specs.Solved.{AreReplies, Solves}
use Rattle.act_join.specs.Working.{AreFound, IsDone, IsOpen, Makes, batches_among, counts_from, held_by, points_of, updates_among}
use Rattle.act_join.specs.declared.decide.Decided.{Decided}
use Rattle.act_join.specs.declared.parts.Parts.{Parts}
use Rattle.act_join.specs.declared.reply.Reply.{Reply}
use Rattle.act_join.specs.declared.updating.Updating.{Updating}
use Rattle.act_join.proofs.AnsweredFacts.{all_answered}
use Rattle.act_join.proofs.FoundFacts.{all_later, begins_on, begins_same}
use Rattle.act_join.proofs.HeldFacts.{state_more}
use Rattle.act_join.proofs.MergeFacts.{asks_are, joined_are, left_are, order_are, told_are}
use Rattle.act_join.proofs.UpdatingFacts.{along_start, decided_is, makes_none, makes_updates, makes_version}

-- ---- a reader is lent and taken back

pub lent_makes : (w w' : Writing) → w' ≡ record w { desk = lent w.desk } → Makes w w' []
lent_makes w w' is = subst (λ (z : Writing). Makes w z []) (sym is) (record { history = sym (append-nil w.desk.history); settings = refl; state = refl; table = refl; legal = tt })

pub returned_makes : (w w' : Writing) (t : Ticket) → w' ≡ record w { desk = returned w.desk t } → Makes w w' []
returned_makes w w' t is = subst (λ (z : Writing). Makes w z []) (sym is) (record { history = sym (append-nil w.desk.history); settings = refl; state = refl; table = refl; legal = tt })

-- ---- the points for samples

pub points_are : (steps : List Step) → points_of (batches_among steps) ≡ points_in steps
points_are [] = refl
points_are (step.Update asked ∷ steps) = points_are steps
points_are (step.Batch batch ∷ steps) = ap (λ z. batch.points ++ z) (points_are steps)

-- a batch more
pub gathered_more : (now next batch rest whole : List Point) → take most_sampled (now ++ (batch ++ rest)) ≡ whole → next ≡ take most_sampled (now ++ batch)
    → take most_sampled (next ++ rest) ≡ whole
gathered_more now next batch rest whole so is =
    ap (λ z. take most_sampled (z ++ rest)) is ∙ take_front most_sampled (now ++ batch) rest ∙ ap (take most_sampled) (append_assoc now batch rest) ∙ so

pub gathered_all : (now whole : List Point) → length now ≤ most_sampled → take most_sampled (now ++ []) ≡ whole → now ≡ whole
gathered_all now whole few so = sym (take_all most_sampled now few) ∙ ap (take most_sampled) (sym (append-nil now)) ∙ so

-- ---- the end of a segment

state_made : (settings : Settings) (state : State) (turns : List Turn) → state_from settings state (accepted_from settings state turns) ≡ state_decided settings state turns
state_made settings state [] = refl
state_made settings state (Joins batch ∷ turns) = state_made settings state turns
state_made settings state (Asks sample asked ∷ turns) =
    let e = entry_of settings state sample asked in
    let next = decided settings state e in
    state_more settings state (made_by settings state (Asks sample asked)) (accepted_from settings next turns)
    ∙ ap (λ (z : State). state_from settings z (accepted_from settings next turns)) (decided_is settings state e)
    ∙ state_made settings next turns

held_after : (start w : Writing) (turns : List Turn) → Makes start w (accepted_in (held_by start) turns) → held_by w ≡ after_turns (held_by start) turns
held_after start w turns m =
    let made = accepted_in (held_by start) turns in
    λ i. record {
      settings = m.settings i;
      state = (m.state ∙ state_made start.settings start.state turns) i;
      version = makes_version start w made m i;
      updates = makes_updates start w made m i;
    }

pub open_done : (start : Writing) (points : List Point) (steps : List Step) (now : Updating) → IsDone start points (updates_among steps) now
    → Makes start now.writer (accepted_in (held_by start) (turns_of points steps))
open_done start points steps now d = subst (Makes start now.writer) (asks_are start.settings start.state points steps) d.makes

pub open_held : (start : Writing) (points : List Point) (steps : List Step) (now : Updating) → IsDone start points (updates_among steps) now
    → held_by now.writer ≡ after_turns (held_by start) (turns_of points steps)
open_held start points steps now d = held_after start now.writer (turns_of points steps) (open_done start points steps now d)

pub open_points : (start : Writing) (points : List Point) (steps : List Step) (now : Updating) (batches : List Batch) (new : List Point)
    → IsDone start points (updates_among steps) now → batches ≡ batches_among steps → new ≡ take most_sampled (now.points.items ++ points_of batches) → new ≡ points_after points steps
open_points start points steps now batches new d is gathered =
    gathered ∙ (λ i. take most_sampled ((d.left ∙ left_are points steps) i ++ (ap points_of is ∙ points_are steps) i))

-- the replies are to be put together
pub open_merges : (start : Writing) (points : List Point) (steps : List Step) (old now : Updating) (parts : Parts) (first : ℕ) (answers : List Answered)
    → IsOpen start points steps old parts first → IsDone start points (updates_among steps) now
    → AreFound old.writer.desk.history now.writer.desk.history parts.batches.items answers
    → IsMerging (held_by start) (accepted_in (held_by start) (turns_of points steps)) (turns_of points steps) parts.order.items now.decided.items parts.batches.items answers now.counts.items first []
open_merges start points steps old now parts first answers o d f =
    let made = accepted_in (held_by start) (turns_of points steps) in
    record {
      now = held_by start;
      rest = turns_of points steps;
      order_is = o.order ∙ order_are points steps;
      told = told_are (held_by start) points steps now.decided.items d.told;
      batches_are = o.batches ∙ joined_are points steps;
      answered = all_answered start now.writer made parts.batches.items answers o.whole (open_done start points steps now d)
          (subst (λ (z : History). AreFound z now.writer.desk.history parts.batches.items answers) o.history f);
      counted = d.counts ∙ ap (counts_from (held_by start).updates) (asks_are start.settings start.state points steps);
      begun = o.begun;
      says = λ more fits. fits;
    }

-- ---- a list that is filled up

pub cut_at : {A : Type 0} (n room : ℕ) (xs ys : List A) → length xs + room ≡ n → xs ++ take room ys ≡ take n (xs ++ ys)
cut_at n room xs ys all = rw (← all) (sym (take-append-add xs ys room))

-- ---- what is so at `Ok`

pub on_any : {A E : Type 0} (r : Result A E) (P : Type 0) → P → OnOk r P
on_any (Ok x) P p = p
on_any (Err e) P p = tt

pub if_all : {A E : Type 0} (r : Result A E) (P Q : A → Type 0) → IfOk r P → ((x : A) → P x → Q x) → IfOk r Q
if_all (Ok x) P Q p more = more x p
if_all (Err e) P Q p more = tt

pub on_all : {A E : Type 0} (r : Result A E) (P Q : Type 0) → OnOk r P → (P → Q) → OnOk r Q
on_all (Ok x) P Q p more = more p
on_all (Err e) P Q p more = tt

-- ---- the beginning of a segment

pub open_is : (start : Writing) (points : List Point) (steps : List Step) (now : Updating) (parts : Parts) (first : ℕ) → now.writer ≡ start → now.points.items ≡ points
    → now.waiting.items ≡ updates_among steps → now.decided.items ≡ [] → now.counts.items ≡ updates_in start.desk.history ∷ []
    → parts.batches.items ≡ batches_among steps → parts.order.items ≡ map is_batch steps → IsWhole start → first ≡ newest start.desk → IsOpen start points steps now parts first
open_is start points steps now parts first same left waiting told counts batches order whole begun = record {
  along = along_start start points (updates_among steps) now (subst (λ (z : Writing). Makes start z []) (sym same) (makes_none start)) left waiting told counts;
  whole = whole;
  history = ap (λ (z : Writing). z.desk.history) same;
  batches = batches;
  order = order;
  begun = begun;
}

-- ---- batches that were answered while a reader was lent

pub lent_begins : (w : Writing) (r : Guested) → r.ticket ≡ newcomer w.desk → Begins w.desk.history r.ticket.seen
lent_begins w r is = subst (λ (z : Ticket). Begins w.desk.history z.seen) (sym is) (begins_same w.desk.history)

pub found_through : (h : History) (mid back end : Writing) (t : Ticket) (batches : List Batch) (answers : List Answered) → AreFound h t.seen batches answers
    → Begins t.seen mid.desk.history → back ≡ record mid { desk = returned mid.desk t } → Begins back.desk.history end.desk.history → AreFound h end.desk.history batches answers
found_through h mid back end t batches answers f begins is grows =
    let on : Begins mid.desk.history end.desk.history = subst (λ (z : Writing). Begins z.desk.history end.desk.history) is grows in
    all_later h t.seen end.desk.history batches answers (begins_on t.seen mid.desk.history end.desk.history begins on) f

-- what was merged solves the segment
pub merged_solves : (r : Result (List Reply) NoMemory) (start : Writing) (turns : List Turn) (order : List Bool) (says : List Decided) (batches : List Batch) (answers : List Answered)
    (counts : List ℕ) (first : ℕ)
    → IfOk r (λ solved. (held : Held) (made : List Entry) (turns : List Turn) → IsMerging held made turns order says batches answers counts first [] → AreReplies held made held turns solved)
    → IsMerging (held_by start) (accepted_in (held_by start) turns) turns order says batches answers counts first []
    → IfOk r (λ solved. Solves (held_by start) turns solved)
merged_solves (Ok solved) start turns order says batches answers counts first merges m = merges (held_by start) (accepted_in (held_by start) turns) turns m
merged_solves (Err e) start turns order says batches answers counts first merges m = tt

-- what is kept of it
pub kept_both : {A E : Type 0} (r : Result A E) (was held : Held) (there points : List Point) (kept : Kept) (steps : List Step) → kept ≡ record { held = was; points = there }
    → OnOk r (held ≡ after_turns was (turns_of there steps)) → OnOk r (points ≡ points_after there steps) → OnOk r (record { held = held; points = points } ≡ after_segment kept steps)
kept_both (Ok x) was held there points kept steps is a b = (λ i. record { held = a i; points = b i }) ∙ ap (λ (k : Kept). after_segment k steps) (sym is)
kept_both (Err e) was held there points kept steps is a b = tt

-- the next batch is gathered
pub gathered_step : (now next : List Point) (batches : List Batch) (i : ℕ) (d : Batch) (whole : List Point) → i < length batches
    → take most_sampled (now ++ points_of (drop i batches)) ≡ whole → next ≡ take most_sampled (now ++ (get_or batches i d).points)
    → take most_sampled (next ++ points_of (drop (i + 1) batches)) ≡ whole
gathered_step now next batches i d whole within so is =
    let one : suc i ≡ i + 1 = omega arith in
    let batch = get_or batches i d in
    let split : points_of (drop i batches) ≡ batch.points ++ points_of (drop (i + 1) batches) =
    ap points_of (drop-cons batches i d within) ∙ ap (λ n. batch.points ++ points_of (drop n batches)) one in
    gathered_more now next batch.points (points_of (drop (i + 1) batches)) whole (ap (λ z. take most_sampled (now ++ z)) (sym split) ∙ so) is
