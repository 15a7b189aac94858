-- Sums over the replies to a segment.
use Rattle.std.proofs.Common.{◌≡◌, ◌<◌, ◌≤◌, ◌+◌, ◌-◌, ◌++◌, ◌⊎◌, ℕ, zero, suc, true, false, List, [], ◌∷◌, Option, Some, None, Result, Ok, Err, map, take, refl, subst, sym, ap, ◌∙◌, append-nil, arith, inl, inr}
use Rattle.std.specs.Prelude.{OnOk}
use Rattle.std.specs.List.{range_with_len}
use Rattle.std.specs.Option.{option_to_list}
use Rattle.act_grid.specs.declared.Point.{Point}
use Rattle.act_grid.specs.declared.Settings.{Settings}
use Rattle.act_super.specs.declared.entry.Entry.{Entry}
use Rattle.act_super.specs.declared.entry.State.{State}
use Rattle.act_super.specs.Histories.{state_from}
use Rattle.act_super.specs.Joins.{join}
use Rattle.act_script.specs.History.{accepted_from, state_by, state_decided}
use Rattle.act_script.specs.Segments.{Pending, closed_segment, given_by, nothing_pending, pending_by, segments_from}
use Rattle.act_script.specs.Turns.{Turn, left_by_update, points_after, turns_from, turns_of}
use Rattle.act_script.specs.declared.item.Item.{Item}
use Rattle.act_script.specs.declared.item.Item.TheVariants as item
use Rattle.act_script.specs.declared.segment.Batch.{Batch}
use Rattle.act_script.specs.declared.segment.Step.{Step}
use Rattle.act_script.specs.declared.segment.Step.TheVariants as step
use Rattle.act_index.specs.Answers.{Answered, pair_of}
use Rattle.act_index.specs.declared.pairs.Pair.{Pair}
use Rattle.act_join.specs.Held.{Held, after_asked}
use Rattle.act_join.specs.Kept.{Kept, after_segment, nothing_kept}
use Rattle.act_join.specs.Replies.{added_by}
use Rattle.act_join.specs.Solved.{AreReplies, IsAnswered, Solves as Replied}
use Rattle.act_join.specs.declared.reply.Reply.{Reply}
use Rattle.act_join.specs.declared.reply.Reply.TheVariants as reply
use Rattle.actjoin.specs.Demo.{demo_items, demo_sums, drops, no_sums, points, with_added, with_pairs, with_turn, with_turns, zones}
use Rattle.actjoin.specs.Showing.{AreApart, AreBatches, AreUpdates, Finishes, IsApart, IsFirst, Leads, ShowsAll, Solves, sums_with, with_replies}
use Rattle.actjoin.specs.declared.demo.Showing.{Showing}
use Rattle.actjoin.specs.declared.sums.Sums.{Sums}
use Rattle.actjoin.proofs.ApartFacts.{all_split, demo_apart}

-- what holds where a call was done
pub when_done : {T E : Type 0} (r : Result T E) (P Q : Type 0) → (P → Q) → OnOk r P → OnOk r Q
when_done (Ok done) P Q f h = f h
when_done (Err fault) P Q f h = h

-- ---- turns in two parts

turns_more : (settings : Settings) (state : State) (xs ys : List Turn) (sums : Sums)
    → with_turns settings state (xs ++ ys) sums ≡ with_turns settings (state_decided settings state xs) ys (with_turns settings state xs sums)
turns_more settings state [] ys sums = refl
turns_more settings state (x ∷ xs) ys sums = turns_more settings (state_by settings state x) xs ys (with_turn settings state x sums)

-- ---- a segment of updates

updates_summed : (held : Held) (made : List Entry) (now : Held) (points : List Point) (steps : List Step) (replies : List Reply) (sums : Sums) → AreUpdates steps
    → AreReplies held made now (turns_of points steps) replies → with_replies replies sums ≡ with_turns now.settings now.state (turns_of points steps) sums
updates_summed held made now points [] [] sums u h = refl
updates_summed held made now points [] (first ∷ replies) sums u h = absurd h
updates_summed held made now points (step.Update asked ∷ steps) [] sums u h = absurd h
updates_summed held made now points (step.Update asked ∷ steps) (reply.Batch batch after answer ∷ replies) sums u h = absurd h
updates_summed held made now points (step.Update asked ∷ steps) (reply.Update added line ∷ replies) sums u h =
    ap (λ (key : Option ℕ). with_replies replies (with_added key sums)) h.1
    ∙ updates_summed held made (after_asked now points asked) (left_by_update points asked) steps replies (with_added (added_by now.settings now.state asked) sums) u.1 h.2
updates_summed held made now points (step.Batch batch ∷ steps) replies sums u h = absurd (none u.0)
  where
    none : false ≡ true → ⊥
    none is = cc

-- ---- a segment of batches

none_accepted : (settings : Settings) (state : State) (points : List Point) (steps : List Step) → AreBatches steps → accepted_from settings state (turns_of points steps) ≡ []
none_accepted settings state points [] b = refl
none_accepted settings state points (step.Batch batch ∷ steps) b = none_accepted settings state points steps b.1
none_accepted settings state points (step.Update asked ∷ steps) b = absurd (none b.0)
  where
    none : false ≡ true → ⊥
    none is = cc

batch_summed : (held : Held) (made : List Entry) (batch answered : Batch) (after : ℕ) (answer : Answered) (sums : Sums) → made ≡ [] → answered ≡ batch
    → IsAnswered held made batch after answer → with_pairs answered answer.pairs sums ≡ with_pairs batch (map pair_of (join batch.layers held.state.zones batch.points)) sums
batch_summed held made batch answered after answer sums nothing same is =
    let before : state_from held.settings held.state (take is.count made) ≡ held.state = rw nothing (kept is.count) in
    let pairs : answer.pairs ≡ map pair_of (join batch.layers held.state.zones batch.points) =
    is.pairs ∙ ap (λ (state : State). map pair_of (join batch.layers state.zones batch.points)) before in
    ap (λ (b : Batch). with_pairs b answer.pairs sums) same ∙ ap (λ (found : List Pair). with_pairs batch found sums) pairs
  where
    kept : (count : ℕ) → state_from held.settings held.state (take count []) ≡ held.state
    kept zero = refl
    kept (suc count) = refl

batches_summed : (held : Held) (made : List Entry) (points : List Point) (steps : List Step) (replies : List Reply) (sums : Sums) → made ≡ [] → AreBatches steps
    → AreReplies held made held (turns_of points steps) replies → with_replies replies sums ≡ with_turns held.settings held.state (turns_of points steps) sums
batches_summed held made points [] [] sums nothing b h = refl
batches_summed held made points [] (first ∷ replies) sums nothing b h = absurd h
batches_summed held made points (step.Batch batch ∷ steps) [] sums nothing b h = absurd h
batches_summed held made points (step.Batch batch ∷ steps) (reply.Update added line ∷ replies) sums nothing b h = absurd h
batches_summed held made points (step.Batch batch ∷ steps) (reply.Batch answered after answer ∷ replies) sums nothing b h =
    ap (λ (s : Sums). with_replies replies s) (batch_summed held made batch answered after answer sums nothing h.0 h.1)
    ∙ batches_summed held made points steps replies (with_pairs batch (map pair_of (join batch.layers held.state.zones batch.points)) sums) nothing b.1 h.2
batches_summed held made points (step.Update asked ∷ steps) replies sums nothing b h = absurd (none b.0)
  where
    none : false ≡ true → ⊥
    none is = cc

-- ---- a segment

segment_summed : (held : Held) (points : List Point) (steps : List Step) (replies : List Reply) (sums : Sums) → IsApart steps
    → Replied held (turns_of points steps) replies → with_replies replies sums ≡ with_turns held.settings held.state (turns_of points steps) sums
segment_summed held points steps replies sums (inl b) h =
    batches_summed held (accepted_from held.settings held.state (turns_of points steps)) points steps replies sums (none_accepted held.settings held.state points steps b) b h
segment_summed held points steps replies sums (inr u) h = updates_summed held (accepted_from held.settings held.state (turns_of points steps)) held points steps replies sums u h

pub solved : (old new : Showing) (segment : List Step) (replies : List Reply) → Replied old.run.held (turns_of old.run.points segment) replies
    → new.run ≡ after_segment old.run segment → new.sums ≡ with_replies replies old.sums → Solves old (Some segment) new
solved old new segment replies h run sums = λ more apart.
    let settings = old.run.held.settings in
    let state = old.run.held.state in
    let turns = turns_of old.run.points segment in
    let rest = turns_from (points_after old.run.points segment) more in
    let same : with_replies replies old.sums ≡ with_turns settings state turns old.sums = segment_summed old.run.held old.run.points segment replies old.sums apart.0 h in
    turns_more settings state turns rest old.sums
    ∙ ap (λ (s : Sums). with_turns settings (state_decided settings state turns) rest s) (sym same ∙ sym sums)
    ∙ ap (λ (k : Kept). sums_with k more new.sums) (sym run)

pub unsolved : (old new : Showing) → new.run ≡ old.run → new.sums ≡ old.sums → Solves old None new
unsolved old new run sums = λ more apart. ap (λ (k : Kept). sums_with k more old.sums) (sym run) ∙ ap (λ (s : Sums). sums_with new.run more s) (sym sums)

-- ---- items

-- an item was taken, and the segment that it closes was solved
pub item_leads : (old new : Showing) (item : Item) → new.segmenter ≡ pending_by old.segmenter item → Solves old (given_by old.segmenter item) new → Leads old (item ∷ []) new
item_leads old new item pending solves = λ more apart.
    let given = option_to_list (given_by old.segmenter item) in
    let rest = segments_from (pending_by old.segmenter item) more in
    let parts = all_split IsApart given rest apart in
    (rw pending parts.1, rw pending (solves rest parts.0))

-- ---- items of numbers in a row

first_number : (k n : ℕ) → k < n → range_with_len k (n - k) ≡ k ∷ range_with_len (k + 1) (n - (k + 1))
first_number k n less = let e : n - k ≡ suc (n - (k + 1)) = omega arith in ap (range_with_len k) e

-- some of the items were taken, and these are left
abbrev pub LeadsOn : Showing → List Item → List Item → Showing → Type 0
LeadsOn old items left new = (more : List Item) → AreApart (segments_from old.segmenter (items ++ more))
    → AreApart (segments_from new.segmenter (left ++ more))
    × (sums_with old.run (segments_from old.segmenter (items ++ more)) old.sums ≡ sums_with new.run (segments_from new.segmenter (left ++ more)) new.sums)

pub one_taken : (f : ℕ → Item) (old mid new : Showing) (items : List Item) (k n : ℕ) → k < n → LeadsOn old items (map f (range_with_len k (n - k))) mid
    → Leads mid (f k ∷ []) new → LeadsOn old items (map f (range_with_len (k + 1) (n - (k + 1)))) new
one_taken f old mid new items k n less first second = λ more apart.
    let left = map f (range_with_len (k + 1) (n - (k + 1))) in
    let first_is : map f (range_with_len k (n - k)) ≡ f k ∷ left = ap (λ (ks : List ℕ). map f ks) (first_number k n less) in
    let one : AreApart (segments_from mid.segmenter ((f k ∷ left) ++ more))
    × (sums_with old.run (segments_from old.segmenter (items ++ more)) old.sums ≡ sums_with mid.run (segments_from mid.segmenter ((f k ∷ left) ++ more)) mid.sums) =
    subst (λ (xs : List Item). AreApart (segments_from mid.segmenter (xs ++ more))
    × (sums_with old.run (segments_from old.segmenter (items ++ more)) old.sums ≡ sums_with mid.run (segments_from mid.segmenter (xs ++ more)) mid.sums)) first_is (first more apart) in
    let two = second (left ++ more) one.0 in
    (two.0, one.1 ∙ two.1)

-- ---- all of the demo

pub finished : (old new : Showing) → Solves old (closed_segment old.segmenter) new → Finishes old new
finished old new solves = λ apart.
    let segments = option_to_list (closed_segment old.segmenter) in
    let none : segments ++ [] ≡ segments = append-nil segments in
    subst (λ (all : List (List Step)). sums_with old.run all old.sums ≡ new.sums) none (solves [] apart)

abbrev Second : ℕ → List Item
Second side = item.Train 64 ∷ (drops side ++ item.Sync ∷ points side)

module _ (side : ℕ) (start zoned synced passed apart trained dropped later twice end : Showing) where
  pub all_shown : Leads start (zones side) zoned → Leads zoned (item.Sync ∷ []) synced → Leads synced (points side) passed → Leads passed (item.Sync ∷ []) apart
      → Leads apart (item.Train 64 ∷ []) trained → Leads trained (drops side) dropped → Leads dropped (item.Sync ∷ []) later → Leads later (points side) twice
      → Finishes twice end → ShowsAll side start end
  all_shown l1 l2 l3 l4 l5 l6 l7 l8 last = λ are_apart.
      let a1 = l1 (item.Sync ∷ (points side ++ item.Sync ∷ Second side)) are_apart in
      let a2 = l2 (points side ++ item.Sync ∷ Second side) a1.0 in
      let a3 = l3 (item.Sync ∷ Second side) a2.0 in
      let a4 = l4 (Second side) a3.0 in
      let a5 = l5 (drops side ++ item.Sync ∷ points side) a4.0 in
      let a6 = l6 (item.Sync ∷ points side) a5.0 in
      let a7 = l7 (points side) a6.0 in
      let a8 = whole l8 a7.0 in
      a1.1 ∙ a2.1 ∙ a3.1 ∙ a4.1 ∙ a5.1 ∙ a6.1 ∙ a7.1 ∙ a8.1 ∙ last a8.0
    where
      whole : Leads later (points side) twice → AreApart (segments_from later.segmenter (points side))
          → AreApart (segments_from twice.segmenter [])
          × (sums_with later.run (segments_from later.segmenter (points side)) later.sums ≡ sums_with twice.run (segments_from twice.segmenter []) twice.sums)
      whole leads = subst (λ (items : List Item). AreApart (segments_from later.segmenter items)
          → AreApart (segments_from twice.segmenter [])
          × (sums_with later.run (segments_from later.segmenter items) later.sums ≡ sums_with twice.run (segments_from twice.segmenter []) twice.sums))
          (append-nil (points side)) (leads [])

abbrev Shown : ℕ → Showing → Pending → Kept → Sums → Type 0
Shown side end p kept sums = AreApart (segments_from p (demo_items side)) → sums_with kept (segments_from p (demo_items side)) sums ≡ end.sums

pub sums_shown : (side : ℕ) (settings : Settings) (start end : Showing) → IsFirst settings start → ShowsAll side start end → end.sums ≡ demo_sums side settings
sums_shown side settings start end first shows = by start.segmenter start.run start.sums first.segmenter first.run first.sums shows
  where
    by : (p : Pending) (kept : Kept) (sums : Sums) → p ≡ nothing_pending → kept ≡ nothing_kept settings → sums ≡ no_sums → Shown side end p kept sums → end.sums ≡ demo_sums side settings
    by p kept sums pending held none shown =
        let one : Shown side end nothing_pending kept sums = subst (λ (q : Pending). Shown side end q kept sums) pending shown in
        let two : Shown side end nothing_pending (nothing_kept settings) sums = subst (λ (k : Kept). Shown side end nothing_pending k sums) held one in
        let three : Shown side end nothing_pending (nothing_kept settings) no_sums = subst (λ (s : Sums). Shown side end nothing_pending (nothing_kept settings) s) none two in
        sym (three (demo_apart side))
