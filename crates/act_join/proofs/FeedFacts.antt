-- Items, lines and bytes that are taken one after another.
use Rattle.std.proofs.Common.{◌≡◌, ℕ, ◌≤◌, List, [], ◌∷◌, ◌++◌, Option, Some, None, Result, Ok, Err, refl, arith, ap, sym, subst, ◌∙◌, append_assoc, append-nil}
use Rattle.std.specs.Option.{option_to_list}
use Rattle.act_io.specs.Streams.{Stream}
use Rattle.act_script.specs.Answers.{IsFaultOf, Said}
use Rattle.act_script.specs.Script.{BadLine, Content, said_then, with_items}
use Rattle.act_script.specs.Segments.{Pending, closed_segments, given_by, pending_by, segments_from}
use Rattle.act_script.specs.declared.fault.LineFault.{LineFault}
use Rattle.act_script.specs.declared.fault.LineFault.TheVariants as line
use Rattle.act_script.specs.declared.item.Item.{Item}
use Rattle.act_join.specs.Kept.{Kept, after_segments}
use Rattle.act_join.specs.Feeds.{Answered, AnsweredFront, Runs, Stops, Takes, TakesLine, line_end, pending_after, segments_after}
use Rattle.act_join.specs.declared.ended.Ended.{Ended}
use Rattle.act_join.specs.declared.ended.Ended.TheVariants as ended
use Rattle.act_join.specs.declared.ended.ScriptFault.TheVariants as why
use Rattle.act_join.specs.declared.progress.Progress.{Progress}
use Rattle.act_join.proofs.AnswerFacts.{answered_more, both_after, front_longer, front_more, none_after, nothing_answered, nothing_front}
use Rattle.act_join.proofs.PutFacts.{between}

-- ---- items in two parts

pub with_more : (xs ys : List Item) (content : Content) → with_items xs (with_items ys content) ≡ with_items (xs ++ ys) content
with_more xs ys content = ap (λ (items : List Item). record { items = items; bad = content.bad }) (sym (append_assoc xs ys content.items))

pending_more : (p : Pending) (xs ys : List Item) → pending_after p (xs ++ ys) ≡ pending_after (pending_after p xs) ys
pending_more p [] ys = refl
pending_more p (x ∷ xs) ys = pending_more (pending_by p x) xs ys

closed_more : (p : Pending) (xs ys : List Item) → closed_segments p (xs ++ ys) ≡ closed_segments p xs ++ closed_segments (pending_after p xs) ys
closed_more p [] ys = refl
closed_more p (x ∷ xs) ys =
    ap (λ segments. option_to_list (given_by p x) ++ segments) (closed_more (pending_by p x) xs ys)
    ∙ sym (append_assoc (option_to_list (given_by p x)) (closed_segments (pending_by p x) xs) _)

from_more : (p : Pending) (xs ys : List Item) → segments_from p (xs ++ ys) ≡ closed_segments p xs ++ segments_from (pending_after p xs) ys
from_more p [] ys = refl
from_more p (x ∷ xs) ys =
    ap (λ segments. option_to_list (given_by p x) ++ segments) (from_more (pending_by p x) xs ys)
    ∙ sym (append_assoc (option_to_list (given_by p x)) (closed_segments (pending_by p x) xs) _)

pub segments_more : (p : Pending) (items : List Item) (content : Content) → segments_after p (with_items items content) ≡ closed_segments p items ++ segments_after (pending_after p items) content
segments_more p items content = by content.bad
  where
    by : (bad : Option BadLine) → segments_after p (record { items = items ++ content.items; bad = bad }) ≡ closed_segments p items ++ segments_after (pending_after p items) (record { items = content.items; bad = bad })
    by None = from_more p items content.items
    by (Some bad) = closed_more p items content.items

-- ---- items that were taken

pub takes_none : (before after : Progress) (a : Option (List ℕ)) → after.segmenter ≡ before.segmenter → after.run ≡ before.run → Takes [] before after a a
takes_none before after a pending run = record { pending = pending; held = run ∙ sym (none_after before.run); answers = nothing_answered before.run a }

pub takes_more : (xs ys : List Item) (before mid after : Progress) (a b c : Option (List ℕ)) → Takes xs before mid a b → Takes ys mid after b c → Takes (xs ++ ys) before after a c
takes_more xs ys before mid after a b c first second =
    let one = closed_segments before.segmenter xs in
    let two = closed_segments (pending_after before.segmenter xs) ys in
    let parts : closed_segments before.segmenter (xs ++ ys) ≡ one ++ two = closed_more before.segmenter xs ys in
    let there : after.run ≡ after_segments (after_segments before.run one) two =
    second.held ∙ ap (λ (k : Kept). after_segments k (closed_segments mid.segmenter ys)) first.held
    ∙ ap (λ (p : Pending). after_segments (after_segments before.run one) (closed_segments p ys)) first.pending in
    let rest : Answered (after_segments before.run one) two b c =
    subst (λ (k : Kept). Answered k two b c) first.held (subst (λ (p : Pending). Answered mid.run (closed_segments p ys) b c) first.pending second.answers) in
    record {
      pending = second.pending ∙ ap (λ (p : Pending). pending_after p ys) first.pending ∙ sym (pending_more before.segmenter xs ys);
      held = there ∙ sym (both_after before.run one two) ∙ ap (after_segments before.run) (sym parts);
      answers = rw parts (answered_more before.run one two a b c first.answers rest);
    }

pub stopped_front : (items : List Item) (said : Content) (before mid : Progress) (a b c : Option (List ℕ)) → Takes items before mid a b
    → AnsweredFront mid.run (segments_after mid.segmenter said) b c → AnsweredFront before.run (segments_after before.segmenter (with_items items said)) a c
stopped_front items said before mid a b c takes front =
    let one = closed_segments before.segmenter items in
    let two = segments_after (pending_after before.segmenter items) said in
    let rest : AnsweredFront (after_segments before.run one) two b c =
    subst (λ (k : Kept). AnsweredFront k two b c) takes.held (subst (λ (p : Pending). AnsweredFront mid.run (segments_after p said) b c) takes.pending front) in
    rw (segments_more before.segmenter items said) (front_more before.run one two a b c takes.answers rest)

pub answered_after : (items : List Item) (said : Content) (before mid : Progress) (a b c : Option (List ℕ)) → Takes items before mid a b
    → Answered mid.run (segments_after mid.segmenter said) b c → Answered before.run (segments_after before.segmenter (with_items items said)) a c
answered_after items said before mid a b c takes answers =
    let one = closed_segments before.segmenter items in
    let two = segments_after (pending_after before.segmenter items) said in
    let rest : Answered (after_segments before.run one) two b c =
    subst (λ (k : Kept). Answered k two b c) takes.held (subst (λ (p : Pending). Answered mid.run (segments_after p said) b c) takes.pending answers) in
    rw (segments_more before.segmenter items said) (answered_more before.run one two a b c takes.answers rest)

-- what follows items that were taken stops there
pub stops_after : (e : Ended) (items : List Item) (said : Content) (before mid : Progress) (a b c : Option (List ℕ)) (f g h : ℕ) → Takes items before mid a b → f ≤ g
    → Stops said mid (between b c g h) e → Stops (with_items items said) before (between a c f h) e
stops_after (ended.BadLine n fault) items said before mid a b c f g h takes later stops = (stops.0, answered_after items said before mid a b c takes stops.1)
stops_after ended.WriteFault items said before mid a b c f g h takes later stops =
    (omega (arith, later, stops.0), stopped_front items said before mid a b c takes stops.1)
stops_after ended.NoMemory items said before mid a b c f g h takes later stops = stopped_front items said before mid a b c takes stops
stops_after ended.ReadFault items said before mid a b c f g h takes later stops = absurd stops
stops_after ended.Done items said before mid a b c f g h takes later stops = absurd stops

-- ---- a line

item_front : (item : Item) (before : Progress) (out : Stream) (more : Content) → AnsweredFront before.run (option_to_list (given_by before.segmenter item)) out.old out.new
    → AnsweredFront before.run (segments_after before.segmenter (with_items (item ∷ []) more)) out.old out.new
item_front item before out more front =
    let one : option_to_list (given_by before.segmenter item) ++ [] ≡ option_to_list (given_by before.segmenter item) = append-nil (option_to_list (given_by before.segmenter item)) in
    let rest = segments_after (pending_by before.segmenter item) more in
    let parts : segments_after before.segmenter (with_items (item ∷ []) more) ≡ option_to_list (given_by before.segmenter item) ++ rest =
    segments_more before.segmenter (item ∷ []) more ∙ ap (λ segments. segments ++ rest) one in
    rw parts (front_longer before.run (option_to_list (given_by before.segmenter item)) rest out.old out.new front)

-- the segment that an item closes was run, or running stopped
pub item_taken : (r : Result (Unit {0}) Ended) (n : ℕ) (item : Item) (before after : Progress) (out : Stream) → after.segmenter ≡ pending_by before.segmenter item
    → Runs before.run (option_to_list (given_by before.segmenter item)) out after.run r → TakesLine n (Ok (Some item)) before after out r
item_taken (Ok done) n item before after out pending runs =
    let one : option_to_list (given_by before.segmenter item) ++ [] ≡ option_to_list (given_by before.segmenter item) = append-nil (option_to_list (given_by before.segmenter item)) in
    (item ∷ [], λ more. refl, record { pending = pending; held = rw one runs.0; answers = rw one runs.1 })
item_taken (Err ended.WriteFault) n item before after out pending runs = λ more. (runs.0, item_front item before out more runs.1)
item_taken (Err ended.NoMemory) n item before after out pending runs = λ more. item_front item before out more runs
item_taken (Err ended.Done) n item before after out pending runs = absurd runs
item_taken (Err ended.ReadFault) n item before after out pending runs = absurd runs
item_taken (Err (ended.BadLine k fault)) n item before after out pending runs = absurd runs

pub line_blank : (n : ℕ) (said : Said (Option Item)) (before after : Progress) (a : Option (List ℕ)) → said ≡ Ok None → after.segmenter ≡ before.segmenter → after.run ≡ before.run
    → (items : List Item) × ((more : Content) → said_then n said more ≡ with_items items more) × Takes items before after a a
line_blank n said before after a says pending run = ([], λ more. rw says refl, takes_none before after a pending run)

bad_line : (n : ℕ) (fault : LineFault) (said : Said (Option Item)) (before : Progress) (a : Option (List ℕ)) (f g : ℕ) → said ≡ Err fault
    → (more : Content) → Stops (said_then n said more) before (between a a f g) (ended.BadLine n (why.Line fault))
bad_line n fault said before a f g says more = rw says (refl, nothing_answered before.run a)

pub line_stopped : (n : ℕ) (fault : LineFault) (said : Said (Option Item)) (before : Progress) (a : Option (List ℕ)) (f g : ℕ) → IsFaultOf fault said
    → (more : Content) → Stops (said_then n said more) before (between a a f g) (line_end n fault)
line_stopped n line.Kind said before a f g says more = bad_line n line.Kind said before a f g says more
line_stopped n line.Fields said before a f g says more = bad_line n line.Fields said before a f g says more
line_stopped n line.Key said before a f g says more = bad_line n line.Key said before a f g says more
line_stopped n line.PointId said before a f g says more = bad_line n line.PointId said before a f g says more
line_stopped n line.Number said before a f g says more = bad_line n line.Number said before a f g says more
line_stopped n line.Range said before a f g says more = bad_line n line.Range said before a f g says more
line_stopped n (line.Wkt kind place) said before a f g says more = bad_line n (line.Wkt kind place) said before a f g says more
line_stopped n line.Threshold said before a f g says more = bad_line n line.Threshold said before a f g says more
line_stopped n line.Layers said before a f g says more = bad_line n line.Layers said before a f g says more
line_stopped n line.NoMemory said before a f g says more = nothing_front before.run (segments_after before.segmenter (said_then n said more)) a
