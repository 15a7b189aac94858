-- Bytes that are taken one piece after another.
use Rattle.std.proofs.Common.{◌≡◌, ◌==◌, ℕ, ◌+◌, ◌≤◌, Bool, true, false, List, [], ◌∷◌, ◌++◌, Option, Some, None, Result, Ok, Err, drop, take, refl, ap, sym, subst, ◌∙◌, append_assoc, append-nil}
use Rattle.std.specs.Prelude.{if◌then◌else◌, min}
use Rattle.std.specs.Option.{option_to_list}
use Rattle.std.proofs.lemmas.Bool.{ne_eqb}
use Rattle.std.proofs.lemmas.List.{take-append-drop}
use Rattle.act_io.specs.Streams.{Stream}
use Rattle.act_script.specs.Cutting.{Cutting, EndsInFeed, IsCause, IsOpen, to_come}
use Rattle.act_script.specs.Items.{item_of}
use Rattle.act_script.specs.Lines.{Cut, line_onto, refused}
use Rattle.act_script.specs.Script.{Content, ended_part, lines_content, onto_ended, said_then, with_items}
use Rattle.act_script.specs.Segments.{Pending, closed_segment, closed_segments}
use Rattle.act_script.specs.declared.cutter.CutFault.{CutFault}
use Rattle.act_script.specs.declared.cutter.CutFault.TheVariants as cut
use Rattle.act_script.specs.declared.cutter.TheConstants.{MOST_LINES}
use Rattle.act_script.specs.declared.item.Item.{Item}
use Rattle.act_script.specs.declared.segment.Step.{Step}
use Rattle.act_join.specs.Kept.{Kept}
use Rattle.act_join.specs.Feeds.{Answered, AreLines, Closes, Feeds, Runs, Stops, Takes, TakesLast, TakesLine, at_start, content_from, cut_end, segments_after}
use Rattle.act_join.specs.declared.ended.Ended.{Ended}
use Rattle.act_join.specs.declared.ended.Ended.TheVariants as ended
use Rattle.act_join.specs.declared.ended.ScriptFault.TheVariants as why
use Rattle.act_join.specs.declared.progress.Progress.{Progress}
use Rattle.act_join.proofs.AnswerFacts.{answered_more, nothing_answered, nothing_front}
use Rattle.act_join.proofs.FeedFacts.{segments_more, stops_after, takes_more, takes_none, with_more}
use Rattle.act_join.proofs.PutFacts.{between}

-- ---- lines that end with a line feed

feed_onto : (b : ℕ) (front rest : List ℕ) → onto_ended b ((front ++ 10 ∷ []) ++ rest) ≡ b ∷ ((front ++ 10 ∷ []) ++ rest)
feed_onto b [] rest = refl
feed_onto b (x ∷ front) rest = refl

feed_ends : (front : List ℕ) → AreLines (front ++ 10 ∷ [])
feed_ends [] rest = refl
feed_ends (b ∷ front) rest = rw (feed_ends front rest) (by (b == 10))
  where
    by : (t : Bool) → (if t then b ∷ ((front ++ 10 ∷ []) ++ ended_part rest) else onto_ended b ((front ++ 10 ∷ []) ++ ended_part rest)) ≡ b ∷ ((front ++ 10 ∷ []) ++ ended_part rest)
    by true = refl
    by false = feed_onto b front (ended_part rest)

pub open_ended : (held : List ℕ) → IsOpen held → ended_part held ≡ []
open_ended [] h = refl
open_ended (b ∷ held) h = rw (ne_eqb b 10 h.0, open_ended held h.1) refl

lines_more : (xs ys : List ℕ) → AreLines xs → AreLines ys → AreLines (xs ++ ys)
lines_more xs ys h k rest = ap ended_part (append_assoc xs ys rest) ∙ h (ys ++ rest) ∙ ap (λ l. xs ++ l) (k rest) ∙ sym (append_assoc xs ys (ended_part rest))

-- ---- what lines say from a cutter on

line_says : (digits : ℕ) (old new : Cutting) (bytes rest : List ℕ) → new.number ≡ old.number + 1 → to_come old bytes ≡ line_onto new.line (to_come new rest)
    → content_from digits old bytes ≡ said_then new.number (item_of digits new.line) (content_from digits new rest)
line_says digits old new bytes rest number lines =
    ap (λ (c : Cut). lines_content digits (old.number + 1) c.lines c.fault) lines
    ∙ ap (λ n. said_then n (item_of digits new.line) (lines_content digits (n + 1) (to_come new rest).lines (to_come new rest).fault)) (sym number)

-- the bytes that are held are the first of the line at hand
held_says : (digits : ℕ) (old : Cutting) (bytes rest : List ℕ) → content_from digits old (bytes ++ rest) ≡ content_from digits (at_start old) ((old.held ++ bytes) ++ rest)
held_says digits old bytes rest = ap (content_from digits (at_start old)) (sym (append_assoc old.held bytes rest))

abbrev no_more : Content
no_more = record { items = []; bad = None }

-- ---- where no line was cut

bad_cut : (fault : CutFault) (digits n : ℕ) (before : Progress) (bytes : List ℕ) (a : Option (List ℕ)) (f g : ℕ) → n ≡ before.cutter.number → to_come before.cutter bytes ≡ refused fault
    → Stops (content_from digits before.cutter bytes) before (between a a f g) (ended.BadLine (min (n + 1) MOST_LINES) (why.Cut fault))
bad_cut fault digits n before bytes a f g same lines =
    let says = ap (λ (c : Cut). lines_content digits (before.cutter.number + 1) c.lines c.fault) lines in
    rw same (subst (λ (said : Content). Stops said before (between a a f g) (ended.BadLine (min (before.cutter.number + 1) MOST_LINES) (why.Cut fault))) (sym says)
    (refl, nothing_answered before.run a))

pub cut_stopped : (fault : CutFault) (digits n : ℕ) (before : Progress) (piece : List ℕ) (a : Option (List ℕ)) (f g : ℕ) → n ≡ before.cutter.number → IsCause before.cutter piece fault
    → (rest : List ℕ) → Stops (content_from digits before.cutter (piece ++ rest)) before (between a a f g) (cut_end n fault)
cut_stopped cut.LineLong digits n before piece a f g same cause rest = bad_cut cut.LineLong digits n before (piece ++ rest) a f g same (cause rest)
cut_stopped cut.Lines digits n before piece a f g same cause rest = bad_cut cut.Lines digits n before (piece ++ rest) a f g same (cause rest)
cut_stopped cut.NoMemory digits n before piece a f g same cause rest = nothing_front before.run (segments_after before.segmenter (content_from digits before.cutter (piece ++ rest))) a

pub end_stopped : (fault : CutFault) (digits n : ℕ) (before : Progress) (a : Option (List ℕ)) (f g : ℕ) → n ≡ before.cutter.number → before.cutter.fault ≡ Some fault
    → Stops (content_from digits before.cutter []) before (between a a f g) (cut_end n fault)
end_stopped cut.LineLong digits n before a f g same cause = bad_cut cut.LineLong digits n before [] a f g same (rw cause refl)
end_stopped cut.Lines digits n before a f g same cause = bad_cut cut.Lines digits n before [] a f g same (rw cause refl)
end_stopped cut.NoMemory digits n before a f g same cause = nothing_front before.run (segments_after before.segmenter (content_from digits before.cutter [])) a

-- ---- a part of a piece

-- stops are the same wherever the cutter stands
stops_cut : (e : Ended) (said : Content) (before : Progress) (new : Cutting) (out : Stream) → Stops said (record before { cutter = new }) out e → Stops said before out e
stops_cut (ended.BadLine n fault) said before new out h = h
stops_cut ended.WriteFault said before new out h = h
stops_cut ended.NoMemory said before new out h = h
stops_cut ended.ReadFault said before new out h = h
stops_cut ended.Done said before new out h = h

takes_cut : (items : List Item) (before after : Progress) (new : Cutting) (a b : Option (List ℕ)) → Takes items (record before { cutter = new }) after a b → Takes items before after a b
takes_cut items before after new a b takes = record { pending = takes.pending; held = takes.held; answers = takes.answers }

pub feeds_held : (digits : ℕ) (before after : Progress) (bytes : List ℕ) (a : Option (List ℕ)) → after.cutter ≡ record before.cutter { held = before.cutter.held ++ bytes }
    → after.segmenter ≡ before.segmenter → after.run ≡ before.run → Feeds digits before bytes after a a
feeds_held digits before after bytes a same pending run = record {
  lines = [];
  items = [];
  whole = sym (ap (λ (c : Cutting). c.held) same);
  are_lines = λ rest. refl;
  says = λ rest. ap (λ (c : Cutting). with_items [] (content_from digits (at_start c) rest)) (sym same);
  takes = takes_none before after a pending run;
}

pub feeds_line : (digits : ℕ) (before after : Progress) (new : Cutting) (bytes : List ℕ) (a b : Option (List ℕ)) → new.number ≡ before.cutter.number + 1 → EndsInFeed bytes → new.held ≡ []
    → ((rest : List ℕ) → to_come before.cutter (bytes ++ rest) ≡ line_onto new.line (to_come new rest)) → after.cutter ≡ new
    → ((items : List Item) × ((more : Content) → said_then new.number (item_of digits new.line) more ≡ with_items items more) × Takes items (record before { cutter = new }) after a b)
    → Feeds digits before bytes after a b
feeds_line digits before after new bytes a b number feed none lines same t =
    let held = before.cutter.held in
    let start : new ≡ at_start after.cutter = ap (λ (h : List ℕ). record new { held = h }) none ∙ ap at_start (sym same) in
    record {
      lines = held ++ bytes;
      items = t.0;
      whole = sym (ap (λ (l : List ℕ). (held ++ bytes) ++ l) (ap (λ (c : Cutting). c.held) same ∙ none) ∙ append-nil (held ++ bytes));
      are_lines = subst AreLines (append_assoc held feed.0 (10 ∷ []) ∙ ap (λ (l : List ℕ). held ++ l) (sym feed.1)) (feed_ends (held ++ feed.0));
      says = λ rest. sym (held_says digits before.cutter bytes rest) ∙ line_says digits before.cutter new (bytes ++ rest) rest number (lines rest) ∙ t.1 (content_from digits new rest)
          ∙ ap (λ (c : Cutting). with_items t.0 (content_from digits c rest)) start;
      takes = takes_cut t.0 before after new a b t.2;
    }

pub part_stopped : (e : Ended) (digits : ℕ) (before : Progress) (new : Cutting) (piece : List ℕ) (used : ℕ) (out : Stream) → new.number ≡ before.cutter.number + 1
    → ((rest : List ℕ) → to_come before.cutter (take used piece ++ rest) ≡ line_onto new.line (to_come new rest))
    → ((more : Content) → Stops (said_then new.number (item_of digits new.line) more) (record before { cutter = new }) out e)
    → (rest : List ℕ) → Stops (content_from digits before.cutter (piece ++ rest)) before out e
part_stopped e digits before new piece used out number lines stops rest =
    let after = drop used piece ++ rest in
    let parts : piece ++ rest ≡ take used piece ++ after = ap (λ (l : List ℕ). l ++ rest) (sym (take-append-drop used piece)) ∙ append_assoc (take used piece) (drop used piece) rest in
    let says : content_from digits before.cutter (piece ++ rest) ≡ said_then new.number (item_of digits new.line) (content_from digits new after) =
    ap (content_from digits before.cutter) parts ∙ line_says digits before.cutter new (take used piece ++ after) after number (lines after) in
    subst (λ (said : Content). Stops said before out e) (sym says) (stops_cut e _ before new out (stops (content_from digits new after)))

-- ---- pieces one after another

pub feeds_none : (digits : ℕ) (p : Progress) (a : Option (List ℕ)) → Feeds digits p [] p a a
feeds_none digits p a = record { lines = []; items = []; whole = append-nil p.cutter.held; are_lines = λ rest. refl; says = λ rest. refl; takes = takes_none p p a refl refl }

pub feeds_more : (digits : ℕ) (before mid after : Progress) (xs ys : List ℕ) (a b c : Option (List ℕ)) → Feeds digits before xs mid a b → Feeds digits mid ys after b c
    → Feeds digits before (xs ++ ys) after a c
feeds_more digits before mid after xs ys a b c first second =
    let held = before.cutter.held in
    record {
      lines = first.lines ++ second.lines;
      items = first.items ++ second.items;
      whole = sym (append_assoc held xs ys) ∙ ap (λ (l : List ℕ). l ++ ys) first.whole ∙ append_assoc first.lines mid.cutter.held ys ∙ ap (λ (l : List ℕ). first.lines ++ l) second.whole
          ∙ sym (append_assoc first.lines second.lines after.cutter.held);
      are_lines = lines_more first.lines second.lines first.are_lines second.are_lines;
      says = λ rest. ap (content_from digits (at_start before.cutter)) (append_assoc first.lines second.lines rest) ∙ first.says (second.lines ++ rest)
          ∙ ap (with_items first.items) (second.says rest) ∙ with_more first.items second.items (content_from digits (at_start after.cutter) rest);
      takes = takes_more first.items second.items before mid after a b c first.takes second.takes;
    }

-- what all lines say, after bytes were taken
pub feeds_says : (digits : ℕ) (before after : Progress) (bytes : List ℕ) (a b : Option (List ℕ)) (fed : Feeds digits before bytes after a b) (rest : List ℕ)
    → content_from digits before.cutter (bytes ++ rest) ≡ with_items fed.items (content_from digits after.cutter rest)
feeds_says digits before after bytes a b fed rest =
    held_says digits before.cutter bytes rest
    ∙ ap (λ (l : List ℕ). content_from digits (at_start before.cutter) (l ++ rest)) fed.whole
    ∙ ap (content_from digits (at_start before.cutter)) (append_assoc fed.lines after.cutter.held rest)
    ∙ fed.says (after.cutter.held ++ rest)

pub fed_stopped : (e : Ended) (digits : ℕ) (before mid : Progress) (bytes rest : List ℕ) (a b c : Option (List ℕ)) (f g h : ℕ) → Feeds digits before bytes mid a b → f ≤ g
    → ((more : List ℕ) → Stops (content_from digits mid.cutter (rest ++ more)) mid (between b c g h) e)
    → (more : List ℕ) → Stops (content_from digits before.cutter ((bytes ++ rest) ++ more)) before (between a c f h) e
fed_stopped e digits before mid bytes rest a b c f g h fed later stops more =
    let says = ap (content_from digits before.cutter) (append_assoc bytes rest more) ∙ feeds_says digits before mid bytes a b fed (rest ++ more) in
    subst (λ (said : Content). Stops said before (between a c f h) e) (sym says)
    (stops_after e fed.items (content_from digits mid.cutter (rest ++ more)) before mid a b c f g h fed.takes later (stops more))

-- ---- the end of the input

last_says : (digits : ℕ) (old new : Cutting) → new.number ≡ old.number + 1 → to_come old [] ≡ record { lines = new.line ∷ []; fault = None }
    → content_from digits old [] ≡ said_then new.number (item_of digits new.line) no_more
last_says digits old new number lines =
    ap (λ (c : Cut). lines_content digits (old.number + 1) c.lines c.fault) lines ∙ ap (λ n. said_then n (item_of digits new.line) no_more) (sym number)

pub last_taken : (r : Result (Unit {0}) Ended) (digits : ℕ) (before after : Progress) (new : Cutting) (out : Stream) → new.number ≡ before.cutter.number + 1
    → to_come before.cutter [] ≡ record { lines = new.line ∷ []; fault = None }
    → TakesLine new.number (item_of digits new.line) (record before { cutter = new }) after out r → TakesLast digits before after out r
last_taken (Ok done) digits before after new out number lines t =
    (t.0, last_says digits before.cutter new number lines ∙ t.1 no_more ∙ ap (λ (items : List Item). record { items = items; bad = None }) (append-nil t.0), takes_cut t.0 before after new out.old out.new t.2)
last_taken (Err e) digits before after new out number lines stops =
    subst (λ (said : Content). Stops said before out e) (sym (last_says digits before.cutter new number lines)) (stops_cut e _ before new out (stops no_more))

pub none_taken : (digits : ℕ) (before after : Progress) (a : Option (List ℕ)) → to_come before.cutter [] ≡ record { lines = []; fault = None } → after.segmenter ≡ before.segmenter
    → after.run ≡ before.run → (items : List Item) × (content_from digits before.cutter [] ≡ record { items = items; bad = None }) × Takes items before after a a
none_taken digits before after a lines pending run =
    ([], ap (λ (c : Cut). lines_content digits (before.cutter.number + 1) c.lines c.fault) lines, takes_none before after a pending run)

close_stopped : (e : Ended) (before : Progress) (new : Kept) (out : Stream) → Runs before.run (option_to_list (closed_segment before.segmenter)) out new (Err e) → Stops no_more before out e
close_stopped ended.WriteFault before new out h = h
close_stopped ended.NoMemory before new out h = h
close_stopped ended.Done before new out h = absurd h
close_stopped ended.ReadFault before new out h = absurd h
close_stopped (ended.BadLine n fault) before new out h = absurd h

pub closed : (r : Result (Unit {0}) Ended) (digits : ℕ) (before mid : Progress) (new : Kept) (a b c : Option (List ℕ)) (f g h : ℕ) → f ≤ g
    → ((items : List Item) × (content_from digits before.cutter [] ≡ record { items = items; bad = None }) × Takes items before mid a b)
    → Runs mid.run (option_to_list (closed_segment mid.segmenter)) (between b c g h) new r → Closes digits before (between a c f h) r
closed (Ok done) digits before mid new a b c f g h later t runs =
    let says : content_from digits before.cutter [] ≡ with_items t.0 no_more = t.1 ∙ ap (λ (items : List Item). record { items = items; bad = None }) (sym (append-nil t.0)) in
    let rest = subst (λ (k : Kept). Answered k (option_to_list (closed_segment mid.segmenter)) b c) t.2.held runs.1 in
    let whole = answered_more before.run (closed_segments before.segmenter t.0) (option_to_list (closed_segment mid.segmenter)) a b c t.2.answers rest in
    let parts : segments_after before.segmenter (content_from digits before.cutter []) ≡ closed_segments before.segmenter t.0 ++ option_to_list (closed_segment mid.segmenter) =
    ap (segments_after before.segmenter) says ∙ segments_more before.segmenter t.0 no_more
    ∙ ap (λ (p : Pending). closed_segments before.segmenter t.0 ++ option_to_list (closed_segment p)) (sym t.2.pending) in
    (ap (λ (said : Content). said.bad) t.1, subst (λ (segments : List (List Step)). Answered before.run segments a c) (sym parts) whole)
closed (Err e) digits before mid new a b c f g h later t runs =
    let says : content_from digits before.cutter [] ≡ with_items t.0 no_more = t.1 ∙ ap (λ (items : List Item). record { items = items; bad = None }) (sym (append-nil t.0)) in
    subst (λ (said : Content). Stops said before (between a c f h) e) (sym says)
    (stops_after e t.0 no_more before mid a b c f g h t.2 later (close_stopped e mid new (between b c g h) runs))
