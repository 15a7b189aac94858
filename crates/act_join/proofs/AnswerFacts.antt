-- The text of segments that are run one after another.
use Rattle.std.proofs.Common.{◌≡◌, ℕ, ◌≤◌, List, [], ◌∷◌, ◌++◌, Option, drop, length, refl, arith, ap, sym, subst, ◌∙◌, append_assoc, append-nil, length-append}
use Rattle.std.proofs.lemmas.List.{drop-append-le, drop_all, take-append-le, take_all}
use Rattle.act_grid.specs.declared.Point.{Point}
use Rattle.act_grid.specs.declared.Settings.{Settings}
use Rattle.act_io.proofs.ByteFacts.{appends-more, appends-none}
use Rattle.act_super.specs.declared.entry.Entry.{Entry}
use Rattle.act_super.specs.States.{nothing}
use Rattle.act_script.specs.Segments.{batches_in}
use Rattle.act_script.specs.declared.segment.Step.{Step}
use Rattle.act_script.specs.Turns.{Turn, points_after, points_from, turns_from, turns_of}
use Rattle.act_script.specs.Turns.Turn.{Asks, Joins}
use Rattle.act_script.specs.History.{history_in, made_by}
use Rattle.act_script.specs.Text.{IsFairFrom, segments_text, turns_text}
use Rattle.act_io.specs.Streams.{Stream}
use Rattle.act_join.specs.Held.{GetsReply, GetsReplyFront, Held, IsReplyTo, IsTextFor, LeadsTo, accepted_in, after_asked, after_turns, joins_in, own_text}
use Rattle.act_join.specs.Kept.{Kept, after_segment, after_segments, nothing_kept}
use Rattle.act_join.specs.Feeds.{Answered, AnsweredFront, IsAnswer}
use Rattle.act_join.proofs.HeldFacts.{held_is, leads_on, own_reply, turns_step}
use Rattle.act_join.proofs.PutFacts.{front_first, front_second}
use Rattle.act_join.proofs.TextFacts.{accepted_more, after_more, joins_are, joins_both, points_more, text_more, turns_more}

-- ---- turns in two parts

none_held : (held : Held) → after_turns held [] ≡ held
none_held held = sym (held_is held [])

-- a history goes on with the entries that turns make
leads_more : (held : Held) (turns : List Turn) (before : List Entry) → LeadsTo held before → LeadsTo (after_turns held turns) (before ++ accepted_in held turns)
leads_more held [] before leads = rw (none_held held, append-nil before) leads
leads_more held (Joins batch ∷ turns) before leads = leads_more held turns before leads
leads_more held (Asks sample asked ∷ turns) before leads =
    let made = made_by held.settings held.state (Asks sample asked) in
    let next = after_asked held sample asked in
    let rest = leads_more next turns (before ++ made) (leads_on held sample asked before leads) in
    rw (← turns_step held (Asks sample asked) turns, ← append_assoc before made (accepted_in next turns)) rest

text_joined : (held : Held) (xs ys : List Turn) (cs ds t u : List ℕ) → length cs ≡ joins_in xs → IsTextFor held xs cs t → IsTextFor (after_turns held xs) ys ds u
    → IsTextFor held (xs ++ ys) (cs ++ ds) (t ++ u)
text_joined held xs ys cs ds t u each first second before later leads =
    let end = after_turns held xs in
    let a = accepted_in held xs in
    let b = accepted_in end ys in
    let parts : accepted_in held (xs ++ ys) ≡ a ++ b = accepted_more held.settings held.state xs ys in
    let history = before ++ (a ++ (b ++ later)) in
    let same : before ++ (accepted_in held (xs ++ ys) ++ later) ≡ history = ap (λ es. before ++ (es ++ later)) parts ∙ ap (λ es. before ++ es) (append_assoc a b later) in
    let one : t ≡ turns_text held.settings history held.state xs cs = first before (b ++ later) leads in
    let two : u ≡ turns_text held.settings history end.state ys ds =
    second (before ++ a) later (leads_more held xs before leads) ∙ ap (λ es. turns_text held.settings es end.state ys ds) (append_assoc before a (b ++ later)) in
    ap (λ w. w ++ u) one ∙ ap (λ w. turns_text held.settings history held.state xs cs ++ w) two
    ∙ sym (text_more history held.settings held.state xs ys cs ds each)
    ∙ ap (λ es. turns_text held.settings es held.state (xs ++ ys) (cs ++ ds)) (sym same)

-- ---- segments in two parts

pub none_after : (kept : Kept) → after_segments kept [] ≡ kept
none_after kept = ap (λ (h : Held). record { held = h; points = kept.points }) (none_held kept.held)

-- what is kept after the first segment, and after those behind it
one_after : (kept : Kept) (x : List Step) (xs : List (List Step)) → after_segments (after_segment kept x) xs ≡ after_segments kept (x ∷ xs)
one_after kept x xs =
    let next = points_after kept.points x in
    ap (λ (h : Held). record { held = h; points = points_from next xs }) (sym (after_more kept.held (turns_of kept.points x) (turns_from next xs)))

pub both_after : (kept : Kept) (xs ys : List (List Step)) → after_segments kept (xs ++ ys) ≡ after_segments (after_segments kept xs) ys
both_after kept xs ys =
    let one = turns_from kept.points xs in
    let mid = points_from kept.points xs in
    let two = turns_from mid ys in
    ap (λ (turns : List Turn). record { held = after_turns kept.held turns; points = points_from kept.points (xs ++ ys) }) (turns_more kept.points xs ys)
    ∙ ap (λ (h : Held). record { held = h; points = points_from kept.points (xs ++ ys) }) (after_more kept.held one two)
    ∙ ap (λ (points : List Point). record { held = after_turns (after_turns kept.held one) two; points = points }) (points_more kept.points xs ys)

abbrev FairFor : Kept → List (List Step) → List ℕ → Type 0
FairFor kept segments counts = IsFairFrom kept.held.settings kept.held.state kept.points kept.held.updates segments counts

fair_more : (kept : Kept) (xs ys : List (List Step)) (cs ds : List ℕ) → FairFor kept xs cs → FairFor (after_segments kept xs) ys ds → FairFor kept (xs ++ ys) (cs ++ ds)
fair_more kept [] ys cs ds none fair = rw none (subst (λ (k : Kept). FairFor k ys ds) (none_after kept) fair)
fair_more kept (x ∷ xs) ys cs ds first fair =
    let n = batches_in x in
    let enough : n ≤ length cs = first.0 in
    let rest = fair_more (after_segment kept x) xs ys (drop n cs) ds first.2 (subst (λ (k : Kept). FairFor k ys ds) (sym (one_after kept x xs)) fair) in (
      omega (arith, length-append cs ds),
      rw (take-append-le n cs ds enough) first.1,
      rw (drop-append-le n cs ds enough) rest,
    )

pub none_answered : (kept : Kept) → IsAnswer kept [] []
none_answered kept = record { counts = []; each = refl; fair = refl; is = λ before later leads. refl }

one_answered : (kept : Kept) (segment : List Step) (text : List ℕ) → IsReplyTo kept.held (turns_of kept.points segment) text → IsAnswer kept (segment ∷ []) text
one_answered kept segment text reply =
    let turns = turns_of kept.points segment in
    let all : turns ++ [] ≡ turns = append-nil turns in
    let n = batches_in segment in
    let each : length reply.counts ≡ n = reply.fair.one_each ∙ joins_are kept.points segment in
    record {
      counts = reply.counts;
      each = rw all reply.fair.one_each;
      fair = (omega (arith, each), rw (take_all n reply.counts (omega (arith, each))) reply.fair.fair, drop_all n reply.counts (omega (arith, each)));
      is = rw all reply.is;
    }

-- a segment alone was run, or a front of its replies was written
alone_after : (kept : Kept) (segment : List Step) → after_segment kept segment ≡ after_segments kept (segment ∷ [])
alone_after kept segment = sym (none_after (after_segment kept segment)) ∙ one_after kept segment []

pub ran : (kept new : Kept) (segment : List Step) (out : Stream) → new ≡ after_segment kept segment → GetsReply kept.held (turns_of kept.points segment) out
    → (new ≡ after_segments kept (segment ∷ [])) × Answered kept (segment ∷ []) out.old out.new
ran kept new segment out same gets = (same ∙ alone_after kept segment, (gets.0, one_answered kept segment gets.0 gets.1, gets.2))

pub ran_front : (kept : Kept) (segment : List Step) (out : Stream) → GetsReplyFront kept.held (turns_of kept.points segment) out → AnsweredFront kept (segment ∷ []) out.old out.new
ran_front kept segment out gets = (gets.0, one_answered kept segment gets.0 gets.1, gets.2)

pub more_answered : (kept : Kept) (xs ys : List (List Step)) (t u : List ℕ) → IsAnswer kept xs t → IsAnswer (after_segments kept xs) ys u → IsAnswer kept (xs ++ ys) (t ++ u)
more_answered kept xs ys t u first second =
    let one = turns_from kept.points xs in
    let two = turns_from (points_from kept.points xs) ys in
    let parts : turns_from kept.points (xs ++ ys) ≡ one ++ two = turns_more kept.points xs ys in
    record {
      counts = first.counts ++ second.counts;
      each = rw parts (omega (arith, length-append first.counts second.counts, first.each, second.each, joins_both one two));
      fair = fair_more kept xs ys first.counts second.counts first.fair second.fair;
      is = rw parts (text_joined kept.held one two first.counts second.counts t u first.each first.is second.is);
    }

-- any segments have a text
own_answer : (kept : Kept) (xs : List (List Step)) → (text : List ℕ) × IsAnswer kept xs text
own_answer kept [] = ([], none_answered kept)
own_answer kept (x ∷ xs) =
    let turns = turns_of kept.points x in
    let rest = own_answer (after_segments kept (x ∷ [])) xs in
    (own_text kept.held turns ++ rest.0, more_answered kept (x ∷ []) xs (own_text kept.held turns) rest.0 (one_answered kept x (own_text kept.held turns) (own_reply kept.held turns)) rest.1)

-- ---- the segments of a whole script

pub whole_answered : (settings : Settings) (xs : List (List Step)) (text : List ℕ) → IsAnswer (nothing_kept settings) xs text
    → (counts : List ℕ) × IsFairFrom settings nothing [] 0 xs counts × (segments_text settings xs counts ≡ text)
whole_answered settings xs text answer =
    let history : history_in settings xs ++ [] ≡ history_in settings xs = append-nil (history_in settings xs) in
    let is = answer.is [] [] (record { state = refl; updates = refl }) in
    (answer.counts, answer.fair, sym (is ∙ ap (λ es. turns_text settings es nothing (turns_from [] xs) answer.counts) history))

-- ---- known bytes that grow by the text

pub nothing_answered : (kept : Kept) (a : Option (List ℕ)) → Answered kept [] a a
nothing_answered kept a = ([], none_answered kept, appends-none a)

pub answered_more : (kept : Kept) (xs ys : List (List Step)) (a b c : Option (List ℕ)) → Answered kept xs a b → Answered (after_segments kept xs) ys b c
    → Answered kept (xs ++ ys) a c
answered_more kept xs ys a b c first second =
    (first.0 ++ second.0, more_answered kept xs ys first.0 second.0 first.1 second.1, appends-more a b c first.0 second.0 (first.0 ++ second.0) first.2 second.2 refl)

pub front_more : (kept : Kept) (xs ys : List (List Step)) (a b c : Option (List ℕ)) → Answered kept xs a b → AnsweredFront (after_segments kept xs) ys b c
    → AnsweredFront kept (xs ++ ys) a c
front_more kept xs ys a b c first second =
    (first.0 ++ second.0, more_answered kept xs ys first.0 second.0 first.1 second.1, front_second a b c first.0 second.0 first.2 second.2)

-- a front of the text of some segments is one of the text of more
pub front_longer : (kept : Kept) (xs ys : List (List Step)) (a b : Option (List ℕ)) → AnsweredFront kept xs a b → AnsweredFront kept (xs ++ ys) a b
front_longer kept xs ys a b front =
    let rest = own_answer (after_segments kept xs) ys in
    (front.0 ++ rest.0, more_answered kept xs ys front.0 rest.0 front.1 rest.1, front_first a b front.0 rest.0 front.2)

-- nothing is a front of any text
pub nothing_front : (kept : Kept) (xs : List (List Step)) (a : Option (List ℕ)) → AnsweredFront kept xs a a
nothing_front kept xs a = let text = own_answer kept xs in (text.0, text.1, (0, appends-none a))
