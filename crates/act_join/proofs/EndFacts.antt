-- How a run of a whole script ends.
use Rattle.std.proofs.Common.{◌≡◌, ◌==◌, ℕ, ◌+◌, ◌≤◌, arith, Bool, true, false, List, [], ◌++◌, Option, Some, None, Result, Ok, Err, refl, ap, sym, subst, ◌∙◌, append-nil}
use Rattle.std.specs.Prelude.{IfSome, if◌then◌else◌, unwrap_or}
use Rattle.std.specs.Option.{option_map_or}
use Rattle.std.specs.Io.KnownBytes.{Consumes, IsAtEnd, Keeps}
use Rattle.act_io.proofs.ByteFacts.{consumes-kept, consumes-more}
use Rattle.act_grid.specs.declared.Settings.{Settings}
use Rattle.act_io.specs.Streams.{HasFailed}
use Rattle.act_script.specs.Cutting.{Cutting, IsOpen}
use Rattle.act_script.specs.Lines.{cut_from, lines_of, refused, without_mark}
use Rattle.act_script.specs.Script.{Content, ended_part, ended_segments, lines_content, script_content, script_segments, with_items}
use Rattle.act_script.specs.Segments.{Pending, closed_segments, nothing_pending}
use Rattle.act_script.specs.declared.cutter.CutFault.{CutFault}
use Rattle.act_script.specs.declared.item.Item.{Item}
use Rattle.act_script.specs.declared.segment.Step.{Step}
use Rattle.act_join.specs.Ends.{AnswersRead, Ends, GetsEnded, GetsText, GetsTextFront}
use Rattle.act_join.specs.Feeds.{Answered, AnsweredFront, Closes, Feeds, IsStart, IsWithin, Stops, at_start, content_from, ended_of, segments_after}
use Rattle.act_join.specs.Kept.{Kept, nothing_kept}
use Rattle.act_join.specs.declared.ended.Ended.{Ended}
use Rattle.act_join.specs.declared.ended.Ended.TheVariants as ended
use Rattle.act_join.specs.declared.progress.Progress.{Progress}
use Rattle.act_join.proofs.AnswerFacts.{nothing_front, whole_answered}
use Rattle.act_join.proofs.FeedFacts.{answered_after, stopped_front, stops_after}
use Rattle.act_join.proofs.PieceFacts.{fed_stopped, feeds_says, open_ended}
use Rattle.act_join.proofs.PutFacts.{between}

-- ---- what is written is the text of the script

gets_text : (settings : Settings) (script : List ℕ) (a b : Option (List ℕ)) (f g : ℕ) → Answered (nothing_kept settings) (script_segments settings.digits script) a b → GetsText settings script (between a b f g)
gets_text settings script a b f g answers =
    let whole = whole_answered settings (script_segments settings.digits script) answers.0 answers.1 in
    (whole.0, whole.1, rw whole.2 answers.2)

gets_front : (settings : Settings) (script : List ℕ) (a b : Option (List ℕ)) (f g : ℕ) → AnsweredFront (nothing_kept settings) (script_segments settings.digits script) a b → GetsTextFront settings script (between a b f g)
gets_front settings script a b f g front =
    let whole = whole_answered settings (script_segments settings.digits script) front.0 front.1 in
    (whole.0, whole.1, rw whole.2 front.2)

-- before anything is written
pub nothing_written : (settings : Settings) (left written : Option (List ℕ)) (f g : ℕ) → IfSome left (λ script. GetsTextFront settings script (between written written f g))
nothing_written settings None written f g = tt
nothing_written settings (Some script) written f g = gets_front settings script written written f g (nothing_front (nothing_kept settings) (script_segments settings.digits script) written)

-- what a progress before the first byte sees is the whole script
abbrev first : Settings → Progress
first settings = record { cutter = record { number = 0; held = []; line = []; fault = None }; segmenter = nothing_pending; run = nothing_kept settings }

is_first : (settings : Settings) (start : Progress) → IsStart settings start → start ≡ first settings
is_first settings start is =
    ap (λ (c : Cutting). record { cutter = c; segmenter = start.segmenter; run = start.run }) is.cutter
    ∙ ap (λ (p : Pending). record { cutter = (first settings).cutter; segmenter = p; run = start.run }) is.segmenter
    ∙ ap (λ (k : Kept). record { cutter = (first settings).cutter; segmenter = nothing_pending; run = k }) is.run

-- ---- where reading stopped

-- the bytes that are left, where they are told
abbrev left_of : Option (List ℕ) → List ℕ
left_of rest = unwrap_or rest []

first_stopped : (e : Ended) (settings : Settings) (bytes : List ℕ) (left rest : Option (List ℕ)) (p q : ℕ) (a b : Option (List ℕ)) (f g : ℕ) → Consumes left rest bytes
    → Stops (content_from settings.digits (first settings).cutter (bytes ++ left_of rest)) (first settings) (between a b f g) e
    → Ends settings (between left rest p q) (between a b f g) e
first_stopped (ended.BadLine n fault) settings bytes None rest p q a b f g consumed stops = tt
first_stopped (ended.BadLine n fault) settings bytes (Some script) None p q a b f g consumed stops = absurd consumed
first_stopped (ended.BadLine n fault) settings bytes (Some script) (Some more) p q a b f g consumed stops =
    rw consumed (stops.0, gets_text settings (bytes ++ more) a b f g stops.1)
first_stopped ended.WriteFault settings bytes None rest p q a b f g consumed stops = (stops.0, tt)
first_stopped ended.WriteFault settings bytes (Some script) None p q a b f g consumed stops = absurd consumed
first_stopped ended.WriteFault settings bytes (Some script) (Some more) p q a b f g consumed stops =
    rw consumed (stops.0, gets_front settings (bytes ++ more) a b f g stops.1)
first_stopped ended.NoMemory settings bytes None rest p q a b f g consumed stops = tt
first_stopped ended.NoMemory settings bytes (Some script) None p q a b f g consumed stops = absurd consumed
first_stopped ended.NoMemory settings bytes (Some script) (Some more) p q a b f g consumed stops =
    rw consumed (gets_front settings (bytes ++ more) a b f g stops)
first_stopped ended.ReadFault settings bytes left rest p q a b f g consumed stops = absurd stops
first_stopped ended.Done settings bytes left rest p q a b f g consumed stops = absurd stops

-- ---- the end of the input

none_left : (rest : Option (List ℕ)) → IsAtEnd rest → left_of rest ≡ []
none_left None end = refl
none_left (Some more) end = end

first_closed : (r : Result (Unit {0}) Ended) (settings : Settings) (now : Progress) (bytes : List ℕ) (left rest : Option (List ℕ)) (p q : ℕ) (a b c : Option (List ℕ)) (f g h : ℕ)
    → Consumes left rest bytes → IsAtEnd rest → Feeds settings.digits (first settings) bytes now a b → f ≤ g → Closes settings.digits now (between b c g h) r
    → Ends settings (between left rest p q) (between a c f h) (ended_of r)
first_closed (Ok done) settings now bytes None rest p q a b c f g h consumed end fed later closes = tt
first_closed (Ok done) settings now bytes (Some script) None p q a b c f g h consumed end fed later closes = absurd consumed
first_closed (Ok done) settings now bytes (Some script) (Some more) p q a b c f g h consumed end fed later closes =
    let digits = settings.digits in
    let said = content_from digits now.cutter [] in
    let says : script_content digits script ≡ with_items fed.items said =
    ap (script_content digits) (consumed ∙ ap (λ (l : List ℕ). bytes ++ l) end) ∙ feeds_says digits (first settings) now bytes a b fed [] in
    let answers = answered_after fed.items said (first settings) now a b c fed.takes closes.1 in
    let segments = ap (segments_after nothing_pending) (sym says) in (
      ap Some end,
      ap (λ (content : Content). content.bad) says ∙ closes.0,
      gets_text settings script a c f h (subst (λ (segments : List (List Step)). Answered (nothing_kept settings) segments a c) segments answers),
    )
first_closed (Err e) settings now bytes left rest p q a b c f g h consumed end fed later stops =
    let digits = settings.digits in
    let said = content_from digits now.cutter [] in
    let says : content_from digits (first settings).cutter (bytes ++ []) ≡ with_items fed.items said = feeds_says digits (first settings) now bytes a b fed [] in
    let there = stops_after e fed.items said (first settings) now a b c f g h fed.takes later stops in
    let all : content_from digits (first settings).cutter (bytes ++ left_of rest) ≡ with_items fed.items said =
    ap (λ (l : List ℕ). content_from digits (first settings).cutter (bytes ++ l)) (none_left rest end) ∙ says in
    first_stopped e settings bytes left rest p q a c f h consumed (subst (λ (content : Content). Stops content (first settings) (between a c f h) e) (sym all) there)

-- ---- a fault of the input

nothing_said : (digits : ℕ) (at : Cutting) → (content_from digits (at_start at) []).items ≡ []
nothing_said digits at = by at.fault (at.number == 0)
  where
    by : (fault : Option CutFault) (t : Bool)
        → (lines_content digits (at.number + 1) (option_map_or refused fault (cut_from at.number (lines_of (if t then without_mark [] else [])))).lines
        (option_map_or refused fault (cut_from at.number (lines_of (if t then without_mark [] else [])))).fault).items ≡ []
    by None true = refl
    by None false = refl
    by (Some why) t = refl

read_part : (settings : Settings) (now : Progress) (bytes : List ℕ) (a b : Option (List ℕ)) (fed : Feeds settings.digits (first settings) bytes now a b) → IsOpen now.cutter.held
    → ended_part bytes ≡ fed.lines
read_part settings now bytes a b fed none = ap ended_part fed.whole ∙ fed.are_lines now.cutter.held ∙ ap (λ (l : List ℕ). fed.lines ++ l) (open_ended now.cutter.held none) ∙ append-nil fed.lines

-- the segments that were run are those that the ended lines close
read_segments : (settings : Settings) (now : Progress) (bytes : List ℕ) (a b : Option (List ℕ)) (fed : Feeds settings.digits (first settings) bytes now a b) → IsOpen now.cutter.held
    → ended_segments settings.digits bytes ≡ closed_segments nothing_pending fed.items
read_segments settings now bytes a b fed none =
    let digits = settings.digits in
    let said = content_from digits (at_start now.cutter) [] in
    let items : (script_content digits fed.lines).items ≡ fed.items =
    ap (λ (l : List ℕ). (script_content digits l).items) (sym (append-nil fed.lines)) ∙ ap (λ (content : Content). content.items) (fed.says [])
    ∙ ap (λ (more : List Item). fed.items ++ more) (nothing_said digits now.cutter) ∙ append-nil fed.items in
    ap (λ (l : List ℕ). closed_segments nothing_pending (script_content digits l).items) (read_part settings now bytes a b fed none) ∙ ap (closed_segments nothing_pending) items

first_failed : (settings : Settings) (now : Progress) (bytes : List ℕ) (left rest a b : Option (List ℕ)) (f g : ℕ) → Consumes left rest bytes → IsOpen now.cutter.held
    → Feeds settings.digits (first settings) bytes now a b
    → IfSome left (λ script. GetsTextFront settings script (between a b f g) × AnswersRead settings script rest (between a b f g))
first_failed settings now bytes None rest a b f g consumed none fed = tt
first_failed settings now bytes (Some script) None a b f g consumed none fed = absurd consumed
first_failed settings now bytes (Some script) (Some more) a b f g consumed none fed =
    let digits = settings.digits in
    let said = content_from digits now.cutter more in
    let says : script_content digits script ≡ with_items fed.items said = ap (script_content digits) consumed ∙ feeds_says digits (first settings) now bytes a b fed more in
    let front = stopped_front fed.items said (first settings) now a b b fed.takes (nothing_front now.run (segments_after now.segmenter said) b) in
    let segments : segments_after nothing_pending (with_items fed.items said) ≡ script_segments digits script = ap (segments_after nothing_pending) (sym says) in
    let whole = whole_answered settings (closed_segments nothing_pending fed.items) fed.takes.answers.0 fed.takes.answers.1 in
    let got : GetsEnded settings bytes (between a b f g) = rw (read_segments settings now bytes a b fed none) (whole.0, whole.1, rw whole.2 fed.takes.answers.2) in (
      gets_front settings script a b f g (subst (λ (segments : List (List Step)). AnsweredFront (nothing_kept settings) segments a b) segments front),
      (bytes, consumed, got),
    )

-- ---- the same where a run begins before the first byte

pub stopped_there : (e : Ended) (settings : Settings) (start now : Progress) (bytes piece : List ℕ) (left mid rest : Option (List ℕ)) (p q : ℕ) (a b c : Option (List ℕ)) (f g h : ℕ) → IsStart settings start
    → Consumes left mid bytes → Consumes mid rest piece → Feeds settings.digits start bytes now a b → f ≤ g
    → ((more : List ℕ) → Stops (content_from settings.digits now.cutter (piece ++ more)) now (between b c g h) e)
    → Ends settings (between left rest p q) (between a c f h) e
stopped_there e settings start now bytes piece left mid rest p q a b c f g h is consumed next fed later stops =
    let fed : Feeds settings.digits (first settings) bytes now a b = subst (λ (at : Progress). Feeds settings.digits at bytes now a b) (is_first settings start is) fed in
    first_stopped e settings (bytes ++ piece) left rest p q a c f h (consumes-more left mid rest bytes piece (bytes ++ piece) consumed next refl)
    (fed_stopped e settings.digits (first settings) now bytes piece a b c f g h fed later stops (left_of rest))

pub closed_there : (r : Result (Unit {0}) Ended) (settings : Settings) (start now : Progress) (bytes : List ℕ) (left mid rest : Option (List ℕ)) (p q : ℕ) (a b c : Option (List ℕ)) (f g h : ℕ) → IsStart settings start
    → Consumes left mid bytes → Consumes mid rest [] → IsAtEnd rest → Feeds settings.digits start bytes now a b → f ≤ g → Closes settings.digits now (between b c g h) r
    → Ends settings (between left rest p q) (between a c f h) (ended_of r)
closed_there r settings start now bytes left mid rest p q a b c f g h is consumed next end fed later closes =
    first_closed r settings now bytes left rest p q a b c f g h (consumes-more left mid rest bytes [] bytes consumed next (sym (append-nil bytes))) end
    (subst (λ (at : Progress). Feeds settings.digits at bytes now a b) (is_first settings start is) fed) later closes

pub failed_there : (settings : Settings) (start now : Progress) (bytes : List ℕ) (left mid rest a b : Option (List ℕ)) (p q f g : ℕ) → IsStart settings start → Consumes left mid bytes → Keeps mid rest
    → IsOpen now.cutter.held → Feeds settings.digits start bytes now a b → HasFailed (between left rest p q)
    → Ends settings (between left rest p q) (between a b f g) ended.ReadFault
failed_there settings start now bytes left mid rest a b p q f g is consumed same none fed failed =
    (failed, first_failed settings now bytes left rest a b f g (consumes-kept left mid rest bytes consumed same) none (subst (λ (at : Progress). Feeds settings.digits at bytes now a b) (is_first settings start is) fed))

pub start_within : (settings : Settings) (start : Progress) → IsStart settings start → IsWithin start
start_within settings start is = subst IsWithin (sym (is_first settings start is)) (record {
  number = omega arith;
  limits = record { number = omega arith; last = λ e. refl; open_line = tt; short = omega arith };
})
