-- One text after another, on a sink and in a buffer before it.
use Rattle.std.proofs.Common.{◌≡◌, ℕ, List, [], ◌++◌, ◌+◌, min, take, length, Option, Result, Ok, Err, refl, arith, ap, sym, ◌∙◌, append_assoc, append-nil}
use Rattle.std.proofs.Math.Seq.{take-append-add}
use Rattle.std.proofs.lemmas.List.{take-append-le, take_min}
use lib.Seq.{take-append_seam}
use Rattle.std.specs.Prelude.{IsErrAnd}
use Rattle.std.specs.Io.KnownBytes.{Appends}
use Rattle.act_io.specs.Bytes.{AppendsFront}
use Rattle.act_io.specs.Streams.{Stream}
use Rattle.act_io.proofs.ByteFacts.{appends-more, appends-none}
use Rattle.act_join.specs.Puts.{IsAt, Stops, Puts}
use Rattle.act_join.specs.declared.fault.SegmentFault.{SegmentFault}
use Rattle.act_join.specs.declared.fault.SegmentFault.TheVariants as fault

abbrev pub between : Option (List ℕ) → Option (List ℕ) → ℕ → ℕ → Stream
between a b f g = record { old = a; new = b; before = f; now = g }

-- a front of the first text is one of both
pub front_first : (a b : Option (List ℕ)) (x y : List ℕ) → AppendsFront a b x → AppendsFront a b (x ++ y)
front_first a b x y h =
    let n = min h.0 (length x) in
    let same : take n (x ++ y) ≡ take h.0 x = take-append-le n x y (omega arith) ∙ take_min h.0 x in
    (n, rw same h.1)

-- the first text and a front of the second
pub front_second : (a b c : Option (List ℕ)) (x y : List ℕ) → Appends a b x → AppendsFront b c y → AppendsFront a c (x ++ y)
front_second a b c x y h k =
    (length x + k.0, rw (take-append-add x y k.0) (appends-more a b c x (take k.0 y) (x ++ take k.0 y) h k.1 refl))

-- before the first byte
pub at_start : (a : Option (List ℕ)) (f : ℕ) (buffer rest : List ℕ) → IsAt (between a a f f) buffer rest (buffer ++ rest)
at_start a f buffer rest = record { written = []; gets = appends-none a; all = refl; later = omega arith }

-- the buffer grew
pub at_pushed : (a b : Option (List ℕ)) (f g : ℕ) (old new text rest whole : List ℕ) → IsAt (between a b f g) old (text ++ rest) whole → new ≡ old ++ text
    → IsAt (between a b f g) new rest whole
at_pushed a b f g old new text rest whole at grown = record {
  written = at.written;
  gets = at.gets;
  all = ap (λ x. at.written ++ (x ++ rest)) grown ∙ ap (λ x. at.written ++ x) (append_assoc old text rest) ∙ at.all;
  later = at.later;
}

-- a text more was put
pub at_more : (a b c : Option (List ℕ)) (f g h : ℕ) (old new text rest whole : List ℕ) → IsAt (between a b f g) old (text ++ rest) whole
    → IsAt (between b c g h) new [] (old ++ text) → IsAt (between a c f h) new rest whole
at_more a b c f g h old new text rest whole at put = record {
  written = at.written ++ put.written;
  gets = appends-more a b c at.written put.written (at.written ++ put.written) at.gets put.gets refl;
  all = append_assoc at.written put.written (new ++ rest)
      ∙ ap (λ x. at.written ++ x) (sym (append_assoc put.written new rest) ∙ ap (λ x. x ++ rest) (ap (λ x. put.written ++ x) (sym (append-nil new)) ∙ put.all) ∙ append_assoc old text rest)
      ∙ at.all;
  later = omega (arith, at.later, put.later);
}

-- what was written is a front of the whole
at_front : (a b : Option (List ℕ)) (f g : ℕ) (buffer rest whole : List ℕ) → IsAt (between a b f g) buffer rest whole → AppendsFront a b whole
at_front a b f g buffer rest whole at =
    let same : take (length at.written) whole ≡ at.written = ap (take (length at.written)) (sym at.all) ∙ take-append_seam at.written (buffer ++ rest) in
    (length at.written, rw same at.gets)

pub at_unfed : (a b : Option (List ℕ)) (f g : ℕ) (buffer rest whole : List ℕ) → IsAt (between a b f g) buffer rest whole → Stops (between a b f g) whole fault.NoMemory
at_unfed a b f g buffer rest whole at = at_front a b f g buffer rest whole at

-- the next text was not put to its end
front_after : (a b c : Option (List ℕ)) (f g : ℕ) (old text rest whole : List ℕ) → IsAt (between a b f g) old (text ++ rest) whole → AppendsFront b c (old ++ text) → AppendsFront a c whole
front_after a b c f g old text rest whole at front =
    let whole_is : at.written ++ ((old ++ text) ++ rest) ≡ whole = ap (λ x. at.written ++ x) (append_assoc old text rest) ∙ at.all in
    rw (← whole_is) (front_second a b c at.written ((old ++ text) ++ rest) at.gets (front_first b c (old ++ text) rest front))

pub at_stops : (a b c : Option (List ℕ)) (f g h : ℕ) (old text rest whole : List ℕ) (why : SegmentFault) → IsAt (between a b f g) old (text ++ rest) whole
    → Stops (between b c g h) (old ++ text) why → Stops (between a c f h) whole why
at_stops a b c f g h old text rest whole fault.WriteFault at stop = (front_after a b c f g old text rest whole at stop.0, omega (arith, at.later, stop.1))
at_stops a b c f g h old text rest whole fault.NoMemory at stop = front_after a b c f g old text rest whole at stop

-- the last text decides
pub puts_last : (a b c : Option (List ℕ)) (f g h : ℕ) (first old new text : List ℕ) (r : Result (Unit {0}) SegmentFault)
    → IsAt (between a b f g) old text first → Puts (between b c g h) old new text r → Puts (between a c f h) [] new first r
puts_last a b c f g h first old new text (Ok done) at put =
    at_more a b c f g h old new text [] first (rw (append-nil text) at) put
puts_last a b c f g h first old new text (Err why) at stop =
    at_stops a b c f g h old text [] first why (rw (append-nil text) at) stop

-- a call within a text was not done to its end
pub puts_stops : (a b c : Option (List ℕ)) (f g h : ℕ) (old text rest first total buffer : List ℕ) (why : SegmentFault) (r : Result (Unit {0}) SegmentFault)
    → IsErrAnd r (λ e. e ≡ why) → IsAt (between a b f g) old (text ++ rest) (first ++ total) → Stops (between b c g h) (old ++ text) why
    → Puts (between a c f h) first buffer total r
puts_stops a b c f g h old text rest first total buffer why (Ok done) told at stop = absurd told
puts_stops a b c f g h old text rest first total buffer why (Err e) told at stop = rw told (at_stops a b c f g h old text rest (first ++ total) why at stop)
