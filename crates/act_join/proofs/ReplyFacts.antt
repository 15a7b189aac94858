-- What is written is a reply to the turns.
use Rattle.std.proofs.Common.{◌≡◌, ℕ, List, [], ◌++◌, ◌≤◌, Option, Result, Ok, Err, ap, sym, ◌∙◌, append-nil, arith}
use Rattle.std.specs.Prelude.{OnOk, IsErrAnd}
use Rattle.act_io.specs.Streams.{Stream}
use Rattle.act_join.specs.Puts.{IsAt, Stops, Puts, Writes}
use Rattle.act_script.specs.Turns.{Turn}
use Rattle.act_io.proofs.ByteFacts.{appends-none}
use Rattle.act_join.specs.Held.{Held, Answers, IsReplyTo, own_text}
use Rattle.act_join.specs.declared.fault.SegmentFault.{SegmentFault}
use Rattle.act_join.specs.declared.fault.SegmentFault.TheVariants as fault
use Rattle.act_join.proofs.HeldFacts.{own_reply}
use Rattle.act_join.proofs.PutFacts.{between, at_more, at_stops}

-- the putting was stopped
pub stopped : (text : List ℕ) (out : Stream) (old : List ℕ) (why : SegmentFault) (r : Result (Unit {0}) SegmentFault) → IsErrAnd r (λ e. e ≡ why) → old ≡ []
    → Stops out (old ++ text) why → Writes out text r
stopped text out old why (Ok done) told empty stop = absurd told
stopped text out old fault.WriteFault (Err e) told empty stop = rw told (rw empty at stop)
stopped text out old fault.NoMemory (Err e) told empty stop = rw told (rw empty at stop)

-- a text was put, and then the buffer was written
pub flushed : (a b c : Option (List ℕ)) (f g h : ℕ) (text old mid new : List ℕ) (r : Result (Unit {0}) SegmentFault) → old ≡ []
    → IsAt (between a b f g) mid [] (old ++ text) → Puts (between b c g h) mid new [] r → OnOk r (new ≡ []) → Writes (between a c f h) text r
flushed a b c f g h text old mid new (Ok done) empty at put none =
    let whole = at_more a b c f g h mid new [] [] (old ++ text) at put in
    let all : whole.written ≡ text = sym (append-nil whole.written) ∙ ap (λ x. whole.written ++ (x ++ [])) (sym none) ∙ whole.all ∙ ap (λ x. x ++ text) empty in
    rw all at whole.gets
flushed a b c f g h text old mid new (Err why) empty at stop none =
    rw empty at (at_stops a b c f g h mid [] [] (old ++ text) why at stop)

-- the reply to the turns was written, or a front of it
pub answers_written : (held : Held) (turns : List Turn) (out : Stream) (text : List ℕ) (r : Result (Unit {0}) SegmentFault) → IsReplyTo held turns text → Writes out text r → Answers held turns out r
answers_written held turns out text (Ok done) reply gets = (text, reply, gets)
answers_written held turns out text (Err fault.WriteFault) reply stop = ((text, reply, stop.0), stop.1)
answers_written held turns out text (Err fault.NoMemory) reply stop = (text, reply, stop)

-- nothing was done
pub unsolved : (held : Held) (turns : List Turn) (a : Option (List ℕ)) (f g : ℕ) → Answers held turns (between a a f g) (Err fault.NoMemory)
unsolved held turns a f g = (own_text held turns, own_reply held turns, (0, appends-none a))

-- the count of faults never falls
pub later_on : (a b c : Option (List ℕ)) (f g h : ℕ) (whole mid new : List ℕ) (r : Result (Unit {0}) SegmentFault)
    → IsAt (between a b f g) mid [] whole → Puts (between b c g h) mid new [] r → OnOk r (f ≤ h)
later_on a b c f g h whole mid new (Ok done) at put = omega (arith, at.later, put.later)
later_on a b c f g h whole mid new (Err why) at put = tt
