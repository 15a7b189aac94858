-- What a call wrote, and what it left in the buffer.
use Rattle.std.specs.Prelude.{◌≡◌, ◌≤◌, ◌++◌, ℕ, List, [], Result, Ok, Err}
use Rattle.act_io.specs.Streams.{Stream, Gets, GetsFront, HasFailed}
use Rattle.act_join.specs.declared.fault.SegmentFault.{SegmentFault}
use Rattle.act_join.specs.declared.fault.SegmentFault.TheVariants as fault

-- how far a text has come: what was written, what is in the buffer and what is still to come are the whole
pub record IsAt (out : Stream) (buffer rest whole : List ℕ) : Type 0 where
  pub written : List ℕ
  pub gets : Gets out written
  pub all : written ++ (buffer ++ rest) ≡ whole
  pub later : out.before ≤ out.now

-- a call that stopped has written a front of the text
abbrev pub Stops : Stream → List ℕ → SegmentFault → Type 0
Stops out whole fault.WriteFault = GetsFront out whole × HasFailed out
Stops out whole fault.NoMemory = GetsFront out whole

-- a text was added to what is written and in the buffer
abbrev pub Puts : Stream → List ℕ → List ℕ → List ℕ → Result (Unit {0}) SegmentFault → Type 0
Puts out old new text (Ok done) = IsAt out new [] (old ++ text)
Puts out old new text (Err why) = Stops out (old ++ text) why

-- a text was written, or a front of it
abbrev pub Writes : Stream → List ℕ → Result (Unit {0}) SegmentFault → Type 0
Writes out text (Ok done) = Gets out text
Writes out text (Err why) = Stops out text why
