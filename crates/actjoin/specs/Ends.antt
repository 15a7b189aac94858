-- How a run of the program ends, with its status, its message, and what then holds.
use Rattle.std.specs.Prelude.{◌≡◌, ◌==◌, ◌≤◌, if◌then◌else◌, ℕ, List, [], Some, None, IsSome, Result, Ok, Err, codes}
use Rattle.std.specs.Option.{option_map_or}
use Rattle.std.specs.Io.KnownBytes.{Keeps}
use Rattle.act_grid.specs.declared.Settings.{Settings}
use Rattle.act_io.specs.Streams.{Stream, HasFailed, Gets, GetsFront}
use Rattle.act_io.specs.declared.Failed.{Failed}
use Rattle.act_script.specs.Script.{bad_line}
use Rattle.act_words.specs.Words.{Word, fits, wanted_of}
use Rattle.act_words.specs.Words.Asks.{Joins, Shows}
use Rattle.act_join.specs.Ends.{Ends, bad_of}
use Rattle.act_join.specs.declared.ended.Ended.TheVariants as ended
use Rattle.act_join.specs.declared.fault.SegmentFault.{SegmentFault}
use Rattle.act_join.specs.declared.fault.SegmentFault.TheVariants as why
use Rattle.actjoin.specs.Demo.{summary}
use Rattle.actjoin.specs.Faults.{bad_line_text}
use Rattle.actjoin.specs.declared.ending.Ending.{Ending}
use Rattle.actjoin.specs.declared.ending.Ending.TheVariants as ending

-- the exit status
abbrev pub status_of : Ending → ℕ
status_of ending.Usage = 1
status_of ending.Unread = 5
status_of (ending.Run ended.Done) = 0
status_of (ending.Run (ended.BadLine n fault)) = 2
status_of (ending.Run ended.ReadFault) = 3
status_of (ending.Run ended.WriteFault) = 4
status_of (ending.Run ended.NoMemory) = 5
status_of ending.Shown = 0
status_of (ending.Unshown why.WriteFault) = 4
status_of (ending.Unshown why.NoMemory) = 5

-- how a demo ends
abbrev pub end_of_demo : Result (Unit {0}) SegmentFault → Ending
end_of_demo (Ok done) = ending.Shown
end_of_demo (Err fault) = ending.Unshown fault

-- the text on the error output at a status other than 2
abbrev pub status_text : ℕ → List ℕ
status_text status =
    if status == 1 then codes "usage: actjoin join [--digits D] [--rows R] [--cells C] [--workers W] | demo N [--rows R] [--cells C] [--workers W]\n"
    else if status == 3 then codes "read fault\n"
    else if status == 4 then codes "write fault\n"
    else if status == 5 then codes "out of memory\n"
    else []

-- the text on the error output
abbrev pub message_of : Ending → List ℕ
message_of (ending.Run (ended.BadLine n fault)) = bad_line_text (bad_of n fault)
message_of end = status_text (status_of end)

-- a whole text was put, or the output failed and got a front of it
abbrev pub PutsOrFails : Stream → List ℕ → Result (Unit {0}) Failed → Type 0
PutsOrFails out text (Ok done) = Gets out text × (out.before ≤ out.now)
PutsOrFails out text (Err fault) = GetsFront out text × HasFailed out

-- the words ask to join with these settings
abbrev pub AskFor : List Word → Settings → Type 0
AskFor words settings = fits words ≡ Some (Joins (wanted_of settings))

-- the words ask for the demo with so many zones a side
abbrev pub AskForDemo : List Word → ℕ → Settings → Type 0
AskForDemo words side settings = fits words ≡ Some (Shows side (wanted_of settings))

-- nothing was read and nothing written
pub record AreUntouched (input out : Stream) : Type 0 where
  pub unread : Keeps input.old input.new
  pub unwritten : Keeps out.old out.new

-- the summary of the demo was put, or a front of it
abbrev pub ShowsDemo : ℕ → Settings → Stream → Result (Unit {0}) SegmentFault → Type 0
ShowsDemo side settings out (Ok done) = Gets out (summary side settings)
ShowsDemo side settings out (Err why.WriteFault) = HasFailed out × GetsFront out (summary side settings)
ShowsDemo side settings out (Err why.NoMemory) = GetsFront out (summary side settings)

-- a demo that the words ask for ended so, and nothing was read
pub record EndsDemo (words : List Word) (input out : Stream) (result : Result (Unit {0}) SegmentFault) : Type 0 where
  pub side : ℕ
  pub settings : Settings
  pub asked : AskForDemo words side settings
  pub unread : Keeps input.old input.new
  pub shows : ShowsDemo side settings out result

-- what holds where a run by these words over the input and the output ends so
abbrev pub RunEnds : List Word → Stream → Stream → Ending → Type 0
RunEnds words input out ending.Usage = (fits words ≡ None) × AreUntouched input out
RunEnds words input out ending.Unread = AreUntouched input out
RunEnds words input out (ending.Run end) = (settings : Settings) × AskFor words settings × Ends settings input out end
RunEnds words input out ending.Shown = EndsDemo words input out (Ok tt)
RunEnds words input out (ending.Unshown fault) = EndsDemo words input out (Err fault)

-- a script with a bad line, and the text on its first
abbrev pub HasBadLine : Settings → List ℕ → Type 0
HasBadLine settings script = IsSome (bad_line settings.digits script)

abbrev pub first_bad_text : Settings → List ℕ → List ℕ
first_bad_text settings script = option_map_or bad_line_text (bad_line settings.digits script) []
