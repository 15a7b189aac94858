-- How a run of a whole script ends, and what then holds.
use Rattle.std.specs.Prelude.{◌≡◌, ◌⊎◌, ◌++◌, ℕ, List, [], Option, Some, None, IfSome}
use Rattle.std.proofs.Common.{inl, inr}
use Rattle.act_grid.specs.declared.Settings.{Settings}
use Rattle.act_io.specs.Streams.{Stream, Gets, GetsFront, HasFailed}
use Rattle.act_super.specs.States.{nothing}
use Rattle.act_script.specs.declared.cutter.CutFault.{CutFault}
use Rattle.act_script.specs.declared.fault.LineFault.{LineFault}
use Rattle.act_script.specs.Script.{BadLine, bad_line, ended_segments}
use Rattle.act_script.specs.Text.{IsFair, IsFairFrom, segments_text, text_of}
use Rattle.act_join.specs.declared.ended.ScriptFault.{ScriptFault}
use Rattle.act_join.specs.declared.ended.ScriptFault.TheVariants as why
use Rattle.act_join.specs.declared.ended.Ended.{Ended}
use Rattle.act_join.specs.declared.ended.Ended.TheVariants as ended

-- a bad line, by its number and its fault
abbrev pub fault_of : ScriptFault → LineFault ⊎ CutFault
fault_of (why.Line fault) = inl fault
fault_of (why.Cut fault) = inr fault

abbrev pub bad_of : ℕ → ScriptFault → BadLine
bad_of n fault = record { number = n; fault = fault_of fault }

-- the output got exactly the text of the script for one list of fair counts
abbrev pub GetsText : Settings → List ℕ → Stream → Type 0
GetsText settings script out = (counts : List ℕ) × IsFair settings script counts × Gets out (text_of settings script counts)

-- it got a front of such a text
abbrev pub GetsTextFront : Settings → List ℕ → Stream → Type 0
GetsTextFront settings script out = (counts : List ℕ) × IsFair settings script counts × GetsFront out (text_of settings script counts)

-- it got exactly the text of the segments that are closed by the lines of these bytes that end with a line feed
abbrev pub GetsEnded : Settings → List ℕ → Stream → Type 0
GetsEnded settings bytes out =
    (counts : List ℕ) × IsFairFrom settings nothing [] 0 (ended_segments settings.digits bytes) counts
    × Gets out (segments_text settings (ended_segments settings.digits bytes) counts)

-- a part of the script was read, and the segments closed in it were answered
abbrev pub AnswersRead : Settings → List ℕ → Option (List ℕ) → Stream → Type 0
AnswersRead settings script None out = ⊥
AnswersRead settings script (Some left) out = (read : List ℕ) × (script ≡ read ++ left) × GetsEnded settings read out

-- what holds where a run over the input and the output ends so
abbrev pub Ends : Settings → Stream → Stream → Ended → Type 0
Ends settings input out ended.Done =
    IfSome input.old (λ script. (input.new ≡ Some []) × (bad_line settings.digits script ≡ None) × GetsText settings script out)
Ends settings input out (ended.BadLine n fault) =
    IfSome input.old (λ script. (bad_line settings.digits script ≡ Some (bad_of n fault)) × GetsText settings script out)
Ends settings input out ended.ReadFault =
    HasFailed input × IfSome input.old (λ script. GetsTextFront settings script out × AnswersRead settings script input.new out)
Ends settings input out ended.WriteFault = HasFailed out × IfSome input.old (λ script. GetsTextFront settings script out)
Ends settings input out ended.NoMemory = IfSome input.old (λ script. GetsTextFront settings script out)
