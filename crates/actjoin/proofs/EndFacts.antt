-- How a run ends, from how its parts ended.
use Rattle.std.proofs.Common.{◌≡◌, ◌⊎◌, ℕ, List, [], Some, None, length, take, refl, arith, subst, take_all, inl, inr}
use Rattle.std.specs.Io.KnownBytes.{Keeps}
use Rattle.act_grid.specs.declared.Settings.{Settings}
use Rattle.act_io.specs.Streams.{Stream, Gets, GetsFront, HasFailed}
use Rattle.act_io.proofs.ByteFacts.{appends-kept, appends-none}
use Rattle.act_super.specs.States.{nothing}
use Rattle.act_script.specs.Script.{BadLine, bad_line, script_segments}
use Rattle.act_script.specs.Text.{least_counts}
use Rattle.act_script.proofs.CountFacts.{least_counts_are_fair}
use Rattle.act_words.specs.Words.{Word, fits}
use Rattle.act_join.specs.Ends.{AnswersRead, Ends, GetsText, GetsTextFront, bad_of}
use Rattle.act_join.specs.declared.ended.Ended.TheVariants as ended
use Rattle.act_join.specs.declared.fault.SegmentFault.TheVariants as why
use Rattle.actjoin.specs.Ends.{AskFor, AskForDemo, HasBadLine, RunEnds, first_bad_text, message_of, status_of, status_text}
use Rattle.actjoin.specs.declared.ending.Ending.{Ending}
use Rattle.actjoin.specs.declared.ending.Ending.TheVariants as ending
use Rattle.actjoin.proofs.SettingsFacts.{settings_are_one}

-- a whole text is a front of it, and so is no text
pub whole_front : (s : Stream) (text : List ℕ) → Gets s text → GetsFront s text
whole_front s text h = let all : take (length text) text ≡ text = take_all (length text) text (omega arith) in (length text, rw all h)

pub none_gets : (s : Stream) (text : List ℕ) → Keeps s.old s.new → GetsFront s text
none_gets s text h = (0, appends-kept s.old s.old s.new [] (appends-none s.old) h)

text_front : (settings : Settings) (script : List ℕ) (out : Stream) → GetsText settings script out → GetsTextFront settings script out
text_front settings script out h = (h.0, h.1, whole_front out _ h.2)

none_front : (settings : Settings) (script : List ℕ) (out : Stream) → Keeps out.old out.new → GetsTextFront settings script out
none_front settings script out h = (
  least_counts settings nothing [] 0 (script_segments settings.digits script),
  least_counts_are_fair settings script,
  none_gets out _ h,
)

-- how a run by these settings over a known script ends
abbrev EndsAt : Settings → List ℕ → Stream → Stream → Ending → Type 0
EndsAt settings script input out ending.Usage = ⊥
EndsAt settings script input out ending.Unread = Keeps out.old out.new
EndsAt settings script input out (ending.Run ended.Done) = (input.new ≡ Some []) × (bad_line settings.digits script ≡ None) × GetsText settings script out
EndsAt settings script input out (ending.Run (ended.BadLine n fault)) = (bad_line settings.digits script ≡ Some (bad_of n fault)) × GetsText settings script out
EndsAt settings script input out (ending.Run ended.ReadFault) = HasFailed input × GetsTextFront settings script out × AnswersRead settings script input.new out
EndsAt settings script input out (ending.Run ended.WriteFault) = HasFailed out × GetsTextFront settings script out
EndsAt settings script input out (ending.Run ended.NoMemory) = GetsTextFront settings script out
EndsAt settings script input out ending.Shown = ⊥
EndsAt settings script input out (ending.Unshown fault) = ⊥

module _ (words : List Word) (input out : Stream) (settings : Settings) (script : List ℕ) where
  same : (s : Settings) → AskFor words settings → AskFor words s → s ≡ settings
  same s fit ask = settings_are_one s settings cc

  no_demo : (side : ℕ) (s : Settings) → AskFor words settings → AskForDemo words side s → ⊥
  no_demo side s fit ask = cc

  pub run_at : (e : Ending) → AskFor words settings → input.old ≡ Some script → RunEnds words input out e → EndsAt settings script input out e
  run_at ending.Usage fit told h = let none : fits words ≡ None = h.0 in cc
  run_at ending.Unread fit told h = h.unwritten
  run_at (ending.Run ended.Done) fit told h =
      let ends : Ends settings input out ended.Done = subst (λ (s : Settings). Ends s input out ended.Done) (same h.0 fit h.1) h.2 in
      rw told at ends
  run_at (ending.Run (ended.BadLine n fault)) fit told h =
      let ends : Ends settings input out (ended.BadLine n fault) = subst (λ (s : Settings). Ends s input out (ended.BadLine n fault)) (same h.0 fit h.1) h.2 in
      rw told at ends
  run_at (ending.Run ended.ReadFault) fit told h =
      let ends : Ends settings input out ended.ReadFault = subst (λ (s : Settings). Ends s input out ended.ReadFault) (same h.0 fit h.1) h.2 in
      let read : GetsTextFront settings script out × AnswersRead settings script input.new out = rw told at ends.1 in
      (ends.0, read.0, read.1)
  run_at (ending.Run ended.WriteFault) fit told h =
      let ends : Ends settings input out ended.WriteFault = subst (λ (s : Settings). Ends s input out ended.WriteFault) (same h.0 fit h.1) h.2 in
      let front : GetsTextFront settings script out = rw told at ends.1 in
      (ends.0, front)
  run_at (ending.Run ended.NoMemory) fit told h =
      let ends : Ends settings input out ended.NoMemory = subst (λ (s : Settings). Ends s input out ended.NoMemory) (same h.0 fit h.1) h.2 in
      rw told at ends
  run_at ending.Shown fit told h = absurd (no_demo h.side h.settings fit h.asked)
  run_at (ending.Unshown fault) fit told h = absurd (no_demo h.side h.settings fit h.asked)

  pub done_at : (e : Ending) → EndsAt settings script input out e → status_of e ≡ 0
      → (input.new ≡ Some []) × (bad_line settings.digits script ≡ None) × GetsText settings script out
  done_at ending.Usage h is = absurd h
  done_at ending.Unread h is = absurd (omega arith)
  done_at (ending.Run ended.Done) h is = h
  done_at (ending.Run (ended.BadLine n fault)) h is = absurd (omega arith)
  done_at (ending.Run ended.ReadFault) h is = absurd (omega arith)
  done_at (ending.Run ended.WriteFault) h is = absurd (omega arith)
  done_at (ending.Run ended.NoMemory) h is = absurd (omega arith)
  done_at ending.Shown h is = absurd h
  done_at (ending.Unshown fault) h is = absurd h

  pub bad_at : (e : Ending) → EndsAt settings script input out e → status_of e ≡ 2 → HasBadLine settings script × GetsText settings script out
  bad_at ending.Usage h is = absurd h
  bad_at ending.Unread h is = absurd (omega arith)
  bad_at (ending.Run ended.Done) h is = absurd (omega arith)
  bad_at (ending.Run (ended.BadLine n fault)) h is = (rw h.0 refl, h.1)
  bad_at (ending.Run ended.ReadFault) h is = absurd (omega arith)
  bad_at (ending.Run ended.WriteFault) h is = absurd (omega arith)
  bad_at (ending.Run ended.NoMemory) h is = absurd (omega arith)
  bad_at ending.Shown h is = absurd h
  bad_at (ending.Unshown fault) h is = absurd h

  pub read_at : (e : Ending) → EndsAt settings script input out e → status_of e ≡ 3 → AnswersRead settings script input.new out
  read_at ending.Usage h is = absurd h
  read_at ending.Unread h is = absurd (omega arith)
  read_at (ending.Run ended.Done) h is = absurd (omega arith)
  read_at (ending.Run (ended.BadLine n fault)) h is = absurd (omega arith)
  read_at (ending.Run ended.ReadFault) h is = h.2
  read_at (ending.Run ended.WriteFault) h is = absurd (omega arith)
  read_at (ending.Run ended.NoMemory) h is = absurd (omega arith)
  read_at ending.Shown h is = absurd h
  read_at (ending.Unshown fault) h is = absurd h

  pub front_at : (e : Ending) → EndsAt settings script input out e → GetsTextFront settings script out
  front_at ending.Usage h = absurd h
  front_at ending.Unread h = none_front settings script out h
  front_at (ending.Run ended.Done) h = text_front settings script out h.2
  front_at (ending.Run (ended.BadLine n fault)) h = text_front settings script out h.1
  front_at (ending.Run ended.ReadFault) h = h.1
  front_at (ending.Run ended.WriteFault) h = h.1
  front_at (ending.Run ended.NoMemory) h = h
  front_at ending.Shown h = absurd h
  front_at (ending.Unshown fault) h = absurd h

  no_bad : bad_line settings.digits script ≡ None → HasBadLine settings script → ⊥
  no_bad none bad = let h = rw none at bad in cc

  some_bad : (bad : BadLine) → bad_line settings.digits script ≡ Some bad → bad_line settings.digits script ≡ None → ⊥
  some_bad bad is none = cc

  pub complete_at : (e : Ending) → EndsAt settings script input out e → (HasFailed input → ⊥) → (HasFailed out → ⊥)
      → (bad_line settings.digits script ≡ None → (status_of e ≡ 0) ⊎ (status_of e ≡ 5)) × (HasBadLine settings script → (status_of e ≡ 2) ⊎ (status_of e ≡ 5))
  complete_at ending.Usage h ok put = absurd h
  complete_at ending.Unread h ok put = (λ none. inr refl, λ bad. inr refl)
  complete_at (ending.Run ended.Done) h ok put = (λ none. inl refl, λ bad. absurd (no_bad h.1 bad))
  complete_at (ending.Run (ended.BadLine n fault)) h ok put = (λ none. absurd (some_bad (bad_of n fault) h.0 none), λ bad. inl refl)
  complete_at (ending.Run ended.ReadFault) h ok put = absurd (ok h.0)
  complete_at (ending.Run ended.WriteFault) h ok put = absurd (put h.0)
  complete_at (ending.Run ended.NoMemory) h ok put = (λ none. inr refl, λ bad. inr refl)
  complete_at ending.Shown h ok put = absurd h
  complete_at (ending.Unshown fault) h ok put = absurd h

  pub bad_text_at : (e : Ending) → EndsAt settings script input out e → status_of e ≡ 2 → message_of e ≡ first_bad_text settings script
  bad_text_at ending.Usage h is = absurd h
  bad_text_at ending.Unread h is = absurd (omega arith)
  bad_text_at (ending.Run ended.Done) h is = absurd (omega arith)
  bad_text_at (ending.Run (ended.BadLine n fault)) h is = rw h.0 refl
  bad_text_at (ending.Run ended.ReadFault) h is = absurd (omega arith)
  bad_text_at (ending.Run ended.WriteFault) h is = absurd (omega arith)
  bad_text_at (ending.Run ended.NoMemory) h is = absurd (omega arith)
  bad_text_at ending.Shown h is = absurd h
  bad_text_at (ending.Unshown fault) h is = absurd h

-- the causes of 3 and 4, whatever the words
module _ (words : List Word) (input out : Stream) where
  pub read_cause : (e : Ending) → RunEnds words input out e → status_of e ≡ 3 → HasFailed input
  read_cause ending.Usage h is = absurd (omega arith)
  read_cause ending.Unread h is = absurd (omega arith)
  read_cause (ending.Run ended.Done) h is = absurd (omega arith)
  read_cause (ending.Run (ended.BadLine n fault)) h is = absurd (omega arith)
  read_cause (ending.Run ended.ReadFault) h is = h.2.0
  read_cause (ending.Run ended.WriteFault) h is = absurd (omega arith)
  read_cause (ending.Run ended.NoMemory) h is = absurd (omega arith)
  read_cause ending.Shown h is = absurd (omega arith)
  read_cause (ending.Unshown why.WriteFault) h is = absurd (omega arith)
  read_cause (ending.Unshown why.NoMemory) h is = absurd (omega arith)

  pub write_cause : (e : Ending) → RunEnds words input out e → status_of e ≡ 4 → HasFailed out
  write_cause ending.Usage h is = absurd (omega arith)
  write_cause ending.Unread h is = absurd (omega arith)
  write_cause (ending.Run ended.Done) h is = absurd (omega arith)
  write_cause (ending.Run (ended.BadLine n fault)) h is = absurd (omega arith)
  write_cause (ending.Run ended.ReadFault) h is = absurd (omega arith)
  write_cause (ending.Run ended.WriteFault) h is = h.2.0
  write_cause (ending.Run ended.NoMemory) h is = absurd (omega arith)
  write_cause ending.Shown h is = absurd (omega arith)
  write_cause (ending.Unshown why.WriteFault) h is = h.shows.0
  write_cause (ending.Unshown why.NoMemory) h is = absurd (omega arith)

-- at a status other than 2 the message is the text of the status
pub told_at : (e : Ending) → (status_of e ≡ 2 → ⊥) → message_of e ≡ status_text (status_of e)
told_at ending.Usage other = refl
told_at ending.Unread other = refl
told_at (ending.Run ended.Done) other = refl
told_at (ending.Run (ended.BadLine n fault)) other = absurd (other refl)
told_at (ending.Run ended.ReadFault) other = refl
told_at (ending.Run ended.WriteFault) other = refl
told_at (ending.Run ended.NoMemory) other = refl
told_at ending.Shown other = refl
told_at (ending.Unshown fault) other = refl
