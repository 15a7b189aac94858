-- How a run ends where the words ask for the demo.
use Rattle.std.proofs.Common.{◌≡◌, ◌⊎◌, ℕ, List, [], Option, Some, None, Result, Ok, Err, refl, arith, subst, inl, inr}
use Rattle.std.specs.Io.KnownBytes.{Keeps}
use Rattle.act_grid.specs.declared.Settings.{Settings}
use Rattle.act_io.specs.Streams.{Stream, Gets, GetsFront, HasFailed}
use Rattle.act_words.specs.Words.{Word, fits}
use Rattle.act_join.specs.declared.fault.SegmentFault.{SegmentFault}
use Rattle.act_join.specs.declared.fault.SegmentFault.TheVariants as why
use Rattle.actjoin.specs.Demo.{summary}
use Rattle.actjoin.specs.Ends.{AskFor, AskForDemo, RunEnds, ShowsDemo, end_of_demo, status_of}
use Rattle.actjoin.specs.declared.ending.Ending.{Ending}
use Rattle.actjoin.specs.declared.ending.Ending.TheVariants as ending
use Rattle.actjoin.proofs.EndFacts.{none_gets, whole_front}
use Rattle.actjoin.proofs.SettingsFacts.{settings_are_one}

-- how a run of this demo ends
abbrev DemoAt : ℕ → Settings → Stream → Stream → Ending → Type 0
DemoAt side settings input out ending.Usage = ⊥
DemoAt side settings input out ending.Unread = Keeps input.old input.new × Keeps out.old out.new
DemoAt side settings input out (ending.Run end) = ⊥
DemoAt side settings input out ending.Shown = Keeps input.old input.new × Gets out (summary side settings)
DemoAt side settings input out (ending.Unshown why.WriteFault) = Keeps input.old input.new × HasFailed out × GetsFront out (summary side settings)
DemoAt side settings input out (ending.Unshown why.NoMemory) = Keeps input.old input.new × GetsFront out (summary side settings)

module _ (words : List Word) (input out : Stream) (side : ℕ) (settings : Settings) where
  same_settings : (n : ℕ) (s : Settings) → AskForDemo words side settings → AskForDemo words n s → s ≡ settings
  same_settings n s fit ask = settings_are_one s settings cc

  same_side : (n : ℕ) (s : Settings) → AskForDemo words side settings → AskForDemo words n s → n ≡ side
  same_side n s fit ask = cc

  no_join : (s : Settings) → AskForDemo words side settings → AskFor words s → ⊥
  no_join s fit ask = cc

  same_text : (n : ℕ) (s : Settings) → AskForDemo words side settings → AskForDemo words n s → summary n s ≡ summary side settings
  same_text n s fit ask =
      let sides = same_side n s fit ask in
      let settled = same_settings n s fit ask in
      rw (sides, settled) refl

  pub demo_at : (e : Ending) → AskForDemo words side settings → RunEnds words input out e → DemoAt side settings input out e
  demo_at ending.Usage fit h = let none : fits words ≡ None = h.0 in cc
  demo_at ending.Unread fit h = (h.unread, h.unwritten)
  demo_at (ending.Run end) fit h = absurd (no_join h.0 fit h.1)
  demo_at ending.Shown fit h = (h.unread, subst (λ (text : List ℕ). Gets out text) (same_text h.side h.settings fit h.asked) h.shows)
  demo_at (ending.Unshown why.WriteFault) fit h =
      (h.unread, h.shows.0, subst (λ (text : List ℕ). GetsFront out text) (same_text h.side h.settings fit h.asked) h.shows.1)
  demo_at (ending.Unshown why.NoMemory) fit h = (h.unread, subst (λ (text : List ℕ). GetsFront out text) (same_text h.side h.settings fit h.asked) h.shows)

  pub demo_unread : (e : Ending) → DemoAt side settings input out e → Keeps input.old input.new
  demo_unread ending.Usage h = absurd h
  demo_unread ending.Unread h = h.0
  demo_unread (ending.Run end) h = absurd h
  demo_unread ending.Shown h = h.0
  demo_unread (ending.Unshown why.WriteFault) h = h.0
  demo_unread (ending.Unshown why.NoMemory) h = h.0

  pub demo_done : (e : Ending) → DemoAt side settings input out e → status_of e ≡ 0 → Gets out (summary side settings)
  demo_done ending.Usage h is = absurd h
  demo_done ending.Unread h is = absurd (omega arith)
  demo_done (ending.Run end) h is = absurd h
  demo_done ending.Shown h is = h.1
  demo_done (ending.Unshown why.WriteFault) h is = absurd (omega arith)
  demo_done (ending.Unshown why.NoMemory) h is = absurd (omega arith)

  pub demo_front : (e : Ending) → DemoAt side settings input out e → GetsFront out (summary side settings)
  demo_front ending.Usage h = absurd h
  demo_front ending.Unread h = none_gets out (summary side settings) h.1
  demo_front (ending.Run end) h = absurd h
  demo_front ending.Shown h = whole_front out (summary side settings) h.1
  demo_front (ending.Unshown why.WriteFault) h = h.2
  demo_front (ending.Unshown why.NoMemory) h = h.1

  pub demo_ends : (e : Ending) → DemoAt side settings input out e → (status_of e ≡ 0) ⊎ (status_of e ≡ 4) ⊎ (status_of e ≡ 5)
  demo_ends ending.Usage h = absurd h
  demo_ends ending.Unread h = inr (inr refl)
  demo_ends (ending.Run end) h = absurd h
  demo_ends ending.Shown h = inl refl
  demo_ends (ending.Unshown why.WriteFault) h = inr (inl refl)
  demo_ends (ending.Unshown why.NoMemory) h = inr (inr refl)

  pub demo_complete : (e : Ending) → DemoAt side settings input out e → (HasFailed out → ⊥) → (status_of e ≡ 0) ⊎ (status_of e ≡ 5)
  demo_complete ending.Usage h put = absurd h
  demo_complete ending.Unread h put = inr refl
  demo_complete (ending.Run end) h put = absurd h
  demo_complete ending.Shown h put = inl refl
  demo_complete (ending.Unshown why.WriteFault) h put = absurd (put h.1)
  demo_complete (ending.Unshown why.NoMemory) h put = inr refl

pub keeps_same : (bytes : Option (List ℕ)) → Keeps bytes bytes
keeps_same None = tt
keeps_same (Some bytes) = refl

-- a demo that was run
pub demo_run : (words : List Word) (input out : Stream) (side : ℕ) (settings : Settings) (r : Result (Unit {0}) SegmentFault) → AskForDemo words side settings
    → Keeps input.old input.new → ShowsDemo side settings out r → RunEnds words input out (end_of_demo r)
demo_run words input out side settings (Ok done) asked unread shows = record { side = side; settings = settings; asked = asked; unread = unread; shows = shows }
demo_run words input out side settings (Err fault) asked unread shows = record { side = side; settings = settings; asked = asked; unread = unread; shows = shows }
