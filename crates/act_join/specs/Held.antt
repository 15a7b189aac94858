-- The state between turns, and what turns lead to when each is done before the next.
use Rattle.std.specs.Prelude.{◌≡◌, ◌+◌, ◌++◌, ℕ, Bool, true, false, List, [], ◌∷◌, count_by, filter, length, Result, Ok, Err}
use Rattle.act_grid.specs.declared.Point.{Point}
use Rattle.act_grid.specs.declared.Settings.{Settings}
use Rattle.act_super.specs.declared.entry.State.{State}
use Rattle.act_super.specs.declared.entry.Entry.{Entry}
use Rattle.act_super.specs.States.{nothing}
use Rattle.act_super.specs.Histories.{is_update, state_of}
use Rattle.act_script.specs.declared.segment.Update.{Update}
use Rattle.act_script.specs.Turns.{Turn}
use Rattle.act_script.specs.Turns.Turn.{Asks, Joins}
use Rattle.act_script.specs.History.{accepted_from, decided, entry_of, made_by, state_decided, updates_of}
use Rattle.act_join.specs.Replies.{answer_text}
use Rattle.act_script.specs.Text.{AreFair, reply_text, turns_text}
use Rattle.act_io.specs.Streams.{Stream, Gets, GetsFront, HasFailed}
use Rattle.act_join.specs.declared.fault.SegmentFault.{SegmentFault}
use Rattle.act_join.specs.declared.fault.SegmentFault.TheVariants as fault

-- what is held between turns: the settings, the state, how many entries the history has, and how many of them are updates
pub record Held : Type 0 where
  pub settings : Settings
  pub state : State
  pub version : ℕ
  pub updates : ℕ

-- before the first turn
abbrev pub nothing_held : Settings → Held
nothing_held settings = record { settings = settings; state = nothing; version = 0; updates = 0 }

-- after an update is decided, where a training has this sample
abbrev pub after_asked : Held → List Point → Update → Held
after_asked held sample asked = record held {
  state = decided held.settings held.state (entry_of held.settings held.state sample asked);
  version = held.version + length (made_by held.settings held.state (Asks sample asked));
  updates = held.updates + updates_of (made_by held.settings held.state (Asks sample asked));
}

abbrev pub after_turn : Held → Turn → Held
after_turn held (Asks sample asked) = after_asked held sample asked
after_turn held (Joins batch) = held

abbrev pub held_from : Held → List Turn → Held
held_from held [] = held
held_from held (first ∷ turns) = held_from (after_turn held first) turns

-- the reply to a turn that is done here
abbrev pub turn_text : Held → Turn → List ℕ
turn_text held (Asks sample asked) = reply_text held.settings held.state sample asked
turn_text held (Joins batch) = answer_text held.updates held.state.zones batch

-- the replies to turns that are done in their order
abbrev pub own_text : Held → List Turn → List ℕ
own_text held [] = []
own_text held (first ∷ turns) = turn_text held first ++ own_text (after_turn held first) turns

-- how many updates were accepted before each batch
abbrev pub turn_counts : Held → Turn → List ℕ
turn_counts held (Asks sample asked) = []
turn_counts held (Joins batch) = held.updates ∷ []

abbrev pub own_counts : Held → List Turn → List ℕ
own_counts held [] = []
own_counts held (first ∷ turns) = turn_counts held first ++ own_counts (after_turn held first) turns

-- how many of the turns are batches
abbrev pub is_join : Turn → Bool
is_join (Asks sample asked) = false
is_join (Joins batch) = true

abbrev pub joins_in : List Turn → ℕ
joins_in turns = count_by is_join turns

-- the entries that the turns make
abbrev pub accepted_in : Held → List Turn → List Entry
accepted_in held turns = accepted_from held.settings held.state turns

-- what is held once the updates of the turns are decided in order
abbrev pub after_turns : Held → List Turn → Held
after_turns held turns = record held {
  state = state_decided held.settings held.state turns;
  version = held.version + length (accepted_in held turns);
  updates = held.updates + updates_of (accepted_in held turns);
}

-- a history that leads here: its entries lead to the state, and its updates are as many as were accepted
pub record LeadsTo (held : Held) (history : List Entry) : Type 0 where
  pub state : state_of held.settings history ≡ held.state
  pub updates : length (filter is_update history) ≡ held.updates

-- one fair count for each batch
pub record IsFairFor (held : Held) (turns : List Turn) (counts : List ℕ) : Type 0 where
  pub one_each : length counts ≡ joins_in turns
  pub fair : AreFair held.updates (after_turns held turns).updates counts

-- the text of the turns with these counts, in each history that leads here, goes on with the entries that the turns make
-- and then in any way
abbrev pub IsTextFor : Held → List Turn → List ℕ → List ℕ → Type 0
IsTextFor held turns counts text = (before later : List Entry) → LeadsTo held before
    → text ≡ turns_text held.settings (before ++ (accepted_in held turns ++ later)) held.state turns counts

-- a text of the turns, with one list of fair counts
pub record IsReplyTo (held : Held) (turns : List Turn) (text : List ℕ) : Type 0 where
  pub counts : List ℕ
  pub fair : IsFairFor held turns counts
  pub is : IsTextFor held turns counts text

-- the output got exactly such a text, and it got a front of one
abbrev pub GetsReply : Held → List Turn → Stream → Type 0
GetsReply held turns out = (text : List ℕ) × IsReplyTo held turns text × Gets out text

abbrev pub GetsReplyFront : Held → List Turn → Stream → Type 0
GetsReplyFront held turns out = (text : List ℕ) × IsReplyTo held turns text × GetsFront out text

-- what the output got where the turns were done so far
abbrev pub Answers : Held → List Turn → Stream → Result (Unit {0}) SegmentFault → Type 0
Answers held turns out (Ok done) = GetsReply held turns out
Answers held turns out (Err fault.WriteFault) = GetsReplyFront held turns out × HasFailed out
Answers held turns out (Err fault.NoMemory) = GetsReplyFront held turns out
