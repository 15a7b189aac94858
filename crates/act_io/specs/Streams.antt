-- What a call does to a source or a sink.
use Rattle.std.specs.Prelude.{ℕ, List, Option, ◌⊎◌}
use Rattle.std.specs.Io.KnownBytes.{Appends}
use Rattle.act_io.specs.Bytes.{AppendsFront}
use Rattle.act_io.specs.Causes.{Rose}

-- the bytes of a source or a sink before and after a call, where they are told, and its faults before and after
pub record Stream : Type 0 where
  pub old : Option (List ℕ)
  pub new : Option (List ℕ)
  pub before : ℕ
  pub now : ℕ

abbrev pub stream : {D : Type 0} → (D → Option (List ℕ)) → (D → ℕ) → D → D → Stream
stream bytes faults old new = record { old = bytes old; new = bytes new; before = faults old; now = faults new }

-- the call met a fault of it
abbrev pub HasFailed : Stream → Type 0
HasFailed s = Rose s.before s.now

-- it got exactly this text
abbrev pub Gets : Stream → List ℕ → Type 0
Gets s text = Appends s.old s.new text

-- it got a front of this text
abbrev pub GetsFront : Stream → List ℕ → Type 0
GetsFront s text = AppendsFront s.old s.new text

-- it got exactly this text, or it failed and got a front of it
abbrev pub GetsOrFails : Stream → List ℕ → Type 0
GetsOrFails s text = Gets s text ⊎ (GetsFront s text × HasFailed s)
