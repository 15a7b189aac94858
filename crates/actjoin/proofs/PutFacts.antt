-- One text after another on a sink.
use Rattle.std.proofs.Common.{◌≡◌, ℕ, List, ◌++◌, ◌+◌, ◌≤◌, ◌∙◌, min, take, length, Option, Result, Ok, Err, refl, arith, inl, inr}
use Rattle.std.proofs.Math.Seq.{take-append-add}
use Rattle.std.proofs.lemmas.List.{take-append-le, take_min}
use Rattle.std.specs.Prelude.{IsErr, OnOk, OnErr}
use Rattle.std.specs.Io.KnownBytes.{Appends}
use Rattle.act_io.specs.Bytes.{AppendsFront}
use Rattle.act_io.specs.Causes.{HasCause}
use Rattle.act_io.specs.Streams.{Stream, GetsFront, GetsOrFails, HasFailed}
use Rattle.act_io.specs.declared.Failed.{Failed}
use Rattle.act_io.proofs.ByteFacts.{appends-more}
use Rattle.actjoin.specs.Ends.{PutsOrFails}

-- a front of the first text is one of both
front_first : (a b : Option (List ℕ)) (x y : List ℕ) → AppendsFront a b x → AppendsFront a b (x ++ y)
front_first a b x y h =
    let n = min h.0 (length x) in
    let same : take n (x ++ y) ≡ take h.0 x = take-append-le n x y (omega arith) ∙ take_min h.0 x in
    (n, rw same h.1)

-- the first text and a front of the second
front_second : (a b c : Option (List ℕ)) (x y : List ℕ) → Appends a b x → AppendsFront b c y → AppendsFront a c (x ++ y)
front_second a b c x y h k =
    (length x + k.0, rw (take-append-add x y k.0) (appends-more a b c x (take k.0 y) (x ++ take k.0 y) h k.1 refl))

-- a text that was put, or a front of it
pub puts : (s : Stream) (x : List ℕ) (r : Result (Unit {0}) Failed) → OnOk r (Appends s.old s.new x) → OnErr r (AppendsFront s.old s.new x)
    → HasCause s.before s.now r → PutsOrFails s x r
puts s x (Ok done) whole front cause = (whole, cause.later)
puts s x (Err fault) whole front cause = (front, cause.failed)

-- the first text failed
pub first_failed : (s : Stream) (x y : List ℕ) (r : Result (Unit {0}) Failed) → IsErr r → GetsFront s x × HasFailed s → PutsOrFails s (x ++ y) r
first_failed s x y (Ok done) is h = cc
first_failed s x y (Err fault) is h = (front_first s.old s.new x y h.0, h.1)

-- the first text was put, and then the second or a front of it
module _ (a b c : Option (List ℕ)) (f g h : ℕ) (x y : List ℕ) where
  pub put_then : (r : Result (Unit {0}) Failed) → Appends a b x × (f ≤ g)
      → PutsOrFails (record { old = b; new = c; before = g; now = h }) y r
      → PutsOrFails (record { old = a; new = c; before = f; now = h }) (x ++ y) r
  put_then (Ok done) first second = (appends-more a b c x y (x ++ y) first.0 second.0 refl, omega (arith, first.1, second.1))
  put_then (Err fault) first second = (front_second a b c x y first.0 second.0, omega (arith, first.1, second.1))

-- a text that was put or failed answers whole or in front
pub puts_told : (s : Stream) (text : List ℕ) (r : Result (Unit {0}) Failed) → PutsOrFails s text r → GetsOrFails s text
puts_told s text (Ok done) h = inl h.0
puts_told s text (Err fault) h = inr h
