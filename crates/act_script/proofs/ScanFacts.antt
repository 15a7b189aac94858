-- Texts that are cut at the first place of a byte.
use Rattle.std.proofs.Common.{◌≡◌, ◌==◌, ℕ, ◌+◌, ◌-◌, ◌<◌, Bool, true, false, List, [], ◌∷◌, length, take, drop, Option, Some, None, refl, arith, take_all, length-drop}
use Rattle.std.specs.Prelude.{IfSome, MatchOption}
use Rattle.std.specs.List.{position_or_len, slice_split}
use Rattle.std.proofs.lemmas.List.{get_or_default}
use Rattle.std.proofs.lemmas.List.Sums.{position_or_len_is}
use Rattle.std.proofs.lemmas.List.Splits.{slice_split_first, slice_split_none}
use Rattle.memchr.specs.Find.{IsFirstByte, is_byte}

pub fails : (b : Bool) → (b ≡ true → ⊥) → b ≡ false
fails true h = absurd (h refl)
fails false h = refl

pub some_of : {X : Type 0} (o : Option X) (P : Type 0) (Q : X → Type 0) → MatchOption o P Q → IfSome o Q
some_of None P Q h = tt
some_of (Some x) P Q h = h

-- the bytes of a slice from a place on
pub slice_rest : (k : ℕ) (xs : List ℕ) → take (length xs - k) (drop k xs) ≡ drop k xs
slice_rest k xs = let size = length-drop k xs in take_all (length xs - k) (drop k xs) (omega arith)

module _ (byte : ℕ) (text : List ℕ) where
  place_found : (n : ℕ) → IsFirstByte (is_byte byte) text (Some n) → position_or_len (λ b. b == byte) text ≡ n
  place_found n found =
      let within : n < length text = found.0.high in
      position_or_len_is (λ b. b == byte) text n 0 (omega arith)
      (λ k below. fails _ (found.0.before k (omega arith) below)) (λ h. found.1)

  pub split_found : (n : ℕ) → IsFirstByte (is_byte byte) text (Some n) → slice_split (λ b. b == byte) text ≡ take n text ∷ slice_split (λ b. b == byte) (drop (n + 1) text)
  split_found n found =
      let at = place_found n found in
      let within : n < length text = found.0.high in
      rw at at (slice_split_first (λ b. b == byte) text 0 (rw at within))

  pub split_none : IsFirstByte (is_byte byte) text None → slice_split (λ b. b == byte) text ≡ text ∷ []
  split_none none = slice_split_none (λ b. b == byte) text (λ k d h. rw (get_or_default text k d 0 h) (fails _ (none k (omega arith) h)))
