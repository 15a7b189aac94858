-- Sets of layers, a bit for each.
use Rattle.std.proofs.Common.{◌≡◌, ◌≢◌, ℕ, zero, suc, ◌-◌, ◌*◌, ◌/◌, ◌%◌, ◌^◌, ◌<◌, ◌⊎◌, inl, inr, Bool, true, eqb, ◌||◌, List, [], ◌∷◌, length, get_or, set, refl, sym, ap, ◌∙◌, arith, bit_or}
use Rattle.std.specs.Int.{bit_at, w64}
use Rattle.std.proofs.lemmas.List.{get_or-set_same, get_or-set_other}
use Rattle.std.proofs.lemmas.Bool.Decides.{nat_tests}
use Rattle.std.proofs.lemmas.Nat.Bits.{bit_at_ones, bit_at_set_same, bit_at_set_other}

ones_at : (k : ℕ) → k < 4 → get_or ((2 ^ 64 - 1) ∷ ((2 ^ 64 - 1) ∷ ((2 ^ 64 - 1) ∷ ((2 ^ 64 - 1) ∷ [])))) k 0 ≡ 2 ^ 64 - 1
ones_at zero h = refl
ones_at (suc zero) h = refl
ones_at (suc (suc zero)) h = refl
ones_at (suc (suc (suc zero))) h = refl
ones_at (suc (suc (suc (suc k)))) h = absurd (omega arith)

pub all_are_in : (n : ℕ) → n < 256 → eqb (bit_at (get_or ((2 ^ 64 - 1) ∷ ((2 ^ 64 - 1) ∷ ((2 ^ 64 - 1) ∷ ((2 ^ 64 - 1) ∷ [])))) (n / 64) 0) (n % 64)) 1 ≡ true
all_are_in n h = ap (λ v. eqb (bit_at v (n % 64)) 1) (ones_at (n / 64) (omega arith)) ∙ ap (λ v. eqb v 1) (bit_at_ones 64 (n % 64) (omega arith))

abbrev put : List ℕ → ℕ → ℕ → List ℕ
put words i b = set words i (bit_or (get_or words i 0) (1 * 2 ^ b % 2 ^ 64))

same_bit : (words : List ℕ) (i b : ℕ) → i < length words → b < 64 → bit_at (get_or (put words i b) i 0) b ≡ 1
same_bit words i b h k =
    ap (λ v. bit_at v b) (get_or-set_same words i (bit_or (get_or words i 0) (1 * 2 ^ b % 2 ^ 64)) 0 h) ∙ bit_at_set_same w64 (get_or words i 0) b k

other_bit : (words : List ℕ) (i b c : ℕ) → i < length words → b < 64 → c ≢ b → bit_at (get_or (put words i b) i 0) c ≡ bit_at (get_or words i 0) c
other_bit words i b c h k n =
    ap (λ v. bit_at v c) (get_or-set_same words i (bit_or (get_or words i 0) (1 * 2 ^ b % 2 ^ 64)) 0 h) ∙ bit_at_set_other w64 (get_or words i 0) b k c n

other_word : (words : List ℕ) (i b j : ℕ) → j ≢ i → get_or (put words i b) j 0 ≡ get_or words j 0
other_word words i b j n = get_or-set_other words i j (bit_or (get_or words i 0) (1 * 2 ^ b % 2 ^ 64)) 0 n

-- the sets before and after one layer is put in
pub one_more : (words : List ℕ) (layer n : ℕ) → length words ≡ 4 → layer < 256 → n < 256
    → eqb (bit_at (get_or (put words (layer / 64) (layer % 64)) (n / 64) 0) (n % 64)) 1 ≡ (eqb n layer || eqb (bit_at (get_or words (n / 64) 0) (n % 64)) 1)
one_more words layer n l h k =
    elim (either n layer) [
      | inl e ↦ here (bit_at (get_or (put words (layer / 64) (layer % 64)) (n / 64) 0) (n % 64)) (eqb (bit_at (get_or words (n / 64) 0) (n % 64)) 1) e
          (ap (λ m. bit_at (get_or (put words (layer / 64) (layer % 64)) (m / 64) 0) (m % 64)) e ∙ same_bit words (layer / 64) (layer % 64) (omega arith) (omega arith))
      | inr u ↦ elim u [
        | inl e ↦ apart (λ m. e (ap (λ v. v / 64) m)) (ap (λ v. bit_at v (n % 64)) (other_word words (layer / 64) (layer % 64) (n / 64) e))
        | inr e ↦ apart (λ m. e.1 (ap (λ v. v % 64) m))
            (ap (λ v. bit_at (get_or (put words (layer / 64) (layer % 64)) v 0) (n % 64)) e.0 ∙ other_bit words (layer / 64) (layer % 64) (n % 64) (omega arith) (omega arith) e.1
            ∙ ap (λ v. bit_at (get_or words v 0) (n % 64)) (sym e.0))
      ]
    ]
  where
    either : (n m : ℕ) → (n ≡ m) ⊎ ((n / 64 ≢ m / 64) ⊎ ((n / 64 ≡ m / 64) × (n % 64 ≢ m % 64)))
    either n m = grind arith

    here : (b : ℕ) (old : Bool) → n ≡ layer → b ≡ 1 → eqb b 1 ≡ (eqb n layer || old)
    here b old e f = grind (arith, nat_tests)

    apart : {b c : ℕ} → n ≢ layer → b ≡ c → eqb b 1 ≡ (eqb n layer || eqb c 1)
    apart ne f = grind (arith, nat_tests)
