-- Words of lists and their references.
use Rattle.std.proofs.Common.{◌≡◌, ℕ, ◌+◌, ◌*◌, ◌/◌, ◌%◌, ◌^◌, ◌<◌, ◌==◌, Bool, true, false, cond, Option, Some, None, refl, ap, sym, ◌∙◌, arith, subst}
use Rattle.std.specs.Prelude.{nat_lt}
use Rattle.std.specs.Option.{option_map, option_map_or, option_and_then}
use Rattle.std.proofs.lemmas.Bool.{lt-ltb}
use Rattle.act_entry.specs.declared.reference.Ref.{Ref}
use Rattle.act_entry.specs.Lists.{IsPair, both_of, pair_of, pair_word, second_of}
use Rattle.act_entry.specs.References.{IsRow, ref_number, ref_of}
use Rattle.act_entry.proofs.RefFacts.{not_zero, number_small, number_some, ref_told, ref_tells}

at_pair : (word : ℕ) → word < 2 ^ 62 → pair_of word ≡ both_of (word % 2 ^ 31) (word / 2 ^ 31)
unfolding pair_of
at_pair word small = let few : nat_lt word (2 ^ 62) ≡ true = lt-ltb word (2 ^ 62) small in rw few refl

-- the word of references tells them
pub told : (a : Ref) (b : Option Ref) → IsPair a b → pair_of (pair_word a b) ≡ Some (a, b)
told a None h =
    let n = ref_number a in
    let few : n < 2 ^ 31 = number_small a h in
    let first : n % 2 ^ 31 ≡ n = omega arith in
    let second : n / 2 ^ 31 ≡ 0 = omega arith in
    at_pair n (omega arith) ∙ rw (first, second, ref_told a h) refl
told a (Some b) h =
    let n = ref_number a in
    let m = ref_number b in
    let few : n < 2 ^ 31 = number_small a h.0 in
    let most : m < 2 ^ 31 = number_small b h.1 in
    let first : (n + m * 2 ^ 31) % 2 ^ 31 ≡ n = omega arith in
    let second : (n + m * 2 ^ 31) / 2 ^ 31 ≡ m = omega arith in
    let some : (m == 0) ≡ false = not_zero m (number_some b h.1) in
    at_pair (n + m * 2 ^ 31) (omega arith) ∙ rw (first, second, ref_told a h.0, some, ref_told b h.1) refl

second_tells : (n : ℕ) (b : Option Ref) → n < 2 ^ 31 → second_of n ≡ Some b
    → (a : Ref) → IsRow a.row → IsPair a b × (pair_word a b ≡ ref_number a + n * 2 ^ 31)
second_tells n b few h a row = by (n == 0) refl (ref_of n) refl h
  where
    by : (zero : Bool) → (n == 0) ≡ zero → (r : Option Ref) → ref_of n ≡ r → cond zero (Some None) (option_map (λ b. Some b) r) ≡ Some b
        → IsPair a b × (pair_word a b ≡ ref_number a + n * 2 ^ 31)
    by true is r told h =
        let its : ◌≡◌ {A = Option Ref} None b = cc in
        let none : n ≡ 0 = grind arith in
        subst (λ b. IsPair a b × (pair_word a b ≡ ref_number a + n * 2 ^ 31)) its (row, omega arith)
    by false is None told h = cc
    by false is (Some r) told h =
        let its : Some r ≡ b = cc in
        let tells = ref_tells n r few told in
        subst (λ b. IsPair a b × (pair_word a b ≡ ref_number a + n * 2 ^ 31)) its ((row, tells.0), ap (λ m. ref_number a + m * 2 ^ 31) tells.1)

both_tell : (n m : ℕ) (a : Ref) (b : Option Ref) → n < 2 ^ 31 → m < 2 ^ 31 → both_of n m ≡ Some (a, b) → IsPair a b × (pair_word a b ≡ n + m * 2 ^ 31)
both_tell n m a b few most h = by (ref_of n) refl (second_of m) refl h
  where
    by : (first : Option Ref) → ref_of n ≡ first → (second : Option (Option Ref)) → second_of m ≡ second
        → option_and_then {U = Ref × Option Ref} (λ a. option_map (λ b. (a, b)) second) first ≡ Some (a, b) → IsPair a b × (pair_word a b ≡ n + m * 2 ^ 31)
    by None told second tells h = cc
    by (Some r) told None tells h = cc
    by (Some r) told (Some s) tells h =
        let its : r ≡ a = ap (λ (o : Option (Ref × Option Ref)). option_map_or (λ (p : Ref × Option Ref). p.0) o r) h in
        let other : s ≡ b = ap (λ (o : Option (Ref × Option Ref)). option_map_or (λ (p : Ref × Option Ref). p.1) o s) h in
        let one = ref_tells n r few told in
        let both = second_tells m s most tells r one.0 in
        let word : pair_word r s ≡ n + m * 2 ^ 31 = both.1 ∙ ap (λ k. k + m * 2 ^ 31) one.1 in
        subst (λ (a : Ref). IsPair a b × (pair_word a b ≡ n + m * 2 ^ 31)) its
        (subst (λ b. IsPair r b × (pair_word r b ≡ n + m * 2 ^ 31)) other (both.0, word))

pub tells : (word : ℕ) (a : Ref) (b : Option Ref) → pair_of word ≡ Some (a, b) → IsPair a b × (pair_word a b ≡ word)
unfolding pair_of
tells word a b h = by (nat_lt word (2 ^ 62)) refl h
  where
    by : (small : Bool) → nat_lt word (2 ^ 62) ≡ small → cond small (both_of (word % 2 ^ 31) (word / 2 ^ 31)) None ≡ Some (a, b) → IsPair a b × (pair_word a b ≡ word)
    by false is h = cc
    by true is h =
        let few : word < 2 ^ 62 = grind arith in
        let low : word % 2 ^ 31 < 2 ^ 31 = omega arith in
        let high : word / 2 ^ 31 < 2 ^ 31 = omega arith in
        let whole : word % 2 ^ 31 + word / 2 ^ 31 * 2 ^ 31 ≡ word = omega arith in
        rw whole at (both_tell (word % 2 ^ 31) (word / 2 ^ 31) a b low high h)
