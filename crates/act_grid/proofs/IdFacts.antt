-- The lowest 1 of a number, and the ids of cells.
use Rattle.std.proofs.Common.{◌≡◌, ◌≢◌, ℕ, ◌+◌, ◌-◌, ◌*◌, ◌/◌, ◌%◌, ◌^◌, ◌<◌, ◌≤◌, ◌⊎◌, inl, inr, sym, ap, ◌∙◌, subst, arith}
use Rattle.std.specs.Int.{bit_at, trailing_zeros, w64}
use Rattle.std.proofs.lemmas.Nat.{pow_pos, pow-add, div-add-mod', shl-shr, shr-shr, mod_below, shr_below, shr_split}
use Rattle.std.proofs.lemmas.Nat.Bits.{bit_at-trailing_zeros, bit_at_above, bit_at_cat_low, bit_at-zero, same_from_bits}
use Rattle.act_grid.specs.Cell.{Address, IsCell, id_of}
use Rattle.act_grid.proofs.CellFacts.{four, half_span}

-- a number is a multiple of 2 ^ k where its k lowest bits are 0
low_zero : (n k : ℕ) → ((i : ℕ) → i < k → bit_at n i ≡ 0) → n % 2 ^ k ≡ 0
low_zero n k h = same_from_bits (n % 2 ^ k) 0 each
  where
    each : (i : ℕ) → bit_at (n % 2 ^ k) i ≡ bit_at 0 i
    each i = elim (either i k) [
      | inl l ↦ sym (bit_at_cat_low (n / 2 ^ k) k (n % 2 ^ k) i l) ∙ ap (λ v. bit_at v i) (shr_split n k) ∙ h i l ∙ sym (bit_at-zero i)
      | inr l ↦ bit_at_above (n % 2 ^ k) k i (mod_below n (2 ^ k) (pow_pos k)) l ∙ sym (bit_at-zero i)
    ]
      where
        either : (i k : ℕ) → (i < k) ⊎ (k ≤ i)
        either i k = grind arith

-- k is the place of the lowest 1 of n
pub record IsLowest (n k : ℕ) : Type 0 where
  pub set : bit_at n k ≡ 1
  pub below : (i : ℕ) → i < k → bit_at n i ≡ 0

pub lowest_is_one : (n j k : ℕ) → IsLowest n j → IsLowest n k → j ≡ k
lowest_is_one n j k a b = elim (order j k) [
  | inl l ↦ absurd (omega (arith, a.set, b.below j l))
  | inr u ↦ elim u [ inl l ↦ absurd (omega (arith, b.set, a.below k l)) | inr e ↦ e ]
]
  where
    order : (j k : ℕ) → (j < k) ⊎ ((k < j) ⊎ (j ≡ k))
    order j k = grind arith

pub parts_by_lowest : (n k : ℕ) → IsLowest n k → n / 2 ^ (k + 1) * 2 ^ (k + 1) + 2 ^ k ≡ n
parts_by_lowest n k h =
    let half : n / 2 ^ k / 2 ≡ n / 2 ^ (k + 1) = shr-shr n k 1 in
    omega (arith, shr_split n k, low_zero n k h.below, h.set, half, ap (λ v. v * 2 ^ k) (div-add-mod' (n / 2 ^ k) 2), ap (λ v. n / 2 ^ (k + 1) * v) (pow-add 2 k 1), ap (λ v. v * 2 * 2 ^ k) half, ap (λ v. v * 2 ^ k) h.set)

pub odd_multiple : (p k : ℕ) → IsLowest ((2 * p + 1) * 2 ^ k) k
odd_multiple p k = record {
  set = ap (λ v. v % 2) (shl-shr (2 * p + 1) k) ∙ omega arith;
  below = λ i h. ap (λ v. bit_at v i) (sym (zero_more ((2 * p + 1) * 2 ^ k))) ∙ bit_at_cat_low (2 * p + 1) k 0 i h ∙ bit_at-zero i;
}
  where
    zero_more : (n : ℕ) → n + 0 ≡ n
    zero_more n = omega arith

id_as_odd : (c : Address) → IsCell c → id_of c ≡ (2 * c.path + 1) * 2 ^ (60 - 2 * c.level)
id_as_odd c h = omega (arith, ap (λ v. c.path * v) (half_span c h))

pub id_lowest : (c : Address) → IsCell c → IsLowest (id_of c) (60 - 2 * c.level)
id_lowest c h = subst (λ n. IsLowest n (60 - 2 * c.level)) (sym (id_as_odd c h)) (odd_multiple c.path (60 - 2 * c.level))

pub zeros_lowest : (n : ℕ) → 0 < n → n < 2 ^ 64 → IsLowest n (trailing_zeros w64 n)
zeros_lowest n h k =
    let t = bit_at-trailing_zeros w64 n h k in
    record { set = t.1; below = t.2 }

pub zeros_few : (n : ℕ) → 0 < n → n < 2 ^ 61 → trailing_zeros w64 n ≤ 60
zeros_few n h k = elim (either (trailing_zeros w64 n)) [
  | inl l ↦ l
  | inr l ↦ absurd (omega (arith, (zeros_lowest n h (omega arith)).set, bit_at_above n 61 (trailing_zeros w64 n) k l))
]
  where
    either : (m : ℕ) → (m ≤ 60) ⊎ (61 ≤ m)
    either m = grind arith

-- no cell has an id whose lowest 1 is at an odd place
pub no_odd : (n t : ℕ) → t ≡ trailing_zeros w64 n → 0 < n → n < 2 ^ 61 → t % 2 ≡ 1 → (c : Address) → IsCell c → id_of c ≢ n
no_odd n t e h k o c i f =
    let l : trailing_zeros w64 n ≡ 60 - 2 * c.level = lowest_is_one n _ _ (zeros_lowest n h (omega arith)) (subst (λ m. IsLowest m (60 - 2 * c.level)) f (id_lowest c i)) in
    absurd (omega (arith, i.deep))

pub from_zeros : (n t : ℕ) → t ≡ trailing_zeros w64 n → 0 < n → n < 2 ^ 61 → t % 2 ≢ 1
    → IsCell (record { level = (60 - t) / 2; path = n / 2 ^ (t + 1) }) × (id_of (record { level = (60 - t) / 2; path = n / 2 ^ (t + 1) }) ≡ n)
from_zeros n t e h k o =
    let few : t ≤ 60 = subst (λ v. v ≤ 60) (sym e) (zeros_few n h k) in
    let low : IsLowest n t = subst (IsLowest n) (sym e) (zeros_lowest n h (omega arith)) in
    let same : 60 - 2 * ((60 - t) / 2) ≡ t = omega arith in
    let next : 61 - 2 * ((60 - t) / 2) ≡ t + 1 = omega arith in
    let twice : 2 * ((60 - t) / 2) ≡ 60 - t = omega arith in
    let all : 60 - t + (t + 1) ≡ 61 = omega arith in
    let small : n / 2 ^ (t + 1) < 2 ^ (60 - t) = shr_below n (60 - t) (t + 1) (subst (λ v. n < 2 ^ v) (sym all) k) in (
      record { deep = omega arith; short = subst (λ v. n / 2 ^ (t + 1) < v) (sym (four ((60 - t) / 2) ∙ ap (λ v. 2 ^ v) twice)) small },
      ap (λ v. n / 2 ^ (t + 1) * 2 ^ v + 2 ^ (60 - 2 * ((60 - t) / 2))) next ∙ ap (λ v. n / 2 ^ (t + 1) * 2 ^ (t + 1) + 2 ^ v) same ∙ parts_by_lowest n t low,
    )

pub same_id : (c d : Address) → IsCell c → IsCell d → id_of c ≡ id_of d → c ≡ d
same_id c d h k e =
    let l : 60 - 2 * c.level ≡ 60 - 2 * d.level = lowest_is_one (id_of d) _ _ (subst (λ n. IsLowest n (60 - 2 * c.level)) e (id_lowest c h)) (id_lowest d k) in
    let level : c.level ≡ d.level = omega (arith, h.deep, k.deep) in
    let odd : 2 * c.path + 1 ≡ 2 * d.path + 1 =
    sym (shl-shr (2 * c.path + 1) (60 - 2 * c.level)) ∙ ap (λ v. v / 2 ^ (60 - 2 * c.level)) (sym (id_as_odd c h) ∙ e ∙ id_as_odd d k) ∙ ap (λ v. (2 * d.path + 1) * 2 ^ (60 - 2 * d.level) / 2 ^ v) l ∙ shl-shr (2 * d.path + 1) (60 - 2 * d.level) in
    same level (omega arith)
  where
    same : {a b a' b' : ℕ} → a ≡ a' → b ≡ b' → ◌≡◌ {A = Address} (record { level = a; path = b }) (record { level = a'; path = b' })
    same p q = cc
