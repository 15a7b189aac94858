-- References and their numbers.
use Rattle.std.proofs.Common.{◌≡◌, ℕ, ◌+◌, ◌*◌, ◌/◌, ◌%◌, ◌^◌, ◌<◌, ◌==◌, Bool, true, false, cond, Option, Some, None, refl, ap, sym, ◌∙◌, arith, subst}
use Rattle.act_entry.specs.declared.reference.Ref.{Ref}
use Rattle.act_entry.specs.References.{IsRow, ref_number, ref_of}

pub not_zero : (n : ℕ) → 0 < n → (n == 0) ≡ false
not_zero n h = grind arith

-- the number of a reference tells it
pub ref_told : (r : Ref) → IsRow r.row → ref_of (ref_number r) ≡ Some r
ref_told r h = told r.row r.hit h
  where
    told : (row : ℕ) (hit : Bool) → IsRow row → ref_of (row * 2 + cond hit 1 0) ≡ Some (record { row = row; hit = hit })
    told row true h =
        let half : (row * 2 + 1) / 2 ≡ row = omega arith in
        let odd : (row * 2 + 1) % 2 ≡ 1 = omega arith in
        rw (half, odd, not_zero row h.0) refl
    told row false h =
        let half : (row * 2 + 0) / 2 ≡ row = omega arith in
        let even : (row * 2 + 0) % 2 ≡ 0 = omega arith in
        rw (half, even, not_zero row h.0) refl

pub number_small : (r : Ref) → IsRow r.row → ref_number r < 2 ^ 31
number_small r h = small r.hit
  where
    small : (hit : Bool) → r.row * 2 + cond hit 1 0 < 2 ^ 31
    small true = omega (arith, h.1)
    small false = omega (arith, h.1)

pub number_some : (r : Ref) → IsRow r.row → 0 < ref_number r
number_some r h = omega (arith, h.0)

-- a number that tells a reference is that reference's
pub ref_tells : (number : ℕ) (r : Ref) → number < 2 ^ 31 → ref_of number ≡ Some r → IsRow r.row × (ref_number r ≡ number)
ref_tells number r few told = by_row (number / 2 == 0) refl (number % 2 == 1) refl told
  where
    by_row : (none : Bool) → (number / 2 == 0) ≡ none → (hit : Bool) → (number % 2 == 1) ≡ hit
        → cond none None (Some (record { row = number / 2; hit = hit })) ≡ Some r → IsRow r.row × (ref_number r ≡ number)
    by_row true zero hit is told = cc
    by_row false some hit is told =
        let its : ◌≡◌ {A = Ref} (record { row = number / 2; hit = hit }) r = cc in
        let row : 0 < number / 2 = grind arith in
        let same : number / 2 * 2 + cond hit 1 0 ≡ number = by_hit hit is in
        subst (λ (r : Ref). IsRow r.row × (ref_number r ≡ number)) its ((row, omega arith), same)
      where
        by_hit : (hit : Bool) → (number % 2 == 1) ≡ hit → number / 2 * 2 + cond hit 1 0 ≡ number
        by_hit true is = grind arith
        by_hit false is = grind arith
