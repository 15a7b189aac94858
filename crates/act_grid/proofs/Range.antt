-- The coordinate of a decimal whose magnitude was read up to a cap.
use Rattle.std.proofs.Common.{◌≡◌, ℕ, ◌<◌, List, ◌++◌, ℤ, pos, ◌+ℤ◌, ◌-ℤ◌, min, ap, sym, ◌∙◌, arith, Bool, true, false, cond, Some, Result, Err, length, ◌==◌, zero, suc}
use Rattle.std.proofs.lemmas.Bool.{lt-ltb}
use Rattle.std.proofs.lemmas.Int.{ints}
use Rattle.std.specs.Str.Parse.{digits_value}
use Rattle.act_grid.specs.declared.number.NumFault.{NumFault}
use Rattle.act_grid.specs.declared.number.NumFault.TheVariants as fault
use Rattle.act_grid.specs.Number.{Decimal, coordinate_of, exponent_of, in_range, rounded, signed_by, units_of}

-- a number past the cap is as far out of range as the cap
pub capped_range : (negative : Bool) (n : ℕ) → in_range (signed_by negative (min n 4294967296)) ≡ in_range (signed_by negative n)
capped_range true n = grind (arith, ints)
capped_range false n = grind (arith, ints)

with_digits : (negative : Bool) (digits : ℕ) (d : Decimal) (exponent : ℤ) → 0 < length (d.whole ++ d.fraction)
    → in_range (signed_by negative (rounded (digits_value 10 (d.whole ++ d.fraction)) (exponent +ℤ pos digits -ℤ pos (length d.fraction)))) ≡ coordinate_of negative digits d (Some exponent)
with_digits negative digits d exponent some =
    ap (λ b. cond b (units_of negative d (exponent +ℤ pos digits)) (Err fault.Form)) (sym (lt-ltb 0 (length (d.whole ++ d.fraction)) some))

-- the parts of a decimal that was read give its coordinate
pub read_decimal : (negative : Bool) (digits : ℕ) (d : Decimal) (whole fraction rest : List ℕ) (exponent power : ℤ) (units : ℕ) (answer : Result ℤ NumFault)
    → whole ≡ d.whole → fraction ≡ d.fraction → rest ≡ d.rest → exponent_of rest ≡ Some exponent → 0 < length (whole ++ fraction)
    → units ≡ min (rounded (digits_value 10 (whole ++ fraction)) (power -ℤ pos (length fraction))) 4294967296 → power ≡ exponent +ℤ pos digits
    → answer ≡ in_range (signed_by negative units) → answer ≡ coordinate_of negative digits d (exponent_of d.rest)
read_decimal negative digits d whole fraction rest exponent power units answer w f r e some u p a =
    a
    ∙ ap (λ n. in_range (signed_by negative n)) u
    ∙ capped_range negative (rounded (digits_value 10 (whole ++ fraction)) (power -ℤ pos (length fraction)))
    ∙ ap (λ k. in_range (signed_by negative (rounded (digits_value 10 (whole ++ fraction)) (k -ℤ pos (length fraction))))) p
    ∙ ap (λ l. in_range (signed_by negative (rounded (digits_value 10 (l ++ fraction)) (exponent +ℤ pos digits -ℤ pos (length fraction))))) w
    ∙ ap (λ l. in_range (signed_by negative (rounded (digits_value 10 (d.whole ++ l)) (exponent +ℤ pos digits -ℤ pos (length l))))) f
    ∙ with_digits negative digits d exponent (rw (← w, ← f) some)
    ∙ ap (coordinate_of negative digits d) (sym e ∙ ap exponent_of r)

-- what is not empty has a length
pub counted : (n : ℕ) → false ≡ (n == 0) → 0 < n
counted zero e = absurd (cc)
counted (suc n) e = omega arith
