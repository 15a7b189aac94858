-- Rounding digits at a place: only the digit behind the place counts.
use Rattle.std.proofs.Common.{◌≡◌, ℕ, suc, ◌+◌, ◌-◌, ◌*◌, ◌/◌, ◌^◌, ◌<◌, ◌≤◌, List, [], ◌∷◌, ◌++◌, true, negsuc, refl, ap, sym, ◌∙◌, arith, length, take, drop, get_or, lit<, drop-cons}
use Rattle.std.proofs.Math.Nat.{one-le-pow, pow-suc, div-div-eq-div-mul, mul-add-div_right, pow-le-pow_right}
use Rattle.std.proofs.lemmas.Nat.{div-mul-add, div_below}
use Rattle.std.proofs.lemmas.List.{take-append-drop, length-drop}
use Rattle.std.specs.Char.{digit_value}
use Rattle.std.specs.Str.{all_ascii_digits}
use Rattle.std.specs.Str.Parse.{digits_value, digits_value_after}
use Rattle.std.proofs.lemmas.Str.Parse.{digits_value_short, numerals_by_value, tells_all_ascii_digits}
use Rattle.act_grid.proofs.Digits.{all_drop, digit_here, digit_small}
use Rattle.act_grid.specs.Number.{rounded}

-- digits behind a number stand below it
pub value_behind : (n : ℕ) (digits : List ℕ) → digits_value_after 10 n digits ≡ n * 10 ^ length digits + digits_value 10 digits
value_behind n [] = omega arith
value_behind n (d ∷ digits) =
    let shifted = value_behind (n * 10 + digit_value d) digits in
    let alone = value_behind (0 * 10 + digit_value d) digits in
    let power : n * 10 ^ suc (length digits) ≡ n * (10 ^ length digits * 10) = ap (λ p. n * p) (pow-suc 10 (length digits)) in
    omega (arith, shifted, alone, power)

-- one text of digits behind another
pub value_append : (n : ℕ) (front back : List ℕ) → digits_value_after 10 n (front ++ back) ≡ digits_value_after 10 (digits_value_after 10 n front) back
value_append n [] back = refl
value_append n (d ∷ front) back = value_append (n * 10 + digit_value d) front back

-- digits write a number below the power of their count
pub value_small : (digits : List ℕ) → all_ascii_digits digits ≡ true → digits_value 10 digits < 10 ^ length digits
value_small digits all = digits_value_short (numerals_by_value _ tells_all_ascii_digits) digits (length digits) all (omega arith)

-- a number cut behind a digit: what stands behind it is below its place
cut_number : (front digit back power : ℕ) → digit < 10 → back < power → ((front * 10 + digit) * power + back + 5 * power) / (power * 10) ≡ front + (digit + 5) / 10
cut_number front digit back power single small =
    let regroup : (front * 10 + digit) * power + back + 5 * power ≡ (front * 10 + (digit + 5)) * power + back = omega arith in
    ap (λ n. n / (power * 10)) regroup
    ∙ sym (div-div-eq-div-mul ((front * 10 + (digit + 5)) * power + back) power 10)
    ∙ ap (λ n. n / 10) (div-mul-add (front * 10 + (digit + 5)) power back small)
    ∙ mul-add-div_right (lit< tt) front (digit + 5)

-- digits cut at a place
pub cut_at : (digits : List ℕ) (k : ℕ) → k < length digits → all_ascii_digits digits ≡ true
    → rounded (digits_value 10 digits) (negsuc (length digits - suc k)) ≡ digits_value 10 (take k digits) + (get_or digits k 0 - 48 + 5) / 10
cut_at digits k h all =
    let d = get_or digits k 0 in
    let back = drop (suc k) digits in
    let front = digits_value 10 (take k digits) in
    let single = digit_small d (digit_here k digits h all) in
    let parts : take k digits ++ (d ∷ back) ≡ digits = ap (λ l. take k digits ++ l) (sym (drop-cons digits k 0 h)) ∙ take-append-drop k digits in
    let size : length back ≡ length digits - suc k = length-drop (suc k) digits in
    let value : digits_value 10 digits ≡ (front * 10 + digit_value d) * 10 ^ length back + digits_value 10 back =
    ap (digits_value 10) (sym parts) ∙ value_append 0 (take k digits) (d ∷ back) ∙ value_behind (front * 10 + digit_value d) back in
    ap (λ n. (n + 5 * 10 ^ (length digits - suc k)) / 10 ^ suc (length digits - suc k)) (value ∙ ap (λ v. (front * 10 + v) * 10 ^ length back + digits_value 10 back) single.0)
    ∙ ap (λ j. ((front * 10 + (d - 48)) * 10 ^ length back + digits_value 10 back + 5 * 10 ^ j) / 10 ^ suc j) (sym size)
    ∙ ap (λ p. ((front * 10 + (d - 48)) * 10 ^ length back + digits_value 10 back + 5 * 10 ^ length back) / p) (pow-suc 10 (length back))
    ∙ cut_number front (d - 48) (digits_value 10 back) (10 ^ length back) single.1 (value_small back (all_drop (suc k) digits all))

-- less than a half is nothing
pub cut_before : (digits : List ℕ) (j : ℕ) → length digits ≤ j → all_ascii_digits digits ≡ true → rounded (digits_value 10 digits) (negsuc j) ≡ 0
cut_before digits j h all =
    let small = value_small digits all in
    let wide : 10 ^ length digits ≤ 10 ^ j = pow-le-pow_right (lit< tt) h in
    let power : 10 ^ suc j ≡ 10 ^ j * 10 = pow-suc 10 j in
    let below = div_below (digits_value 10 digits + 5 * 10 ^ j) (10 ^ suc j) 1 (omega (arith, one-le-pow (suc j) 10 (lit< tt))) (omega (arith, small, wide, power)) in
    omega (arith, below)
