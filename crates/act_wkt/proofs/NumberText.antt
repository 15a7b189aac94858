-- A number that is written is read as itself.
use Rattle.std.proofs.Common.{◌≡◌, ℕ, ℤ, suc, zero, pos, negsuc, ◌+◌, ◌*◌, ◌/◌, ◌%◌, ◌^◌, ◌<◌, ◌++◌, ◌==◌, ◌||◌, ◌+ℤ◌, ◌-ℤ◌, ◌≤ℤ◌, List, [], ◌∷◌, Bool, true, false, cond, Ok, Err, refl, ap, sym, ◌∙◌, arith, codes, decimal, drop, take, length, get_or, lit<, append-nil}
use Rattle.std.proofs.Math.Arith.{mod-mul}
use Rattle.std.proofs.Math.Nat.{div-add-mod, div-le_self, one-le-pow, pow-suc}
use Rattle.std.proofs.Math.Seq.{drop-append_seam, drop-length, take-append_seam, take-length}
use Rattle.std.proofs.lemmas.Bool.{le-ltb, lt-ltb, ne_eqb}
use Rattle.std.proofs.lemmas.Fmt.{decimal-digits_value, digits_decimal, digits_value-decimal}
use Rattle.std.proofs.lemmas.Int.{ints}
use Rattle.std.proofs.lemmas.List.{length-append}
use Rattle.std.proofs.lemmas.Str.Parse.{IsNumeralModel, numerals_by_value, tells_all_ascii_digits}
use Rattle.std.specs.Char.{digit_value, is_ascii_digit}
use Rattle.std.specs.Str.{all_ascii_digits}
use Rattle.std.specs.Str.Parse.{digits_value, starts_with_minus}
use Rattle.act_grid.proofs.Cut.{value_append, value_behind}
use Rattle.act_grid.proofs.Digits.{digit_here, digit_small}
use Rattle.act_grid.specs.declared.NumFault.TheVariants as fault
use Rattle.act_grid.specs.Number.{Decimal, coordinate_of, decimal_of, decimal_with, digits_first, exponent_of, in_range, rounded, signed_by, value_of, without_sign}
use Rattle.act_wkt.specs.Spelling.{decimals_of, last_digits, number_text}

own : IsNumeralModel (λ ds. all_ascii_digits ds ≡ true) (digits_value 10)
own = numerals_by_value (λ ds. all_ascii_digits ds ≡ true) tells_all_ascii_digits

-- the decimal text of a number
pub decimal_digits : (n : ℕ) → n < 2 ^ 64 → all_ascii_digits (decimal n) ≡ true
decimal_digits n h = digits_decimal own n h

decimal_value : (n : ℕ) → n < 2 ^ 64 → digits_value 10 (decimal n) ≡ n
decimal_value n h = digits_value-decimal own n h

pub decimal_some : (n : ℕ) → n < 2 ^ 64 → 0 < length (decimal n)
decimal_some zero h = omega (arith, ap length zero_text)
  where
    zero_text : decimal 0 ≡ 48 ∷ []
    zero_text = decimal-digits_value own (48 ∷ []) refl (lit< tt) (λ _. refl) (lit< tt)
decimal_some (suc n) h = by (decimal (suc n)) (decimal_value (suc n) h)
  where
    by : (text : List ℕ) → digits_value 10 text ≡ suc n → 0 < length text
    by [] e = absurd (omega (arith, e))
    by (d ∷ text) e = omega arith

-- the last digits of a number
pub last_are_digits : (k n : ℕ) → all_ascii_digits (last_digits k n) ≡ true
last_are_digits zero n = refl
last_are_digits (suc k) n = tells_all_ascii_digits.more (48 + n / 10 ^ k % 10) (last_digits k n) (omega arith) (last_are_digits k n)

pub last_length : (k n : ℕ) → length (last_digits k n) ≡ k
last_length zero n = refl
last_length (suc k) n = ap suc (last_length k n)

digit_of : (d : ℕ) → d < 10 → digit_value (48 + d) ≡ d
digit_of d h =
    let one : all_ascii_digits ((48 + d) ∷ []) ≡ true = tells_all_ascii_digits.more (48 + d) [] (omega arith) refl in
    let is = digit_small (48 + d) (digit_here 0 ((48 + d) ∷ []) (lit< tt) one) in
    omega (arith, is.0)

last_value : (k n : ℕ) → digits_value 10 (last_digits k n) ≡ n % 10 ^ k
last_value zero n = omega arith
last_value (suc k) n =
    let d = n / 10 ^ k % 10 in
    let behind = value_behind (0 * 10 + digit_value (48 + d)) (last_digits k n) in
    let digit : digit_value (48 + d) ≡ d = digit_of d (omega arith) in
    let some : 0 < 10 ^ k = one-le-pow k 10 (lit< tt) in
    let low : n % (10 * 10 ^ k) ≡ (n / 10 ^ k % 10) * 10 ^ k + n % 10 ^ k = mod-mul n (lit< tt) some in
    let power : 10 ^ suc k ≡ 10 * 10 ^ k = omega (arith, pow-suc 10 k) in
    behind
    ∙ ap (λ v. (0 * 10 + v) * 10 ^ length (last_digits k n) + digits_value 10 (last_digits k n)) digit
    ∙ ap (λ j. (0 * 10 + d) * 10 ^ j + digits_value 10 (last_digits k n)) (last_length k n)
    ∙ ap (λ v. (0 * 10 + d) * 10 ^ k + v) (last_value k n)
    ∙ omega (arith, low, ap (λ p. n % p) power)

-- both parts together
whole_value : (k n q : ℕ) → q ≡ n / 10 ^ k → q < 2 ^ 64 → digits_value 10 (decimal q ++ last_digits k n) ≡ n
whole_value k n q is h =
    let some : 0 < 10 ^ k = one-le-pow k 10 (lit< tt) in
    value_append 0 (decimal q) (last_digits k n)
    ∙ value_behind (digits_value 10 (decimal q)) (last_digits k n)
    ∙ ap (λ v. v * 10 ^ length (last_digits k n) + digits_value 10 (last_digits k n)) (decimal_value q h ∙ is)
    ∙ ap (λ j. n / 10 ^ k * 10 ^ j + digits_value 10 (last_digits k n)) (last_length k n)
    ∙ ap (λ v. n / 10 ^ k * 10 ^ k + v) (last_value k n)
    ∙ omega (arith, div-add-mod n (10 ^ k))

-- the digits that stand first
first_is : (front rest : List ℕ) → all_ascii_digits front ≡ true → is_ascii_digit (get_or rest 0 0) ≡ false → digits_first (front ++ rest) ≡ length front
first_is [] [] all ends = refl
first_is [] (b ∷ rest) all ends = ap (λ t. cond t (suc (digits_first rest)) 0) ends
first_is (d ∷ front) rest all ends =
    ap (λ t. cond t (suc (digits_first (front ++ rest))) 0) (digit_here 0 (d ∷ front) (omega arith) all)
    ∙ ap suc (first_is front rest (tells_all_ascii_digits.parts d front all).1 ends)

split_is : (front rest : List ℕ) → all_ascii_digits front ≡ true → is_ascii_digit (get_or rest 0 0) ≡ false → decimal_of (front ++ rest) ≡ decimal_with front rest
split_is front rest all ends =
    ap (λ n. decimal_with (take n (front ++ rest)) (drop n (front ++ rest))) (first_is front rest all ends)
    ∙ ap (λ l. decimal_with l (drop (length front) (front ++ rest))) (take-append_seam front rest)
    ∙ ap (decimal_with front) (drop-append_seam front rest)

abbrev pub decimal_parts : List ℕ → List ℕ → List ℕ → Decimal
decimal_parts whole fraction rest = record { whole = whole; fraction = fraction; rest = rest }

written_parts : (k n q : ℕ) → q < 2 ^ 64 → decimal_of (decimal q ++ decimals_of k n) ≡ decimal_parts (decimal q) (last_digits k n) []
written_parts zero n q h = split_is (decimal q) [] (decimal_digits q h) refl
written_parts (suc k) n q h =
    let digits = last_digits (suc k) n in
    let all = last_are_digits (suc k) n in
    split_is (decimal q) (46 ∷ digits) (decimal_digits q h) refl
    ∙ ap (λ m. decimal_parts (decimal q) (take m digits) (drop m digits)) (ap digits_first (sym (append-nil digits)) ∙ first_is digits [] all refl)
    ∙ ap (λ l. decimal_parts (decimal q) l (drop (length digits) digits)) (take-length digits)
    ∙ ap (decimal_parts (decimal q) digits) (drop-length digits)

-- a magnitude under a sign
written_magnitude : (negative : Bool) (k n q : ℕ) → q ≡ n / 10 ^ k → q < 2 ^ 64
    → coordinate_of negative k (decimal_of (decimal q ++ decimals_of k n)) (exponent_of (decimal_of (decimal q ++ decimals_of k n)).rest) ≡ in_range (signed_by negative n)
written_magnitude negative k n q is h =
    let parts = decimal_parts (decimal q) (last_digits k n) [] in
    let some : 0 < length (decimal q ++ last_digits k n) = omega (arith, decimal_some q h, length-append (decimal q) (last_digits k n)) in
    let power : pos 0 +ℤ pos k -ℤ pos (length (last_digits k n)) ≡ pos 0 = omega (arith, ints, last_length k n) in
    ap (λ (d : Decimal). coordinate_of negative k d (exponent_of d.rest)) (written_parts k n q h)
    ∙ ap (λ t. cond t (in_range (signed_by negative (rounded (digits_value 10 (decimal q ++ last_digits k n)) (pos 0 +ℤ pos k -ℤ pos (length (last_digits k n)))))) (Err fault.Form)) (lt-ltb 0 (length (decimal q ++ last_digits k n)) some)
    ∙ ap (λ p. in_range (signed_by negative (rounded (digits_value 10 (decimal q ++ last_digits k n)) p))) power
    ∙ ap (λ v. in_range (signed_by negative (v * 10 ^ 0))) (whole_value k n q is h)
    ∙ ap (λ v. in_range (signed_by negative v)) (omega arith)

-- a digit is no sign
no_sign : (b : ℕ) → is_ascii_digit b ≡ true → ((b == 45) ≡ false) × ((b == 43) ≡ false)
no_sign b h = let within = digit_small b h in (ne_eqb b 45 (omega (arith, within.2)), ne_eqb b 43 (omega (arith, within.2)))

plain_text : (text rest : List ℕ) → 0 < length text → all_ascii_digits text ≡ true → (starts_with_minus (text ++ rest) ≡ false) × (without_sign (text ++ rest) ≡ text ++ rest)
plain_text [] rest some all = absurd (omega arith)
plain_text (d ∷ text) rest some all =
    let n = no_sign d (digit_here 0 (d ∷ text) (omega arith) all) in
    (n.0, ap (λ t. cond (t || d == 43) (text ++ rest) (d ∷ (text ++ rest))) n.0 ∙ ap (λ t. cond t (text ++ rest) (d ∷ (text ++ rest))) n.1)

in_i32 : (z : ℤ) → negsuc 2147483647 ≤ℤ z → z ≤ℤ pos 2147483647 → in_range z ≡ Ok z
in_i32 z low high = grind (arith, ints)

-- a coordinate is read as itself
pub number_again : (digits : ℕ) (z : ℤ) → negsuc 2147483647 ≤ℤ z → z ≤ℤ pos 2147483647 → value_of digits (number_text digits z) ≡ Ok z
unfolding value_of number_text
number_again digits (pos n) low high =
    let q = n / 10 ^ digits in
    let wide : q < 2 ^ 64 = omega (arith, ints, high, div-le_self n (10 ^ digits)) in
    let plain = plain_text (decimal q) (decimals_of digits n) (decimal_some q wide) (decimal_digits q wide) in
    ap (λ b. value_of digits (cond b (codes "-") [] ++ (decimal q ++ decimals_of digits n))) (le-ltb n 0 (omega arith))
    ∙ ap (λ b. coordinate_of b digits (decimal_of (without_sign (decimal q ++ decimals_of digits n))) (exponent_of (decimal_of (without_sign (decimal q ++ decimals_of digits n))).rest)) plain.0
    ∙ ap (λ t. coordinate_of false digits (decimal_of t) (exponent_of (decimal_of t).rest)) plain.1
    ∙ written_magnitude false digits n q refl wide
    ∙ in_i32 (pos n) low high
number_again digits (negsuc n) low high =
    let q = suc n / 10 ^ digits in
    let wide : q < 2 ^ 64 = omega (arith, ints, low, div-le_self (suc n) (10 ^ digits)) in
    written_magnitude true digits (suc n) q refl wide ∙ in_i32 (negsuc n) low high
