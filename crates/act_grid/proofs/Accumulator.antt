-- Reading digits into a number that stops at a cap.
use Rattle.std.proofs.Common.{inl, inr, lit<, ◌≤◌, ◌≡◌, ℕ, ◌+◌, ◌-◌, ◌*◌, ◌^◌, ◌<◌, suc, zero, List, [], ◌∷◌, true, min, refl, ap, sym, ◌∙◌, arith, length, drop, take, cond, get_or, drop-cons, add-one}
use Rattle.std.proofs.Math.Nat.{one-le-pow, pow-suc, mul-le-mul_left, mul-le-mul_right}
use Rattle.std.proofs.lemmas.Bool.{cases_lt}
use Rattle.std.proofs.lemmas.Str.{digit_value_digit}
use Rattle.std.proofs.lemmas.Str.Parse.{tells_all_ascii_digits}
use Rattle.std.specs.Str.{all_ascii_digits}
use Rattle.std.specs.Char.{digit_value, is_ascii_digit}
use Rattle.std.specs.Str.Parse.{digits_value_after}
use Rattle.act_grid.specs.Number.{digits_first}

capped_step : (n d limit : ℕ) → min (min n limit * 10 + d) limit ≡ min (n * 10 + d) limit
capped_step n d limit = omega arith

-- a cap on the number so far changes nothing below the cap
pub capped_after : (digits : List ℕ) (n limit : ℕ) → min (digits_value_after 10 (min n limit) digits) limit ≡ min (digits_value_after 10 n digits) limit
capped_after [] n limit = omega arith
capped_after (d ∷ digits) n limit =
    sym (capped_after digits (min n limit * 10 + digit_value d) limit)
    ∙ ap (λ m. min (digits_value_after 10 m digits) limit) (capped_step n (digit_value d) limit)
    ∙ capped_after digits (n * 10 + digit_value d) limit

-- the value of one digit
pub digit_is : (d : ℕ) → is_ascii_digit d ≡ true → digit_value d ≡ d - 48
digit_is d h =
    let one : all_ascii_digits (d ∷ []) ≡ true = rw h refl in
    let within = (tells_all_ascii_digits.parts d [] one).0 in
    omega (arith, digit_value_digit d within)

-- one more digit: what is to come gives the same total below the cap
pub value_step : (text : List ℕ) (i n limit total : ℕ) → i < length text → is_ascii_digit (get_or text i 0) ≡ true
    → min (digits_value_after 10 n (drop i text)) limit ≡ total
    → min (digits_value_after 10 (min (n * 10 + (get_or text i 0 - 48)) limit) (drop (i + 1) text)) limit ≡ total
value_step text i n limit total h digit e =
    let cell : drop i text ≡ get_or text i 0 ∷ drop (i + 1) text = rw (add-one) (drop-cons text i 0 h) in
    capped_after (drop (i + 1) text) (n * 10 + (get_or text i 0 - 48)) limit
    ∙ ap (λ v. min (digits_value_after 10 (n * 10 + v) (drop (i + 1) text)) limit) (sym (digit_is (get_or text i 0) digit))
    ∙ ap (λ l. min (digits_value_after 10 n l) limit) (sym cell)
    ∙ e

-- a cap on a factor changes nothing below the cap
pub capped_product : (n factor limit : ℕ) → 0 < factor → min (min n limit * factor) limit ≡ min (n * factor) limit
capped_product n factor limit some =
    elim (cases_lt n limit) [
      | inl below ↦ ap (λ v. min (v * factor) limit) (omega arith)
      | inr above ↦
          let here : min n limit ≡ limit = omega arith in
          let least : limit * 1 ≤ limit * factor = mul-le-mul_left limit (omega arith) in
          let more : limit * factor ≤ n * factor = mul-le-mul_right factor above in
          ap (λ v. min (v * factor) limit) here ∙ omega (arith, least, more)
    ]

pub capped_power : (n digits limit : ℕ) → min (min n limit * 10 ^ digits) limit ≡ min (n * 10 ^ digits) limit
capped_power n digits limit = capped_product n (10 ^ digits) limit (one-le-pow digits 10 (lit< tt))

-- one power of ten
pub tenfold : (n power limit : ℕ) → 0 < power → min (min (n * 10) limit * 10 ^ (power - 1)) limit ≡ min (n * 10 ^ power) limit
tenfold n zero limit some = absurd (omega arith)
tenfold n (suc k) limit some =
    let less : suc k - 1 ≡ k = omega arith in
    let regroup : n * 10 * 10 ^ k ≡ n * 10 ^ suc k = omega (arith, ap (λ p. n * p) (pow-suc 10 k)) in
    ap (λ j. min (min (n * 10) limit * 10 ^ j) limit) less ∙ capped_power (n * 10) k limit ∙ ap (λ v. min v limit) regroup

-- one more digit of those that stand first
pub value_first : (text : List ℕ) (i n limit total : ℕ) → i < length text → is_ascii_digit (get_or text i 0) ≡ true
    → min (digits_value_after 10 n (take (digits_first (drop i text)) (drop i text))) limit ≡ total
    → min (digits_value_after 10 (min (n * 10 + (get_or text i 0 - 48)) limit) (take (digits_first (drop (i + 1) text)) (drop (i + 1) text))) limit ≡ total
value_first text i n limit total h digit e =
    let rest = drop (i + 1) text in
    let cell : drop i text ≡ get_or text i 0 ∷ rest = rw (add-one) (drop-cons text i 0 h) in
    let front : take (digits_first (drop i text)) (drop i text) ≡ get_or text i 0 ∷ take (digits_first rest) rest =
    ap (λ l. take (digits_first l) l) cell ∙ ap (λ t. take (cond t (suc (digits_first rest)) 0) (get_or text i 0 ∷ rest)) digit in
    capped_after (take (digits_first rest) rest) (n * 10 + (get_or text i 0 - 48)) limit
    ∙ ap (λ v. min (digits_value_after 10 (n * 10 + v) (take (digits_first rest) rest)) limit) (sym (digit_is (get_or text i 0) digit))
    ∙ ap (λ l. min (digits_value_after 10 n l) limit) (sym front)
    ∙ e
