-- Texts of digits, and the digits that stand first in a text.
use Rattle.std.proofs.Common.{◌≡◌, ℕ, suc, zero, ◌+◌, ◌-◌, ◌<◌, ◌≤◌, ◌&&◌, List, [], ◌∷◌, ◌++◌, Bool, true, false, cond, refl, ap, sym, ◌∙◌, arith, length, take, drop, get_or, drop-cons, add-one}
use Rattle.std.specs.Char.{digit_value, is_ascii_digit}
use Rattle.std.specs.Str.{all_ascii_digits}
use Rattle.std.proofs.lemmas.Str.Parse.{tells_all_ascii_digits}
use Rattle.act_grid.proofs.Accumulator.{digit_is}
use Rattle.act_grid.specs.Number.{digits_first}

-- the parts of digits are digits
pub all_append : (front back : List ℕ) → all_ascii_digits (front ++ back) ≡ (all_ascii_digits front && all_ascii_digits back)
all_append [] back = refl
all_append (d ∷ front) back = ap (λ b. is_ascii_digit d && b) (all_append front back) ∙ and_assoc (is_ascii_digit d) (all_ascii_digits front) (all_ascii_digits back)
  where
    and_assoc : (a b c : Bool) → (a && (b && c)) ≡ ((a && b) && c)
    and_assoc true b c = refl
    and_assoc false b c = refl

pub all_drop : (k : ℕ) (digits : List ℕ) → all_ascii_digits digits ≡ true → all_ascii_digits (drop k digits) ≡ true
all_drop zero digits all = all
all_drop (suc k) [] all = refl
all_drop (suc k) (d ∷ digits) all = all_drop k digits (tells_all_ascii_digits.parts d digits all).1

pub all_take : (k : ℕ) (digits : List ℕ) → all_ascii_digits digits ≡ true → all_ascii_digits (take k digits) ≡ true
all_take zero digits all = refl
all_take (suc k) [] all = refl
all_take (suc k) (d ∷ digits) all = tells_all_ascii_digits.more d (take k digits) (tells_all_ascii_digits.parts d digits all).0 (all_take k digits (tells_all_ascii_digits.parts d digits all).1)

pub digit_here : (k : ℕ) (digits : List ℕ) → k < length digits → all_ascii_digits digits ≡ true → is_ascii_digit (get_or digits k 0) ≡ true
digit_here k [] h all = absurd (omega arith)
digit_here zero (d ∷ digits) h all = first d (all_ascii_digits digits) all
  where
    first : (d : ℕ) (b : Bool) → (is_ascii_digit d && b) ≡ true → is_ascii_digit d ≡ true
    first d b h = by (is_ascii_digit d) h
      where
        by : (a : Bool) → (a && b) ≡ true → a ≡ true
        by true h = refl
        by false h = h
digit_here (suc k) (d ∷ digits) h all = digit_here k digits (omega arith) (tells_all_ascii_digits.parts d digits all).1

-- the value of a digit, and that it is below ten
pub digit_small : (d : ℕ) → is_ascii_digit d ≡ true → (digit_value d ≡ d - 48) × (d - 48 < 10) × (48 ≤ d)
digit_small d h =
    let one : all_ascii_digits (d ∷ []) ≡ true = rw h refl in
    let within = (tells_all_ascii_digits.parts d [] one).0 in
    (digit_is d h, omega (arith, within), omega (arith, within))

cell : (text : List ℕ) (i : ℕ) → i < length text → drop i text ≡ get_or text i 0 ∷ drop (i + 1) text
cell text i h = rw (add-one) (drop-cons text i 0 h)

-- one more digit of those that stand first
pub first_more : (text : List ℕ) (i : ℕ) → i < length text → is_ascii_digit (get_or text i 0) ≡ true → digits_first (drop i text) ≡ suc (digits_first (drop (i + 1) text))
first_more text i h digit = ap digits_first (cell text i h) ∙ ap (λ b. cond b (suc (digits_first (drop (i + 1) text))) 0) digit

-- another byte ends them
pub first_none : (text : List ℕ) (i : ℕ) → i < length text → is_ascii_digit (get_or text i 0) ≡ false → digits_first (drop i text) ≡ 0
first_none text i h other = ap digits_first (cell text i h) ∙ ap (λ b. cond b (suc (digits_first (drop (i + 1) text))) 0) other

-- a digit stands where the rest is digits
pub digit_at_front : (text : List ℕ) (i : ℕ) → i < length text → all_ascii_digits (drop i text) ≡ true → is_ascii_digit (get_or text i 0) ≡ true
digit_at_front text i h all =
    digit_here 0 (get_or text i 0 ∷ drop (i + 1) text) (omega arith) (sym (ap all_ascii_digits (cell text i h)) ∙ all)

-- and behind it the rest is digits
pub digits_behind : (text : List ℕ) (i : ℕ) → i < length text → all_ascii_digits (drop i text) ≡ true → all_ascii_digits (drop (i + 1) text) ≡ true
digits_behind text i h all = all_drop 1 (get_or text i 0 ∷ drop (i + 1) text) (sym (ap all_ascii_digits (cell text i h)) ∙ all)

-- those that stand first are digits
pub first_are_digits : (text : List ℕ) → all_ascii_digits (take (digits_first text) text) ≡ true
first_are_digits [] = refl
first_are_digits (b ∷ text) = by (is_ascii_digit b) refl (first_are_digits text)
  where
    by : (c : Bool) → is_ascii_digit b ≡ c → all_ascii_digits (take (digits_first text) text) ≡ true → all_ascii_digits (take (cond c (suc (digits_first text)) 0) (b ∷ text)) ≡ true
    by true e rest = ap (λ c. c && all_ascii_digits (take (digits_first text) text)) e ∙ rest
    by false e rest = refl

-- a text is digits where all its bytes stand first as digits
pub all_first : (text : List ℕ) → length text ≤ digits_first text → all_ascii_digits text ≡ true
all_first [] h = refl
all_first (b ∷ text) h = by (is_ascii_digit b) refl h (all_first text)
  where
    by : (c : Bool) → is_ascii_digit b ≡ c → suc (length text) ≤ cond c (suc (digits_first text)) 0 → (length text ≤ digits_first text → all_ascii_digits text ≡ true) → (is_ascii_digit b && all_ascii_digits text) ≡ true
    by true e h rest = ap (λ c. c && all_ascii_digits text) e ∙ rest (omega arith)
    by false e h rest = absurd (omega arith)

pub not_all_first : (text : List ℕ) → digits_first text < length text → all_ascii_digits text ≡ false
not_all_first [] h = absurd (omega arith)
not_all_first (b ∷ text) h = by (is_ascii_digit b) refl h (not_all_first text)
  where
    by : (c : Bool) → is_ascii_digit b ≡ c → cond c (suc (digits_first text)) 0 < suc (length text) → (digits_first text < length text → all_ascii_digits text ≡ false) → (is_ascii_digit b && all_ascii_digits text) ≡ false
    by true e h rest = ap (λ c. c && all_ascii_digits text) e ∙ rest (omega arith)
    by false e h rest = ap (λ c. c && all_ascii_digits text) e
