-- The parts of a decimal without an exponent.
use Rattle.std.proofs.Common.{Option, Some, None, OnSome, IfSome, append-nil, ◌≡◌, ℕ, suc, zero, ◌-◌, ◌+◌, ◌<◌, ◌≤◌, ◌==◌, List, [], ◌∷◌, ◌++◌, true, false, cond, refl, ap, sym, ◌∙◌, arith, length, take, drop, get_or, min, pos, ◌-ℤ◌, ◌*◌, ◌/◌, ◌^◌}
use Rattle.std.proofs.Math.Seq.{drop-length, take-length}
use Rattle.std.proofs.lemmas.Str.Parse.{tells_all_ascii_digits}
use Rattle.std.proofs.lemmas.List.{take-append-drop, take_rest}
use Rattle.std.specs.Str.Parse.{digits_value, digits_value_after}
use Rattle.std.specs.Str.{all_ascii_digits}
use Rattle.act_grid.proofs.Digits.{all_first, digit_here, first_are_digits}
use Rattle.act_grid.proofs.Raised.{all_joined, joined, raised_cut, raised_whole}
use Rattle.act_grid.specs.Number.{Decimal, rounded, decimal_of, decimal_with, digits_first}

abbrev pub decimal_parts : List ℕ → List ℕ → List ℕ → Decimal
decimal_parts whole fraction rest = record { whole = whole; fraction = fraction; rest = rest }

-- a text of digits has them all first
pub first_all : (text : List ℕ) → all_ascii_digits text ≡ true → digits_first text ≡ length text
first_all [] all = refl
first_all (d ∷ text) all =
    ap (λ t. cond t (suc (digits_first text)) 0) (digit_here 0 (d ∷ text) (omega arith) all) ∙ ap suc (first_all text (tells_all_ascii_digits.parts d text all).1)

-- a text is digits where both its parts are
pub both_digits : (fraction kept dropped : List ℕ) (power : ℕ) → kept ≡ take power fraction → dropped ≡ drop power fraction → length kept ≤ digits_first kept → length dropped ≤ digits_first dropped → all_ascii_digits fraction ≡ true
both_digits fraction kept dropped power k d a b =
    ap all_ascii_digits (sym (take-append-drop power fraction))
    ∙ all_joined (take power fraction) (drop power fraction) (ap all_ascii_digits (sym k) ∙ all_first kept a) (ap all_ascii_digits (sym d) ∙ all_first dropped b)

-- digits alone
pub whole_parts : (body : List ℕ) → digits_first body ≡ length body → decimal_of body ≡ decimal_parts body [] []
whole_parts body all =
    ap (λ n. decimal_with (take n body) (drop n body)) all ∙ ap (λ l. decimal_with l (drop (length body) body)) (take-length body) ∙ ap (decimal_with body) (drop-length body)

-- digits, a point, and digits
pub point_parts : (body fraction : List ℕ) → drop (digits_first body) body ≡ 46 ∷ fraction → all_ascii_digits fraction ≡ true → decimal_of body ≡ decimal_parts (take (digits_first body) body) fraction []
point_parts body fraction rest all =
    let whole = take (digits_first body) body in
    ap (decimal_with whole) rest
    ∙ ap (λ n. decimal_parts whole (take n fraction) (drop n fraction)) (first_all fraction all)
    ∙ ap (λ l. decimal_parts whole l (drop (length fraction) fraction)) (take-length fraction)
    ∙ ap (decimal_parts whole fraction) (drop-length fraction)

pub short_fraction : (fraction : List ℕ) (power limit value read magnitude : ℕ) → length fraction ≤ power → length fraction ≤ digits_first fraction
    → read ≡ min (digits_value_after 10 value (take (digits_first fraction) fraction)) limit → magnitude ≡ min (read * 10 ^ (power - length fraction)) limit
    → (whole : List ℕ) → all_ascii_digits whole ≡ true → value ≡ min (digits_value 10 whole) limit → magnitude ≡ min (rounded (digits_value 10 (whole ++ fraction)) (pos power -ℤ pos (length fraction))) limit
short_fraction fraction power limit value read magnitude h all r m whole w v =
    let here : take (digits_first fraction) fraction ≡ fraction = ap (λ n. take n fraction) (first_all fraction (all_first fraction all)) ∙ take-length fraction in
    m
    ∙ ap (λ n. min (n * 10 ^ (power - length fraction)) limit)
    (r ∙ ap (λ l. min (digits_value_after 10 value l) limit) here ∙ ap (λ n. min (digits_value_after 10 n fraction) limit) v ∙ joined whole fraction limit)
    ∙ raised_whole whole fraction power limit h

pub long_fraction : (fraction kept dropped : List ℕ) (power limit value read magnitude : ℕ) → power < length fraction → kept ≡ take power fraction → dropped ≡ drop power fraction
    → length kept ≤ digits_first kept → length dropped ≤ digits_first dropped
    → read ≡ min (digits_value_after 10 value (take (digits_first kept) kept)) limit → magnitude ≡ min (read + (get_or dropped 0 0 - 48 + 5) / 10) limit
    → (whole : List ℕ) → all_ascii_digits whole ≡ true → value ≡ min (digits_value 10 whole) limit → magnitude ≡ min (rounded (digits_value 10 (whole ++ fraction)) (pos power -ℤ pos (length fraction))) limit
long_fraction fraction kept dropped power limit value read magnitude h k d a b r m whole w v =
    let here : take (digits_first kept) kept ≡ kept = ap (λ n. take n kept) (first_all kept (all_first kept a)) ∙ take-length kept in
    let next : get_or dropped 0 0 ≡ get_or fraction power 0 = ap (λ l. get_or l 0 0) d ∙ get_or-drop fraction power in
    m
    ∙ ap (λ n. min (n + (get_or dropped 0 0 - 48 + 5) / 10) limit)
    (r ∙ ap (λ l. min (digits_value_after 10 value l) limit) here ∙ ap (λ n. min (digits_value_after 10 n kept) limit) v ∙ joined whole kept limit)
    ∙ ap (λ l. min (min (digits_value 10 (whole ++ l)) limit + (get_or dropped 0 0 - 48 + 5) / 10) limit) k
    ∙ ap (λ n. min (min (digits_value 10 (whole ++ take power fraction)) limit + (n - 48 + 5) / 10) limit) next
    ∙ raised_cut whole fraction power limit h w (both_digits fraction kept dropped power k d a b)
  where
    get_or-drop : (text : List ℕ) (i : ℕ) → get_or (drop i text) 0 0 ≡ get_or text i 0
    get_or-drop text zero = refl
    get_or-drop [] (suc i) = refl
    get_or-drop (b ∷ text) (suc i) = get_or-drop text i

-- the units of a decimal's parts, up to a cap
abbrev units : Decimal → ℕ → ℕ → ℕ
units d power limit = min (rounded (digits_value 10 (d.whole ++ d.fraction)) (pos power -ℤ pos (length d.fraction))) limit

pub no_fraction : (body : List ℕ) (power limit value magnitude : ℕ) → length body ≤ digits_first body → value ≡ min (digits_value 10 (take (digits_first body) body)) limit → magnitude ≡ min (value * 10 ^ power) limit
    → magnitude ≡ min (rounded (digits_value 10 ((decimal_of body).whole ++ (decimal_of body).fraction)) (pos power -ℤ pos (length (decimal_of body).fraction))) limit
no_fraction body power limit value magnitude all v m =
    let size : digits_first body ≡ length body = first_all body (all_first body all) in
    let here : take (digits_first body) body ≡ body ++ [] = ap (λ n. take n body) size ∙ take-length body ∙ sym (append-nil body) in
    let same : power ≡ power - length {A = ℕ} [] = omega arith in
    m
    ∙ ap (λ n. min (n * 10 ^ power) limit) (v ∙ ap (λ l. min (digits_value 10 l) limit) here)
    ∙ ap (λ k. min (min (digits_value 10 (body ++ [])) limit * 10 ^ k) limit) same
    ∙ raised_whole body [] power limit (omega arith)
    ∙ ap (λ (d : Decimal). units d power limit) (sym (whole_parts body size))

pub point_rest : (body fraction : List ℕ) (read : Option ℕ) → drop (digits_first body) body ≡ 46 ∷ fraction → OnSome read (all_ascii_digits fraction ≡ true) → OnSome read ((decimal_of body).rest ≡ [])
point_rest body fraction None is digits = tt
point_rest body fraction (Some m) is digits = ap (λ (d : Decimal). d.rest) (point_parts body fraction is digits)

pub point_value : (body fraction : List ℕ) (power limit value : ℕ) (read : Option ℕ) → drop (digits_first body) body ≡ 46 ∷ fraction → OnSome read (all_ascii_digits fraction ≡ true)
    → IfSome read (λ magnitude. (whole : List ℕ) → all_ascii_digits whole ≡ true → value ≡ min (digits_value 10 whole) limit → magnitude ≡ min (rounded (digits_value 10 (whole ++ fraction)) (pos power -ℤ pos (length fraction))) limit)
    → value ≡ min (digits_value 10 (take (digits_first body) body)) limit
    → IfSome read (λ magnitude. magnitude ≡ min (rounded (digits_value 10 ((decimal_of body).whole ++ (decimal_of body).fraction)) (pos power -ℤ pos (length (decimal_of body).fraction))) limit)
point_value body fraction power limit value None is digits reads v = tt
point_value body fraction power limit value (Some m) is digits reads v =
    reads (take (digits_first body) body) (first_are_digits body) v
    ∙ ap (λ (d : Decimal). units d power limit) (sym (point_parts body fraction is digits))

-- the text behind a point
pub behind_point : (rest : List ℕ) → false ≡ (length rest == 0) → get_or rest 0 0 ≡ 46 → rest ≡ 46 ∷ take (length rest - 1) (drop 1 rest)
behind_point [] some point = absurd (cc)
behind_point (b ∷ rest) some point =
    ap (λ c. c ∷ rest) point ∙ ap (λ l. 46 ∷ l) (sym (take_rest (b ∷ rest) 1))
