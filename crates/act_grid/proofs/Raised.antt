-- A decimal times a power of ten, from digits that are read up to a cap.
use Rattle.std.proofs.Common.{◌≡◌, ℕ, suc, ◌+◌, ◌-◌, ◌*◌, ◌/◌, ◌^◌, ◌<◌, ◌≤◌, List, ◌++◌, true, pos, negsuc, neg_ℤ, ◌-ℤ◌, min, ap, sym, ◌∙◌, arith, length, take, get_or, ◌&&◌}
use Rattle.std.proofs.Math.Seq.{take-append-add}
use Rattle.std.proofs.lemmas.Int.{ints}
use Rattle.std.proofs.lemmas.List.{get_or-append-add, get_or_append_left, length-append, take-append-le}
use Rattle.std.specs.Str.{all_ascii_digits}
use Rattle.std.specs.Str.Parse.{digits_value, digits_value_after}
use Rattle.act_grid.proofs.Accumulator.{capped_after, capped_power}
use Rattle.act_grid.proofs.Cut.{cut_at, cut_before, value_append}
use Rattle.act_grid.proofs.Digits.{all_append}
use Rattle.act_grid.specs.Number.{rounded}

-- digits read in two parts
pub joined : (front back : List ℕ) (limit : ℕ) → min (digits_value_after 10 (min (digits_value 10 front) limit) back) limit ≡ min (digits_value 10 (front ++ back)) limit
joined front back limit = capped_after back (digits_value 10 front) limit ∙ ap (λ n. min n limit) (sym (value_append 0 front back))

pub all_joined : (front back : List ℕ) → all_ascii_digits front ≡ true → all_ascii_digits back ≡ true → all_ascii_digits (front ++ back) ≡ true
all_joined front back f b = all_append front back ∙ ap (λ c. c && all_ascii_digits back) f ∙ b

-- all digits are kept
pub raised_whole : (whole fraction : List ℕ) (power limit : ℕ) → length fraction ≤ power
    → min (min (digits_value 10 (whole ++ fraction)) limit * 10 ^ (power - length fraction)) limit ≡ min (rounded (digits_value 10 (whole ++ fraction)) (pos power -ℤ pos (length fraction))) limit
raised_whole whole fraction power limit h =
    let left : pos power -ℤ pos (length fraction) ≡ pos (power - length fraction) = omega (arith, ints) in
    capped_power (digits_value 10 (whole ++ fraction)) (power - length fraction) limit
    ∙ ap (λ p. min (rounded (digits_value 10 (whole ++ fraction)) p) limit) (sym left)

-- the fraction is cut
pub raised_cut : (whole fraction : List ℕ) (power limit : ℕ) → power < length fraction → all_ascii_digits whole ≡ true → all_ascii_digits fraction ≡ true
    → min (min (digits_value 10 (whole ++ take power fraction)) limit + (get_or fraction power 0 - 48 + 5) / 10) limit ≡ min (rounded (digits_value 10 (whole ++ fraction)) (pos power -ℤ pos (length fraction))) limit
raised_cut whole fraction power limit h w f =
    let place : pos power -ℤ pos (length fraction) ≡ negsuc (length (whole ++ fraction) - suc (length whole + power)) = omega (arith, ints, length-append whole fraction) in
    let cut = cut_at (whole ++ fraction) (length whole + power) (omega (arith, length-append whole fraction)) (all_joined whole fraction w f) in
    let kept : take (length whole + power) (whole ++ fraction) ≡ whole ++ take power fraction = take-append-add whole fraction power in
    let next : get_or (whole ++ fraction) (length whole + power) 0 ≡ get_or fraction power 0 = get_or-append-add whole fraction power 0 in
    let same : rounded (digits_value 10 (whole ++ fraction)) (pos power -ℤ pos (length fraction)) ≡ digits_value 10 (whole ++ take power fraction) + (get_or fraction power 0 - 48 + 5) / 10 =
    ap (rounded (digits_value 10 (whole ++ fraction))) place ∙ cut ∙ ap (λ l. digits_value 10 l + (get_or (whole ++ fraction) (length whole + power) 0 - 48 + 5) / 10) kept
    ∙ ap (λ d. digits_value 10 (whole ++ take power fraction) + (d - 48 + 5) / 10) next in
    omega (arith, same)

-- the whole part is cut
pub lowered_cut : (whole fraction : List ℕ) (power limit : ℕ) → 0 < power → power ≤ length whole → all_ascii_digits whole ≡ true → all_ascii_digits fraction ≡ true
    → min (min (digits_value 10 (take (length whole - power) whole)) limit + (get_or whole (length whole - power) 0 - 48 + 5) / 10) limit
    ≡ min (rounded (digits_value 10 (whole ++ fraction)) (neg_ℤ (pos power) -ℤ pos (length fraction))) limit
lowered_cut whole fraction power limit some h w f =
    let end = length whole - power in
    let place : neg_ℤ (pos power) -ℤ pos (length fraction) ≡ negsuc (length (whole ++ fraction) - suc end) = omega (arith, ints, length-append whole fraction) in
    let cut = cut_at (whole ++ fraction) end (omega (arith, length-append whole fraction)) (all_joined whole fraction w f) in
    let kept : take end (whole ++ fraction) ≡ take end whole = take-append-le end whole fraction (omega arith) in
    let next : get_or (whole ++ fraction) end 0 ≡ get_or whole end 0 = get_or_append_left whole fraction 0 end (omega arith) in
    let same : rounded (digits_value 10 (whole ++ fraction)) (neg_ℤ (pos power) -ℤ pos (length fraction)) ≡ digits_value 10 (take end whole) + (get_or whole end 0 - 48 + 5) / 10 =
    ap (rounded (digits_value 10 (whole ++ fraction))) place ∙ cut ∙ ap (λ l. digits_value 10 l + (get_or (whole ++ fraction) end 0 - 48 + 5) / 10) kept
    ∙ ap (λ d. digits_value 10 (take end whole) + (d - 48 + 5) / 10) next in
    omega (arith, same)

-- nothing is left
pub lowered_to_zero : (whole fraction : List ℕ) (power : ℕ) → length whole < power → all_ascii_digits whole ≡ true → all_ascii_digits fraction ≡ true
    → rounded (digits_value 10 (whole ++ fraction)) (neg_ℤ (pos power) -ℤ pos (length fraction)) ≡ 0
lowered_to_zero whole fraction power h w f =
    let place : neg_ℤ (pos power) -ℤ pos (length fraction) ≡ negsuc (power + length fraction - 1) = omega (arith, ints) in
    ap (rounded (digits_value 10 (whole ++ fraction))) place
    ∙ cut_before (whole ++ fraction) (power + length fraction - 1) (omega (arith, length-append whole fraction)) (all_joined whole fraction w f)
