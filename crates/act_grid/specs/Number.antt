-- The number that a text writes, and the coordinate that it gives.
use Rattle.std.specs.Prelude.{ℕ, suc, ℤ, pos, negsuc, neg_ℤ, ◌+◌, ◌*◌, ◌/◌, ◌^◌, ◌+ℤ◌, ◌-ℤ◌, Bool, ◌==◌, ◌&&◌, ◌||◌, List, [], ◌∷◌, ◌++◌, Option, Some, None, Result, Ok, Err, if◌then◌else◌, int_lt, length, option_map, nat_lt, slice_index, drop, take}
use Rattle.std.specs.Char.{is_ascii_digit}
use Rattle.std.specs.Str.{all_ascii_digits}
use Rattle.std.specs.Str.Parse.{digits_value, starts_with_minus}
use Rattle.act_grid.specs.declared.number.NumFault.{NumFault}
use Rattle.act_grid.specs.declared.number.NumFault.TheVariants as fault

-- the text behind its sign `+` or `-`, if it has one
abbrev pub without_sign : List ℕ → List ℕ
without_sign text = if starts_with_minus text || slice_index text 0 == 43 then drop 1 text else text

-- a magnitude under a sign
abbrev pub signed_by : Bool → ℕ → ℤ
signed_by negative n = if negative then neg_ℤ (pos n) else pos n

-- how many digits stand first
abbrev pub digits_first : List ℕ → ℕ
digits_first [] = 0
digits_first (b ∷ text) = if is_ascii_digit b then suc (digits_first text) else 0

-- the digits before the point, those behind it, and the text that follows
pub record Decimal : Type 0 where
  pub whole : List ℕ
  pub fraction : List ℕ
  pub rest : List ℕ

-- the digits that stand first, and those behind a point where one follows
abbrev pub decimal_with : List ℕ → List ℕ → Decimal
decimal_with whole rest =
    if slice_index rest 0 == 46 then
    record { whole = whole; fraction = take (digits_first (drop 1 rest)) (drop 1 rest); rest = drop (digits_first (drop 1 rest)) (drop 1 rest) }
    else record { whole = whole; fraction = []; rest = rest }

abbrev pub decimal_of : List ℕ → Decimal
decimal_of text = decimal_with (take (digits_first text) text) (drop (digits_first text) text)

-- the value of one to three digits
abbrev pub size_of : List ℕ → Option ℕ
size_of digits =
    if all_ascii_digits digits && (nat_lt 0 (length digits) && nat_lt (length digits) 4) then Some (digits_value 10 digits) else None

-- the exponent of what follows a decimal: nothing, or `e` or `E`, an optional sign and one to three digits
abbrev pub exponent_of : List ℕ → Option ℤ
exponent_of [] = Some (pos 0)
exponent_of (e ∷ text) =
    if e == 101 || e == 69 then option_map (signed_by (starts_with_minus text)) (size_of (without_sign text)) else None

-- n * 10^power, rounded to the nearest whole number, a tie up
abbrev pub rounded : ℕ → ℤ → ℕ
rounded n (pos k) = n * 10 ^ k
rounded n (negsuc k) = (n + 5 * 10 ^ k) / 10 ^ suc k

-- the number, where a coordinate has room for it
abbrev pub in_range : ℤ → Result ℤ NumFault
in_range z = if int_lt z (negsuc 2147483647) || int_lt (pos 2147483647) z then Err fault.Range else Ok z

-- the units of a decimal, times 10^power, under a sign
abbrev pub units_of : Bool → Decimal → ℤ → Result ℤ NumFault
units_of negative d power =
    in_range (signed_by negative (rounded (digits_value 10 (d.whole ++ d.fraction)) (power -ℤ pos (length d.fraction))))

-- the coordinate of a decimal with this exponent; without a digit it is no number
abbrev pub coordinate_of : Bool → ℕ → Decimal → Option ℤ → Result ℤ NumFault
coordinate_of negative digits d None = Err fault.Form
coordinate_of negative digits d (Some exponent) =
    if nat_lt 0 (length (d.whole ++ d.fraction)) then units_of negative d (exponent +ℤ pos digits) else Err fault.Form

-- the coordinate that a text gives: its number times 10^digits, rounded to the nearest whole number, a tie away from zero
unfoldable pub value_of : ℕ → List ℕ → Result ℤ NumFault
value_of digits text =
    coordinate_of (starts_with_minus text) digits (decimal_of (without_sign text)) (exponent_of (decimal_of (without_sign text)).rest)
