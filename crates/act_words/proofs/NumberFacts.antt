-- The number that a value says.
use Rattle.std.proofs.Common.{◌≡◌, ℕ, ◌≤◌, true, List, length, Result, Ok, arith, sym, ◌∙◌}
use Rattle.std.specs.List.{list_all}
use Rattle.std.specs.Char.{is_ascii_digit}
use Rattle.std.specs.Prelude.{nat_le, IfSome, IsSome, option_map, Option, Some, None}
use Rattle.std.proofs.Common.{refl}
use Rattle.act_grid.specs.declared.Settings.{Settings}
use Rattle.std.specs.Str.{all_ascii_digits}
use Rattle.std.specs.Str.Parse.{ParsesUnsigned, digits_value}
use Rattle.std.proofs.lemmas.Bool.{leb-true}
use Rattle.std.proofs.lemmas.Str.Parse.{IsNumeralModel, digits_value_short, numerals_by_value, parse_gives, tells_all_ascii_digits}
use Rattle.act_words.specs.Words.{is_number, wanted_of}
use Rattle.act_words.proofs.WalkFacts.{and_true, same_digits}

own : IsNumeralModel (λ ds. all_ascii_digits ds ≡ true) (digits_value 10)
own = numerals_by_value _ tells_all_ascii_digits

-- a value parses as its number
pub value_parses : {E : Type 0} (value : List ℕ) (r : Result ℕ E) → is_number value ≡ true → ParsesUnsigned 64 10 value r → r ≡ Ok (digits_value 10 value)
value_parses value r h p =
    let parts = and_true (nat_le 1 (length value)) _ h in
    let more = and_true (nat_le (length value) 10) (list_all is_ascii_digit value) parts.1 in
    let digits : all_ascii_digits value ≡ true = sym (same_digits value) ∙ more.1 in
    let some : 1 ≤ length value = leb-true 1 (length value) parts.0 in
    let few : length value ≤ 10 = leb-true (length value) 10 more.0 in
    parse_gives own 64 value r p digits (omega arith) (omega (arith, digits_value_short own value 10 digits few))

-- settings that were made are what was wanted
pub wanted_made : (o : Option Settings) (d r c w : ℕ) → IsSome o
    → IfSome o (λ s. s.digits ≡ d) → IfSome o (λ s. s.rows ≡ r) → IfSome o (λ s. s.cells ≡ c) → IfSome o (λ s. s.workers ≡ w)
    → option_map wanted_of o ≡ Some (record { digits = d; rows = r; cells = c; workers = w })
wanted_made None d r c w some hd hr hc hw = cc
wanted_made (Some s) d r c w some hd hr hc hw = rw (hd, hr, hc, hw) refl
