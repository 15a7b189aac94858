-- Lines of points whose fields are joined by commas.
use Rattle.std.proofs.Common.{◌≡◌, ◌≢◌, ◌==◌, ◌||◌, ◌<◌, ℕ, suc, false, List, [], ◌∷◌, ◌++◌, Some, None, Err, refl, arith, length, codes}
use Rattle.std.specs.Prelude.{count_by}
use Rattle.std.specs.List.{AllByRecursion, list_any}
use Rattle.std.proofs.lemmas.Bool.{ne_eqb as differs}
use Rattle.csv.specs.Reading.{strip_bom}
use Rattle.csv.specs.Records.{field_at}
use Rattle.memchr.specs.Find.{IsFirstByte, is_byte2}
use Rattle.act_script.specs.Cutting.{IsOpen}
use Rattle.act_script.specs.Fields.{Field, is_broken, line_fields}
use Rattle.act_script.specs.Records.{IsPlain, split_at_commas}
use Rattle.act_script.specs.Items.{point_item, record_item}
use Rattle.act_script.specs.declared.fault.LineFault.TheVariants as fault
use Rattle.act_script.proofs.PlainFacts.{plain_lines_are_split, some-split}
use Rattle.act_script.proofs.ScanFacts.{fails}

-- what joined fields are after `point`, by how many they are
module _ (digits : ℕ) (fields : List ℕ) where
  pub point_of_two : split_at_commas fields ≡ fields ∷ [] → Err fault.Fields ≡ record_item digits (codes "point" ∷ split_at_commas fields)
  unfolding field_at
  point_of_two e = rw e refl

  pub point_of_three : (a b : Field) → split_at_commas fields ≡ a ∷ split_at_commas b → split_at_commas b ≡ b ∷ []
      → Err fault.Fields ≡ record_item digits (codes "point" ∷ split_at_commas fields)
  unfolding field_at
  point_of_three a b e f = rw (e, f) refl

  pub point_of_four : (a b c d : Field) → split_at_commas fields ≡ a ∷ split_at_commas d → split_at_commas d ≡ b ∷ split_at_commas c → split_at_commas c ≡ c ∷ []
      → point_item digits a b c ≡ record_item digits (codes "point" ∷ split_at_commas fields)
  unfolding field_at
  point_of_four a b c d e f g = rw (e, f, g) refl

  pub point_of_more : (a b c d x y : Field) → split_at_commas fields ≡ a ∷ split_at_commas x → split_at_commas x ≡ b ∷ split_at_commas y
      → split_at_commas y ≡ c ∷ split_at_commas d → Err fault.Fields ≡ record_item digits (codes "point" ∷ split_at_commas fields)
  unfolding field_at
  point_of_more a b c d x y e f g = rw (e, f, g) (by (split_at_commas d) (some-split d))
    where
      by : (parts : List Field) → parts ≢ [] → Err fault.Fields ≡ record_item digits (codes "point" ∷ a ∷ b ∷ c ∷ parts)
      by [] some = absurd (some refl)
      by (part ∷ parts) some =
          let other : length (codes "point" ∷ a ∷ b ∷ c ∷ part ∷ parts) ≢ 4 = λ e. omega (arith, e) in
          rw (differs (length (codes "point" ∷ a ∷ b ∷ c ∷ part ∷ parts)) 4 other) refl

-- a text in which neither of two bytes stands
pub without : (x y : ℕ) (text : List ℕ) → IsFirstByte (is_byte2 x y) text None → AllByRecursion (λ b. (b == x || b == y) ≡ false) text
without x y [] none = tt
without x y (b ∷ text) none =
    let zero_below : 0 < length (b ∷ text) = omega arith in
    (fails _ (none 0 (omega arith) zero_below), without x y text (λ k low high h. let below : suc k < length (b ∷ text) = omega arith in none (suc k) (omega arith) below h))

not-first : (b : ℕ) → (b == 34 || b == 13) ≡ false → b ≢ 34
not-first b h e = let bad : (34 == 34 || 34 == 13) ≡ false = rw e at h in cc

not-second : (b : ℕ) → (b == 34 || b == 13) ≡ false → b ≢ 13
not-second b h e = let bad : (13 == 34 || 13 == 13) ≡ false = rw e at h in cc

pub plain_text : (text : List ℕ) → IsOpen text → AllByRecursion (λ b. (b == 34 || b == 13) ≡ false) text → IsPlain text
plain_text [] o h = tt
plain_text (b ∷ text) o h = ((not-first b h.0, not-second b h.0, o.0), plain_text text o.1 h.1)

pub no_quote : (text : List ℕ) → IsPlain text → count_by (λ b. b == 34) text ≡ 0
no_quote [] p = refl
no_quote (b ∷ text) p = rw (differs b 34 p.0.0) (no_quote text p.1)

pub no_return : (text : List ℕ) → IsPlain text → list_any (λ b. b == 13) text ≡ false
no_return [] p = refl
no_return (b ∷ text) p = rw (differs b 13 p.0.1) (no_return text p.1)

open_rest : (text : List ℕ) → IsOpen (codes "point," ++ text) → IsOpen text
open_rest text o = o.1.1.1.1.1.1

pub point_unbroken : (fields : List ℕ) → IsPlain fields → is_broken (codes "point," ++ fields) ≡ false
point_unbroken fields p = rw (no_quote fields p, no_return fields p) refl

pub point_fields : (fields : List ℕ) → IsPlain fields → line_fields (codes "point," ++ fields) ≡ Some (codes "point" ∷ split_at_commas fields)
unfolding strip_bom
point_fields fields p =
    let plain : IsPlain (codes "point," ++ fields) =
    ((λ e. cc, λ e. cc, λ e. cc), ((λ e. cc, λ e. cc, λ e. cc), ((λ e. cc, λ e. cc, λ e. cc), ((λ e. cc, λ e. cc, λ e. cc), ((λ e. cc, λ e. cc, λ e. cc), ((λ e. cc, λ e. cc, λ e. cc), p)))))) in
    rw (plain_lines_are_split (codes "point," ++ fields) (λ e. cc) plain) refl

pub point_line : (line fields : List ℕ) → line ≡ codes "point," ++ fields → IsOpen line → IsFirstByte (is_byte2 34 13) fields None
    → (is_broken line ≡ false) × (line_fields line ≡ Some (codes "point" ∷ split_at_commas fields))
point_line line fields e o none =
    let plain = plain_text fields (open_rest fields (rw e at o)) (without 34 13 fields none) in
    rw e (point_unbroken fields plain, point_fields fields plain)
