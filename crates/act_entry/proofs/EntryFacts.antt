-- Entries and their words.
use Rattle.std.proofs.Common.{◌≡◌, ℕ, ◌+◌, ◌-◌, ◌*◌, ◌/◌, ◌%◌, ◌^◌, ◌<◌, ◌≤◌, ◌==◌, ◌&&◌, Bool, true, false, cond, Option, Some, None, refl, ap, sym, ◌∙◌, arith, subst, eq-eqb}
use Rattle.std.specs.Prelude.{nat_lt, nat_le}
use Rattle.std.specs.Option.{option_map, option_and_then}
use Rattle.std.proofs.lemmas.Bool.{lt-ltb, le-leb}
use Rattle.act_entry.specs.declared.reference.Ref.{Ref}
use Rattle.act_entry.specs.declared.entry.Entry.{Entry}
use Rattle.act_entry.specs.declared.entry.Entry.TheVariants as entry
use Rattle.act_entry.specs.Entries.{IsEntry, child_of, entry_of, entry_word, one_of, table_of, two_of}
use Rattle.act_entry.specs.References.{IsRow, ref_number, ref_of}
use Rattle.act_entry.proofs.RefFacts.{not_zero, number_small, ref_told, ref_tells}

-- an entry by the low two bits of its word
at_child : (word : ℕ) → word % 4 ≡ 0 → entry_of word ≡ child_of (word / 4)
unfolding entry_of
at_child word low = rw low refl

at_one : (word : ℕ) → word % 4 ≡ 1 → entry_of word ≡ one_of (word / 4)
unfolding entry_of
at_one word low = rw low refl

at_two : (word : ℕ) → word % 4 ≡ 2 → entry_of word ≡ two_of (word / 4 % 2 ^ 31) (word / 4 / 2 ^ 31)
unfolding entry_of
at_two word low = rw low refl

at_table : (word : ℕ) → word % 4 ≡ 3 → entry_of word ≡ table_of (word / 4 / 256) (word / 4 % 256)
unfolding entry_of
at_table word low = rw low refl

-- each entry is told by its word
pub told : (e : Entry) → IsEntry e → entry_of (entry_word e) ≡ Some e
told entry.Empty h = at_child 0 refl
told (entry.Child row) h =
    let low : (row * 4) % 4 ≡ 0 = omega arith in
    let high : (row * 4) / 4 ≡ row = omega arith in
    let small : nat_lt row (2 ^ 30) ≡ true = lt-ltb row (2 ^ 30) h.1 in
    at_child (row * 4) low ∙ rw (high, not_zero row h.0, small) refl
told (entry.One r) h =
    let n = ref_number r in
    let low : (n * 4 + 1) % 4 ≡ 1 = omega arith in
    let high : (n * 4 + 1) / 4 ≡ n = omega arith in
    let small : nat_lt n (2 ^ 31) ≡ true = lt-ltb n (2 ^ 31) (number_small r h) in
    at_one (n * 4 + 1) low ∙ rw (high, small, ref_told r h) refl
told (entry.Two a b) h =
    let n = ref_number a in
    let m = ref_number b in
    let few : n < 2 ^ 31 = number_small a h.0 in
    let low : (m * 2 ^ 33 + n * 4 + 2) % 4 ≡ 2 = omega arith in
    let high : (m * 2 ^ 33 + n * 4 + 2) / 4 ≡ m * 2 ^ 31 + n = omega arith in
    let first : (m * 2 ^ 31 + n) % 2 ^ 31 ≡ n = omega arith in
    let second : (m * 2 ^ 31 + n) / 2 ^ 31 ≡ m = omega arith in
    at_two (m * 2 ^ 33 + n * 4 + 2) low ∙ rw (high, first, second, ref_told a h.0, ref_told b h.1) refl
told (entry.Table row place) h =
    let low : ((row * 256 + place) * 4 + 3) % 4 ≡ 3 = omega arith in
    let high : ((row * 256 + place) * 4 + 3) / 4 ≡ row * 256 + place = omega arith in
    let above : (row * 256 + place) / 256 ≡ row = omega (arith, h.1) in
    let below : (row * 256 + place) % 256 ≡ place = omega (arith, h.1) in
    let some : nat_lt 0 row ≡ true = lt-ltb 0 row h.0.0 in
    let small : nat_lt row (2 ^ 30) ≡ true = lt-ltb row (2 ^ 30) h.0.1 in
    let few : nat_le place 253 ≡ true = le-leb place 253 h.1 in
    at_table ((row * 256 + place) * 4 + 3) low ∙ rw (high, above, below, some, small, few) refl

abbrev Tells : ℕ → Entry → Type 0
Tells word e = IsEntry e × (entry_word e ≡ word)

-- what each kind tells
child_tells : (v : ℕ) (e : Entry) → child_of v ≡ Some e → Tells (v * 4) e
child_tells v e h = by (v == 0) refl (nat_lt v (2 ^ 30)) refl h
  where
    by : (zero : Bool) → (v == 0) ≡ zero → (small : Bool) → nat_lt v (2 ^ 30) ≡ small
        → cond zero (Some entry.Empty) (cond small (Some (entry.Child v)) None) ≡ Some e → Tells (v * 4) e
    by true zero small is h =
        let its : entry.Empty ≡ e = cc in
        let none : 0 ≡ v * 4 = grind arith in
        subst (λ e. Tells (v * 4) e) its (tt, none)
    by false some true is h =
        let its : entry.Child v ≡ e = cc in
        let row : 0 < v = grind arith in
        let few : v < 2 ^ 30 = grind arith in
        subst (λ e. Tells (v * 4) e) its ((row, few), refl)
    by false some false is h = cc

one_tells : (v : ℕ) (e : Entry) → one_of v ≡ Some e → Tells (v * 4 + 1) e
one_tells v e h = by (nat_lt v (2 ^ 31)) refl (ref_of v) refl h
  where
    by : (small : Bool) → nat_lt v (2 ^ 31) ≡ small → (r : Option Ref) → ref_of v ≡ r → cond small (option_map entry.One r) None ≡ Some e → Tells (v * 4 + 1) e
    by false is r told h = cc
    by true is None told h = cc
    by true is (Some r) told h =
        let its : entry.One r ≡ e = cc in
        let few : v < 2 ^ 31 = grind arith in
        let tells = ref_tells v r few told in
        subst (λ e. Tells (v * 4 + 1) e) its (tells.0, ap (λ n. n * 4 + 1) tells.1)

two_tells : (v w : ℕ) (e : Entry) → v < 2 ^ 31 → w < 2 ^ 31 → two_of v w ≡ Some e → Tells (w * 2 ^ 33 + v * 4 + 2) e
two_tells v w e few most h = by (ref_of v) refl (ref_of w) refl h
  where
    by : (a : Option Ref) → ref_of v ≡ a → (b : Option Ref) → ref_of w ≡ b → option_and_then (λ a. option_map (λ b. entry.Two a b) b) a ≡ Some e
        → Tells (w * 2 ^ 33 + v * 4 + 2) e
    by None first b second h = cc
    by (Some a) first None second h = cc
    by (Some a) first (Some b) second h =
        let its : entry.Two a b ≡ e = cc in
        let one = ref_tells v a few first in
        let other = ref_tells w b most second in
        subst (λ e. Tells (w * 2 ^ 33 + v * 4 + 2) e) its ((one.0, other.0), ap (λ n. ref_number b * 2 ^ 33 + n * 4 + 2) one.1 ∙ ap (λ m. m * 2 ^ 33 + v * 4 + 2) other.1)

table_tells : (row place : ℕ) (e : Entry) → table_of row place ≡ Some e → Tells ((row * 256 + place) * 4 + 3) e
table_tells row place e h = by (nat_lt 0 row) refl (nat_lt row (2 ^ 30)) refl (nat_le place 253) refl h
  where
    by : (a : Bool) → nat_lt 0 row ≡ a → (b : Bool) → nat_lt row (2 ^ 30) ≡ b → (c : Bool) → nat_le place 253 ≡ c
        → cond (a && b && c) (Some (entry.Table row place)) None ≡ Some e → Tells ((row * 256 + place) * 4 + 3) e
    by true some true few true low h =
        let its : entry.Table row place ≡ e = cc in
        let least : 0 < row = grind arith in
        let most : row < 2 ^ 30 = grind arith in
        let within : place ≤ 253 = grind arith in
        subst (λ e. Tells ((row * 256 + place) * 4 + 3) e) its (((least, most), within), refl)
    by true some true few false low h = cc
    by true some false few c low h = cc
    by false some b few c low h = cc

-- a word that tells an entry is that entry's word
pub tells : (word : ℕ) (e : Entry) → word < 2 ^ 64 → entry_of word ≡ Some e → Tells word e
tells word e small h = by (word % 4 == 0) refl (word % 4 == 1) refl (word % 4 == 2) refl
  where
    by : (a : Bool) → (word % 4 == 0) ≡ a → (b : Bool) → (word % 4 == 1) ≡ b → (c : Bool) → (word % 4 == 2) ≡ c → Tells word e
    by true zero b one c two =
        let low : word % 4 ≡ 0 = grind arith in
        let whole : word / 4 * 4 ≡ word = omega arith in
        rw whole at (child_tells (word / 4) e (sym (at_child word low) ∙ h))
    by false zero true one c two =
        let low : word % 4 ≡ 1 = grind arith in
        let whole : word / 4 * 4 + 1 ≡ word = omega arith in
        rw whole at (one_tells (word / 4) e (sym (at_one word low) ∙ h))
    by false zero false one true two =
        let low : word % 4 ≡ 2 = grind arith in
        let whole : word / 4 / 2 ^ 31 * 2 ^ 33 + word / 4 % 2 ^ 31 * 4 + 2 ≡ word = omega arith in
        let few : word / 4 % 2 ^ 31 < 2 ^ 31 = omega arith in
        let most : word / 4 / 2 ^ 31 < 2 ^ 31 = omega arith in
        rw whole at (two_tells (word / 4 % 2 ^ 31) (word / 4 / 2 ^ 31) e few most (sym (at_two word low) ∙ h))
    by false zero false one false two =
        let low : word % 4 ≡ 3 = grind arith in
        let whole : (word / 4 / 256 * 256 + word / 4 % 256) * 4 + 3 ≡ word = omega arith in
        rw whole at (table_tells (word / 4 / 256) (word / 4 % 256) e (sym (at_table word low) ∙ h))
