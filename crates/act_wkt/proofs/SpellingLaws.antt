-- A text that is written is of the grammar.
use Rattle.std.proofs.Common.{◌≡◌, ℕ, ℤ, suc, zero, pos, ◌/◌, ◌^◌, ◌<◌, ◌≤◌, ◌++◌, ◌&&◌, ◌||◌, List, [], ◌∷◌, Bool, true, false, cond, refl, ap, sym, ◌∙◌, arith, inl, inr, append_assoc, codes, decimal, flat_map, get_or, int_lt, length, map, subst, unsigned_abs, negsuc, ◌==◌}
use Rattle.std.proofs.lemmas.Int.{ints}
use Rattle.std.proofs.Math.Nat.{div-le_self}
use Rattle.std.proofs.lemmas.List.Folds.{list_all-append}
use Rattle.std.proofs.lemmas.Str.Parse.{tells_all_ascii_digits}
use Rattle.std.specs.List.{AllByRecursion, list_all}
use Rattle.std.specs.Str.{all_ascii_digits}
use Rattle.act_grid.proofs.Digits.{digit_here}
use Rattle.act_grid.specs.declared.Point.{Point}
use Rattle.act_wkt.specs.declared.token.Class.TheVariants as class
use Rattle.act_wkt.specs.Grammar.{IsJoined, IsNumber, IsPart, IsPoint, IsPoints, IsRing, IsWkt, joined, points_of}
use Rattle.act_wkt.specs.Reading.{Rings}
use Rattle.act_wkt.specs.Spelling.{AreRings, IsCoordinate, IsGridPoint, decimals_of, last_digits, number_text, point_text, ring_text, spelling}
use Rattle.act_wkt.specs.Tokens.{is_in}
use Rattle.act_wkt.proofs.NumberText.{decimal_digits, last_are_digits, number_again}
use Rattle.act_wkt.proofs.RingLaws.{more_before}

-- what is written of a number is its bytes alone
digits_are_bytes : (text : List ℕ) → all_ascii_digits text ≡ true → list_all (is_in class.Number) text ≡ true
digits_are_bytes [] all = refl
digits_are_bytes (d ∷ text) all =
    ap (λ t. (t || d == 43 || d == 45 || d == 46 || d == 101 || d == 69) && list_all (is_in class.Number) text) (digit_here 0 (d ∷ text) (omega arith) all)
    ∙ digits_are_bytes text (tells_all_ascii_digits.parts d text all).1

decimals_are_bytes : (k n : ℕ) → list_all (is_in class.Number) (decimals_of k n) ≡ true
decimals_are_bytes zero n = refl
decimals_are_bytes (suc k) n = digits_are_bytes (last_digits (suc k) n) (last_are_digits (suc k) n)

sign_is_byte : (b : Bool) → list_all (is_in class.Number) (cond b (codes "-") []) ≡ true
sign_is_byte true = refl
sign_is_byte false = refl

all_of_both : (front back : List ℕ) → list_all (is_in class.Number) front ≡ true → list_all (is_in class.Number) back ≡ true → list_all (is_in class.Number) (front ++ back) ≡ true
all_of_both front back f b = list_all-append (is_in class.Number) front back ∙ rw (f, b) refl

small : (digits : ℕ) (z : ℤ) → IsCoordinate z → unsigned_abs z / 10 ^ digits < 2 ^ 64
small digits (pos n) h = omega (arith, ints, h.high, div-le_self n (10 ^ digits))
small digits (negsuc n) h = omega (arith, ints, h.low, div-le_self (suc n) (10 ^ digits))

number_bytes : (digits : ℕ) (z : ℤ) → IsCoordinate z → list_all (is_in class.Number) (number_text digits z) ≡ true
unfolding number_text
number_bytes digits z h =
    all_of_both (cond (int_lt z (pos 0)) (codes "-") []) (decimal (unsigned_abs z / 10 ^ digits) ++ decimals_of digits (unsigned_abs z)) (sign_is_byte (int_lt z (pos 0)))
    (all_of_both (decimal (unsigned_abs z / 10 ^ digits)) (decimals_of digits (unsigned_abs z)) (digits_are_bytes (decimal (unsigned_abs z / 10 ^ digits)) (decimal_digits (unsigned_abs z / 10 ^ digits) (small digits z h))) (decimals_are_bytes digits (unsigned_abs z)))

-- a number behind blanks
number_is : (digits : ℕ) (z : ℤ) (blanks rest : List ℕ) → list_all (is_in class.Blank) blanks ≡ true → IsCoordinate z → is_in class.Number (get_or rest 0 0) ≡ false → IsNumber digits (blanks ++ (number_text digits z ++ rest)) rest z
number_is digits z blanks rest all h ends = record {
  run = number_text digits z;
  is_run = record { blanks = blanks; are_blanks = all; of_class = number_bytes digits z h; longest = ends; parts = refl };
  has_value = number_again digits z h.low h.high;
}

point_is : (digits : ℕ) (point : Point) (rest : List ℕ) → IsGridPoint point → is_in class.Number (get_or rest 0 0) ≡ false → IsPoint digits (point_text digits point ++ rest) rest point
unfolding point_text
point_is digits point rest h ends =
    let y = number_text digits point.y in
    record {
      between = 32 ∷ (y ++ rest);
      is_x = subst (λ (l : List ℕ). IsNumber digits l (32 ∷ (y ++ rest)) point.x) (sym (append_assoc (number_text digits point.x) (32 ∷ y) rest)) (number_is digits point.x [] (32 ∷ (y ++ rest)) refl h.x refl);
      is_y = number_is digits point.y (32 ∷ []) rest refl h.y ends;
      blank = refl;
    }

abbrev with_comma : ℕ → Point → List ℕ
with_comma digits point = point_text digits point ++ (44 ∷ [])

points_are : (digits : ℕ) (more : List Point) (last : Point) (rest : List ℕ) → AllByRecursion IsGridPoint more → IsGridPoint last
    → IsPoints digits (flat_map (with_comma digits) more ++ (point_text digits last ++ (41 ∷ rest))) rest (more ++ last ∷ [])
points_are digits [] last rest all h = (41 ∷ rest, point_is digits last (41 ∷ rest) h refl, record { blanks = []; are_blanks = refl; parts = refl })
points_are digits (point ∷ more) last rest all h =
    let tail = flat_map (with_comma digits) more ++ (point_text digits last ++ (41 ∷ rest)) in
    let regroup : flat_map (with_comma digits) (point ∷ more) ++ (point_text digits last ++ (41 ∷ rest)) ≡ point_text digits point ++ (44 ∷ tail) =
    append_assoc (with_comma digits point) (flat_map (with_comma digits) more) (point_text digits last ++ (41 ∷ rest)) ∙ append_assoc (point_text digits point) (44 ∷ []) tail in
    subst (λ (l : List ℕ). IsPoints digits l rest (point ∷ (more ++ last ∷ []))) (sym regroup)
    (more_before digits (point_text digits point ++ (44 ∷ tail)) (44 ∷ tail) tail rest point (more ++ last ∷ []) (point_is digits point (44 ∷ tail) all.0 refl)
    (record { blanks = []; are_blanks = refl; parts = refl }) (points_are digits more last rest all.1 h))

ring_is : (digits : ℕ) (ring : List Point) (rest : List ℕ) → 3 ≤ length ring → AllByRecursion IsGridPoint ring → IsRing digits (ring_text digits ring ++ rest) rest ring
unfolding ring_text
ring_is digits [] rest full all = absurd (omega arith)
ring_is digits (first ∷ more) rest full all =
    let front = flat_map (with_comma digits) (first ∷ more) in
    let inner = front ++ (point_text digits first ++ (41 ∷ rest)) in
    let regroup : (front ++ (point_text digits first ++ codes ")")) ++ rest ≡ inner =
    append_assoc front (point_text digits first ++ codes ")") rest ∙ ap (λ l. front ++ l) (append_assoc (point_text digits first) (codes ")") rest) in
    (inner, record { blanks = []; are_blanks = refl; parts = ap (λ l. 40 ∷ l) regroup }, points_are digits (first ∷ more) first rest all all.0, omega arith)

abbrev single : List Point → Rings
single ring = ring ∷ []

joined_singles : (rings : Rings) → joined (map single rings) ≡ rings
joined_singles [] = refl
joined_singles (ring ∷ rings) = ap (λ r. ring ∷ r) (joined_singles rings)

rings_are : (digits : ℕ) (ring : List Point) (rings : Rings) → AreRings (ring ∷ rings)
    → IsJoined (IsPart digits) (ring_text digits ring ++ (flat_map (λ other. 44 ∷ ring_text digits other) rings ++ codes ")")) [] (map single (ring ∷ rings))
rings_are digits ring [] all = (codes ")", ring_is digits ring (codes ")") all.0.0 all.0.1, record { blanks = []; are_blanks = refl; parts = refl })
rings_are digits ring (other ∷ rings) all =
    let next = ring_text digits other ++ (flat_map (λ o. 44 ∷ ring_text digits o) rings ++ codes ")") in
    let regroup : flat_map (λ o. 44 ∷ ring_text digits o) (other ∷ rings) ++ codes ")" ≡ 44 ∷ next = append_assoc (44 ∷ ring_text digits other) (flat_map (λ o. 44 ∷ ring_text digits o) rings) (codes ")") in
    subst (λ (l : List ℕ). IsJoined (IsPart digits) (ring_text digits ring ++ l) [] (map single (ring ∷ (other ∷ rings)))) (sym regroup)
    (44 ∷ next, next, ring_is digits ring (44 ∷ next) all.0.0 all.0.1, record { blanks = []; are_blanks = refl; parts = refl }, rings_are digits other rings all.1)

-- the spelling of rings writes them
pub spelling_is : (digits : ℕ) (rings : Rings) → AreRings rings → points_of rings ≤ 262144 → IsWkt digits (spelling digits rings) rings
unfolding spelling
spelling_is digits [] all few = record {
  behind = codes " EMPTY";
  rest = [];
  whole = inl (
    record {
      word = codes "POLYGON";
      is_run = record { blanks = []; are_blanks = refl; of_class = refl; longest = refl; parts = refl };
      is_name = refl;
    },
    inl (
      record {
        word = codes "EMPTY";
        is_run = record { blanks = codes " "; are_blanks = refl; of_class = refl; longest = refl; parts = refl };
        is_name = refl;
      },
      refl,
    ),
  );
  nothing_more = refl;
  few = few;
}
spelling_is digits (ring ∷ rings) all few =
    let inner = ring_text digits ring ++ (flat_map (λ other. 44 ∷ ring_text digits other) rings ++ codes ")") in
    record {
      behind = 40 ∷ inner;
      rest = [];
      whole = inl (
        record {
          word = codes "POLYGON";
          is_run = record { blanks = []; are_blanks = refl; of_class = refl; longest = refl; parts = refl };
          is_name = refl;
        },
        inr (record {
          inner = inner;
          items = map single (ring ∷ rings);
          opens = record { blanks = []; are_blanks = refl; parts = refl };
          are_items = rings_are digits ring rings all;
          all_rings = sym (joined_singles (ring ∷ rings));
        }),
      );
      nothing_more = refl;
      few = few;
    }
