-- Zones by their keys and shapes.
use Rattle.std.proofs.Common.{◌≡◌, ℕ, zero, suc, ◌+◌, ◌<◌, ◌≤◌, ◌||◌, Bool, true, false, List, [], ◌∷◌, length, get_or, map, refl, ap, sym, arith, set, inl, inr}
use Rattle.std.proofs.lemmas.Bool.{cases_lt}
use Rattle.std.specs.Prelude.{insert, remove, nat_lt, ◌==◌, slice_index_or}
use Rattle.std.proofs.lemmas.Bool.{le-ltb, lt-ltb}
use Rattle.std.proofs.Common.{eq-eqb}
use Rattle.act_grid.specs.declared.Point.{Point}
use Rattle.act_grid.specs.Cell.{Address}
use Rattle.act_super.specs.declared.entry.Zone.{Zone}
use Rattle.act_super.specs.declared.entry.State.{State}
use Rattle.act_super.specs.Places.{IsRisingFrom, zones_with}
use Rattle.act_super.specs.Shapes.{same_rings}
use Rattle.act_super.specs.States.{has_key, has_zone, reshaped, with_zone, without_key}
use Rattle.act_super.proofs.Rising.{above}

abbrev Shapes : Type 0
Shapes = List (List (List Point))

pub keys_are : (keys : List ℕ) (shapes : Shapes) → length shapes ≡ length keys → map (λ (zone : Zone). zone.key) (zones_with keys shapes) ≡ keys
keys_are [] shapes same = refl
keys_are (key ∷ keys) [] same = absurd (omega arith)
keys_are (key ∷ keys) (shape ∷ shapes) same = ap (λ keys. key ∷ keys) (keys_are keys shapes (omega arith))

pub shapes_are : (keys : List ℕ) (shapes : Shapes) → length shapes ≡ length keys → map (λ (zone : Zone). zone.shape) (zones_with keys shapes) ≡ shapes
shapes_are [] [] same = refl
shapes_are [] (shape ∷ shapes) same = absurd (omega arith)
shapes_are (key ∷ keys) [] same = absurd (omega arith)
shapes_are (key ∷ keys) (shape ∷ shapes) same = ap (λ shapes. shape ∷ shapes) (shapes_are keys shapes (omega arith))

pub length-zones : (keys : List ℕ) (shapes : Shapes) → length shapes ≡ length keys → length (zones_with keys shapes) ≡ length keys
length-zones [] shapes same = refl
length-zones (key ∷ keys) [] same = absurd (omega arith)
length-zones (key ∷ keys) (shape ∷ shapes) same = ap suc (length-zones keys shapes (omega arith))

other : (a b : ℕ) → (a ≡ b → ⊥) → (a == b) ≡ false
other a b h = grind arith

-- a zone with the key at a place
pub has_found : (key : ℕ) (keys : List ℕ) (shapes : Shapes) (i : ℕ) → length shapes ≡ length keys → i < length keys → get_or keys i 0 ≡ key
    → has_key key (zones_with keys shapes) ≡ true
has_found key [] shapes i same within is = absurd (omega arith)
has_found key (k ∷ keys) [] i same within is = absurd (omega arith)
has_found key (k ∷ keys) (shape ∷ shapes) zero same within is = let here : (k == key) ≡ true = eq-eqb k key is in rw here refl
has_found key (k ∷ keys) (shape ∷ shapes) (suc i) same within is =
    let there = has_found key keys shapes i (omega arith) (omega arith) is in
    either (k == key) (has_key key (zones_with keys shapes)) there
  where
    either : (a b : Bool) → b ≡ true → (a || b) ≡ true
    either true b h = refl
    either false b h = h

-- none with the key
pub has_missing : (key : ℕ) (keys : List ℕ) (shapes : Shapes) → ((k : ℕ) → k < length keys → get_or keys k 0 ≡ key → ⊥) → has_key key (zones_with keys shapes) ≡ false
has_missing key [] shapes none = refl
has_missing key (k ∷ keys) [] none = refl
has_missing key (k ∷ keys) (shape ∷ shapes) none =
    let here : (k == key) ≡ false = other k key (none 0 (omega arith)) in
    rw here (has_missing key keys shapes (λ j less. none (suc j) (omega arith)))

-- none with the key, by the place where it would stand
pub has_free : (key : ℕ) (keys : List ℕ) (shapes : Shapes) (i : ℕ) → ((k : ℕ) → k < i → get_or keys k 0 < key)
    → ((k : ℕ) → i ≤ k → k < length keys → key < get_or keys k 0) → has_key key (zones_with keys shapes) ≡ false
has_free key keys shapes i before after =
    has_missing key keys shapes (λ k less is.
    elim (cases_lt k i) [
      | inl low ↦ let below = before k low in omega arith
      | inr high ↦ let more = after k high less in omega arith
    ])

-- one zone more in its place
pub put_is : (key : ℕ) (shape : List (List Point)) (keys : List ℕ) (shapes : Shapes) (i : ℕ) → length shapes ≡ length keys → i ≤ length keys
    → ((k : ℕ) → k < i → get_or keys k 0 < key) → ((k : ℕ) → i ≤ k → k < length keys → key < get_or keys k 0)
    → zones_with (insert keys i key) (insert shapes i shape) ≡ with_zone (record { key = key; shape = shape }) (zones_with keys shapes)
put_is key shape [] [] zero same within before after = refl
put_is key shape [] [] (suc i) same within before after = absurd (omega arith)
put_is key shape [] (s ∷ shapes) i same within before after = absurd (omega arith)
put_is key shape (k ∷ keys) [] i same within before after = absurd (omega arith)
put_is key shape (k ∷ keys) (s ∷ shapes) zero same within before after =
    let here : nat_lt key k ≡ true = lt-ltb key k (after 0 (omega arith) (omega arith)) in rw here refl
put_is key shape (k ∷ keys) (s ∷ shapes) (suc i) same within before after =
    let below : k < key = before 0 (omega arith) in
    let here : nat_lt key k ≡ false = le-ltb key k (omega arith) in
    rw here (ap (λ zones. record { key = k; shape = s } ∷ zones)
    (put_is key shape keys shapes i (omega arith) (omega arith) (λ j less. before (suc j) (omega arith)) (λ j more less. after (suc j) (omega arith) (omega arith))))

-- zones above the key stay
kept : (key : ℕ) (keys : List ℕ) (shapes : Shapes) → IsRisingFrom (key + 1) keys → without_key key (zones_with keys shapes) ≡ zones_with keys shapes
kept key keys shapes h = stay keys shapes (λ k less. let more = above (key + 1) keys h k less in omega arith)
  where
    stay : (keys : List ℕ) (shapes : Shapes) → ((k : ℕ) → k < length keys → key < get_or keys k 0) → without_key key (zones_with keys shapes) ≡ zones_with keys shapes
    stay [] shapes more = refl
    stay (k ∷ keys) [] more = refl
    stay (k ∷ keys) (s ∷ shapes) more =
        let above_here : key < k = more 0 (omega arith) in
        let here : (k == key) ≡ false = other k key (λ e. absurd (omega arith)) in
        rw here (ap (λ zones. record { key = k; shape = s } ∷ zones) (stay keys shapes (λ j less. more (suc j) (omega arith))))

pub remove_is : (key low : ℕ) (keys : List ℕ) (shapes : Shapes) (i : ℕ) → IsRisingFrom low keys → length shapes ≡ length keys → i < length keys → get_or keys i 0 ≡ key
    → zones_with (remove keys i) (remove shapes i) ≡ without_key key (zones_with keys shapes)
remove_is key low [] shapes i h same within is = absurd (omega arith)
remove_is key low (k ∷ keys) [] i h same within is = absurd (omega arith)
remove_is key low (k ∷ keys) (s ∷ shapes) zero h same within is =
    let here : (k == key) ≡ true = eq-eqb k key is in
    let more : IsRisingFrom (key + 1) keys = rw is at h.1 in
    rw here (sym (kept key keys shapes more))
remove_is key low (k ∷ keys) (s ∷ shapes) (suc i) h same within is =
    let more : k + 1 ≤ get_or keys i 0 = above (k + 1) keys h.1 i (omega arith) in
    let here : (k == key) ≡ false = other k key (λ e. absurd (omega arith)) in
    rw here (ap (λ zones. record { key = k; shape = s } ∷ zones) (remove_is key (k + 1) keys shapes i h.1 (omega arith) (omega arith) is))

-- zones above the key keep their shapes
unshaped : (key : ℕ) (shape : List (List Point)) (keys : List ℕ) (shapes : Shapes) → ((k : ℕ) → k < length keys → key < get_or keys k 0)
    → reshaped key shape (zones_with keys shapes) ≡ zones_with keys shapes
unshaped key shape [] shapes more = refl
unshaped key shape (k ∷ keys) [] more = refl
unshaped key shape (k ∷ keys) (s ∷ shapes) more =
    let above_here : key < k = more 0 (omega arith) in
    let here : (k == key) ≡ false = other k key (λ e. absurd (omega arith)) in
    rw here (ap (λ zones. record { key = k; shape = s } ∷ zones) (unshaped key shape keys shapes (λ j less. more (suc j) (omega arith))))

pub reshape_is : (key low : ℕ) (shape : List (List Point)) (keys : List ℕ) (shapes : Shapes) (i : ℕ) → IsRisingFrom low keys → length shapes ≡ length keys → i < length keys
    → get_or keys i 0 ≡ key → zones_with keys (set shapes i shape) ≡ reshaped key shape (zones_with keys shapes)
reshape_is key low shape [] shapes i h same within is = absurd (omega arith)
reshape_is key low shape (k ∷ keys) [] i h same within is = absurd (omega arith)
reshape_is key low shape (k ∷ keys) (s ∷ shapes) zero h same within is =
    let here : (k == key) ≡ true = eq-eqb k key is in
    let more : IsRisingFrom (key + 1) keys = rw is at h.1 in
    let rest = unshaped key shape keys shapes (λ j less. let most = above (key + 1) keys more j less in omega arith) in
    rw (here, rest, is) refl
reshape_is key low shape (k ∷ keys) (s ∷ shapes) (suc i) h same within is =
    let more : k + 1 ≤ get_or keys i 0 = above (k + 1) keys h.1 i (omega arith) in
    let here : (k == key) ≡ false = other k key (λ e. absurd (omega arith)) in
    rw here (ap (λ zones. record { key = k; shape = s } ∷ zones) (reshape_is key (k + 1) shape keys shapes i h.1 (omega arith) (omega arith) is))

-- whether a zone with the key and the shape stands, by the shape at the key's place
no_zone : (key : ℕ) (shape : List (List Point)) (keys : List ℕ) (shapes : Shapes) → ((k : ℕ) → k < length keys → key < get_or keys k 0)
    → has_zone key shape (zones_with keys shapes) ≡ false
no_zone key shape [] shapes more = refl
no_zone key shape (k ∷ keys) [] more = refl
no_zone key shape (k ∷ keys) (s ∷ shapes) more =
    let above_here : key < k = more 0 (omega arith) in
    let here : (k == key) ≡ false = other k key (λ e. absurd (omega arith)) in
    rw here (no_zone key shape keys shapes (λ j less. more (suc j) (omega arith)))

pub zone_is : (key low : ℕ) (shape : List (List Point)) (keys : List ℕ) (shapes : Shapes) (i : ℕ) → IsRisingFrom low keys → length shapes ≡ length keys → i < length keys
    → get_or keys i 0 ≡ key → has_zone key shape (zones_with keys shapes) ≡ same_rings (slice_index_or shapes i []) shape
zone_is key low shape [] shapes i h same within is = absurd (omega arith)
zone_is key low shape (k ∷ keys) [] i h same within is = absurd (omega arith)
zone_is key low shape (k ∷ keys) (s ∷ shapes) zero h same within is =
    let here : (k == key) ≡ true = eq-eqb k key is in
    let more : IsRisingFrom (key + 1) keys = rw is at h.1 in
    let rest = no_zone key shape keys shapes (λ j less. let most = above (key + 1) keys more j less in omega arith) in
    rw (here, rest) (or_false (same_rings s shape))
  where
    or_false : (b : Bool) → (b || false) ≡ b
    or_false true = refl
    or_false false = refl
zone_is key low shape (k ∷ keys) (s ∷ shapes) (suc i) h same within is =
    let more : k + 1 ≤ get_or keys i 0 = above (k + 1) keys h.1 i (omega arith) in
    let here : (k == key) ≡ false = other k key (λ e. absurd (omega arith)) in
    rw here (zone_is key (k + 1) shape keys shapes i h.1 (omega arith) (omega arith) is)

-- states of the same zones and trained cells
pub same_state : (a b : List Zone) (s t : List Address) → a ≡ b → s ≡ t → ◌≡◌ {A = State} (record { zones = a; trained = s }) (record { zones = b; trained = t })
same_state a b s t zones trained = cc
