-- Tests of lists, element by element, and the places of the changed zone.
use Rattle.std.proofs.Common.{◌≡◌, ◌≢◌, ℕ, suc, ◌+◌, ◌<◌, ◌≤◌, Bool, true, false, if◌then◌else◌, not, cond, refl, sym, ap, ◌∙◌, subst, arith, List, [], ◌∷◌, ◌++◌, ◌&&◌, ◌||◌, ◌==◌, eq-eqb, drop, get_or, length, nat_lt, take, Option, Some, None}
use Rattle.std.specs.List.{list_all, list_any}
use Rattle.std.proofs.lemmas.Bool.{ne_eqb}
use Rattle.std.proofs.lemmas.List.{drop_all, drop_more, get_or-map, take_all}
use Rattle.std.proofs.lemmas.List.Elements.{All-push}
use Rattle.std.proofs.lemmas.List.Folds.{list_all-append, list_all_more}
use Rattle.std.proofs.lemmas.Option.{same_Some}
use Rattle.act_grid.specs.declared.Point.{Point}
use Rattle.act_grid.specs.declared.Settings.{Settings}
use Rattle.act_grid.specs.Cell.{Address, root_cell}
use Rattle.act_geom.specs.declared.class.Class.{Class}
use Rattle.act_cover.specs.Covering.{class_at, is_on}
use Rattle.act_super.specs.declared.entry.Entry.{Entry}
use Rattle.act_super.specs.declared.entry.Entry.TheVariants as entry
use Rattle.act_super.specs.declared.entry.State.{State}
use Rattle.act_super.specs.declared.entry.Zone.{Zone}
use Rattle.act_super.specs.declared.verdict.Verdict.TheVariants as verdict
use Rattle.act_super.specs.Changes.{class_given}
use Rattle.act_super.specs.Grounds.{same_cell}
use Rattle.act_super.specs.States.{changed, first_cause, has_key, key_of, reshaped, room_verdict, has_zone, shape_of, verdict_of, with_zone, without_key, zone_key_at, zone_shape_at}
use Rattle.act_image.specs.Fresh.{is_changed, same_cells}
use Rattle.act_image.specs.Turned.{IsPlaces, is_clear, is_free}
use Rattle.act_image.proofs.BranchFacts.{keys_are}

-- ---- a list, from a place on
module _ {X : Type 0} (p : X → Bool) (xs : List X) (i : ℕ) (d : X) where
  pub all_step : i < length xs → list_all p (drop i xs) ≡ (p (get_or xs i d) && list_all p (drop (i + 1) xs))
  all_step low = ap (list_all p) (drop_more xs i d low)

  pub all_end : length xs ≤ i → list_all p (drop i xs) ≡ true
  all_end high = ap (list_all p) (drop_all i xs high)

  pub any_step : i < length xs → list_any p (drop i xs) ≡ (p (get_or xs i d) || list_any p (drop (i + 1) xs))
  any_step low = ap (list_any p) (drop_more xs i d low)

  pub any_end : length xs ≤ i → list_any p (drop i xs) ≡ false
  any_end high = ap (list_any p) (drop_all i xs high)

-- one element of each list the same
pub cells_step : (xs ys : List Address) (i : ℕ) → i < length xs → i < length ys
    → same_cells (drop i xs) (drop i ys) ≡ (same_cell (get_or xs i root_cell) (get_or ys i root_cell) && same_cells (drop (i + 1) xs) (drop (i + 1) ys))
cells_step xs ys i low_x low_y = λ j. same_cells (drop_more xs i root_cell low_x j) (drop_more ys i root_cell low_y j)

pub cells_end : (xs ys : List Address) (i : ℕ) → length xs ≤ i → length ys ≤ i → same_cells (drop i xs) (drop i ys) ≡ true
cells_end xs ys i high_x high_y = λ j. same_cells (drop_all i xs high_x j) (drop_all i ys high_y j)

pub cells_differ : (xs ys : List Address) → length xs ≢ length ys → same_cells xs ys ≡ false
cells_differ [] [] ne = absurd (ne refl)
cells_differ [] (y ∷ ys) ne = refl
cells_differ (x ∷ xs) [] ne = refl
cells_differ (x ∷ xs) (y ∷ ys) ne = ap (λ b. same_cell x y && b) (cells_differ xs ys (λ e. ne (ap suc e))) ∙ none (same_cell x y)
  where
    none : (b : Bool) → (b && false) ≡ false
    none true = refl
    none false = refl

pub not_not : (b : Bool) → not b ≡ false → b ≡ true
not_not true h = refl
not_not false h = absurd (cc)

-- ---- the shape that a change gives
abbrev pub off_if : Option Class → Bool
off_if None = true
off_if (Some k) = not (is_on k)

and_true : (b : Bool) → (b && true) ≡ b
and_true true = refl
and_true false = refl

flip : (a b : ℕ) → (a == b) ≡ true → (b == a) ≡ true
flip a b h = eq-eqb b a (sym (keys_are a b h))

flip_not : (a b : ℕ) → (a == b) ≡ false → (b == a) ≡ false
flip_not a b h = by (b == a) refl
  where
    by : (k : Bool) → (b == a) ≡ k → k ≡ false
    by true e = let clash : true ≡ false = sym (flip b a e) ∙ h in absurd (cc)
    by false e = refl

with_all : (q : Zone → Bool) (zone : Zone) (zones : List Zone) → list_all q (with_zone zone zones) ≡ (q zone && list_all q zones)
with_all q zone [] = refl
with_all q zone (other ∷ zones) = by (nat_lt zone.key other.key) (with_all q zone zones)
  where
    swap : (a b k : Bool) → (a && (b && k)) ≡ (b && (a && k))
    swap true b k = refl
    swap false true k = refl
    swap false false k = refl

    by : (b : Bool) → list_all q (with_zone zone zones) ≡ (q zone && list_all q zones) → list_all q (if b then zone ∷ other ∷ zones else other ∷ with_zone zone zones) ≡ (q zone && (q other && list_all q zones))
    by true rest = refl
    by false rest = ap (λ b. q other && b) rest ∙ swap (q other) (q zone) (list_all q zones)

module _ (zones : List Zone) (c : Address) where
  added : (key : ℕ) (shape : List (List Point)) → is_clear (entry.Add key shape) (with_zone (record { key = key; shape = shape }) zones) c ≡ (not (is_on (class_at shape c)) && is_clear (entry.Add key shape) zones c)
  added key shape =
      with_all (λ (zone : Zone). not ((key == zone.key) && is_on (class_at zone.shape c))) (record { key = key; shape = shape }) zones
      ∙ ap (λ b. not (b && is_on (class_at shape c)) && is_clear (entry.Add key shape) zones c) (eq-eqb key key refl)

dropped : (key : ℕ) (zones : List Zone) (c : Address) → is_clear (entry.DropZone key) (without_key key zones) c ≡ true
dropped key [] c = refl
dropped key (zone ∷ zones) c = by (zone.key == key) refl (dropped key zones c)
  where
    by : (b : Bool) → (zone.key == key) ≡ b → is_clear (entry.DropZone key) (without_key key zones) c ≡ true
        → is_clear (entry.DropZone key) (cond (not b) (zone ∷ without_key key zones) (without_key key zones)) c ≡ true
    by true e rest = rest
    by false e rest = ap (λ b. not (b && is_on (class_at zone.shape c)) && is_clear (entry.DropZone key) (without_key key zones) c) (flip_not zone.key key e) ∙ rest

replaced : (key : ℕ) (shape : List (List Point)) (zones : List Zone) (c : Address)
    → is_clear (entry.Replace key shape) (reshaped key shape zones) c ≡ not (has_key key zones && is_on (class_at shape c))
replaced key shape [] c = refl
replaced key shape (zone ∷ zones) c = by (zone.key == key) refl (replaced key shape zones c)
  where
    both : (k h : Bool) → (not k && not (h && k)) ≡ not k
    both true h = refl
    both false true = refl
    both false false = refl

    by : (b : Bool) → (zone.key == key) ≡ b → is_clear (entry.Replace key shape) (reshaped key shape zones) c ≡ not (has_key key zones && is_on (class_at shape c))
        → is_clear (entry.Replace key shape) ((if b then record { key = key; shape = shape } else zone) ∷ reshaped key shape zones) c ≡ not ((b || has_key key zones) && is_on (class_at shape c))
    by true e rest =
        ap (λ b. not (b && is_on (class_at shape c)) && is_clear (entry.Replace key shape) (reshaped key shape zones) c) (eq-eqb key key refl)
        ∙ ap (λ b. not (is_on (class_at shape c)) && b) rest ∙ both (is_on (class_at shape c)) (has_key key zones)
    by false e rest = ap (λ b. not (b && is_on (class_at zone.shape c)) && is_clear (entry.Replace key shape) (reshaped key shape zones) c) (flip_not zone.key key e) ∙ rest

trained : (cells : List Address) (zones : List Zone) (c : Address) → is_clear (entry.Train cells) zones c ≡ true
trained cells [] c = refl
trained cells (zone ∷ zones) c = trained cells zones c

-- a zone that is replaced stands
stands : (settings : Settings) (old : State) (key : ℕ) (shape : List (List Point)) → verdict_of settings old (entry.Replace key shape) ≡ None → has_key key old.zones ≡ true
stands settings old key shape ok = by (has_key key old.zones) ok
  where
    by : (b : Bool)
        → first_cause (if b then (if has_zone key shape old.zones then Some verdict.Same else None) else Some verdict.Unknown) (room_verdict settings (changed old.zones (entry.Replace key shape))) ≡ None
        → b ≡ true
    by true ok = refl
    by false ok = absurd (cc)

-- the changed zone is Outside before and after: where it stood, and the shape that is given
pub free_is : (settings : Settings) (old : State) (e : Entry) (c : Address) → verdict_of settings old e ≡ None → is_clear e old.zones c ≡ true → is_free e old.zones c ≡ off_if (class_given (shape_of e) c)
free_is settings old (entry.Add key shape) c ok h =
    ap (λ b. b && is_clear (entry.Add key shape) (with_zone (record { key = key; shape = shape }) old.zones) c) h ∙ added old.zones c key shape ∙ ap (λ b. not (is_on (class_at shape c)) && b) h ∙ and_true (not (is_on (class_at shape c)))
free_is settings old (entry.DropZone key) c ok h = ap (λ b. b && is_clear (entry.DropZone key) (without_key key old.zones) c) h ∙ dropped key old.zones c
free_is settings old (entry.Replace key shape) c ok h =
    ap (λ b. b && is_clear (entry.Replace key shape) (reshaped key shape old.zones) c) h ∙ replaced key shape old.zones c
    ∙ ap (λ b. not (b && is_on (class_at shape c))) (stands settings old key shape ok)
free_is settings old (entry.Train cells) c ok h = ap (λ b. b && is_clear (entry.Train cells) old.zones c) h ∙ h

-- where it isn't so before, it isn't so
pub free_not : (e : Entry) (zones : List Zone) (c : Address) → is_clear e zones c ≡ false → is_free e zones c ≡ false
free_not e zones c h = ap (λ b. b && is_clear e (changed zones e) c) h

-- ---- places
pub no_key_places : (e : Entry) (zones : List Zone) → key_of e ≡ None → IsPlaces e zones zones []
no_key_places (entry.Add key shape) zones h = absurd (cc)
no_key_places (entry.DropZone key) zones h = absurd (cc)
no_key_places (entry.Replace key shape) zones h = absurd (cc)
no_key_places (entry.Train cells) zones h = record { within = λ k d low. absurd (omega arith); clear = λ c. sym (trained cells zones c) }

pub begin_places : (e : Entry) (zones : List Zone) → IsPlaces e zones (take 0 zones) []
begin_places e zones = record { within = λ k d low. absurd (omega arith); clear = λ c. refl }

pub end_places : (e : Entry) (zones : List Zone) (i : ℕ) (places : List ℕ) → length zones ≤ i → IsPlaces e zones (take i zones) places → IsPlaces e zones zones places
end_places e zones i places high h = subst (λ (some : List Zone). IsPlaces e zones some places) (take_all i zones high) h

changed_is : (e : Entry) (key k : ℕ) → key_of e ≡ Some key → is_changed e k ≡ (key == k)
changed_is (entry.Add own shape) key k h = ap (λ n. n == k) (same_Some own key h)
changed_is (entry.DropZone own) key k h = ap (λ n. n == k) (same_Some own key h)
changed_is (entry.Replace own shape) key k h = ap (λ n. n == k) (same_Some own key h)
changed_is (entry.Train cells) key k h = absurd (cc)

-- one more zone is looked at
module _ (e : Entry) (zones : List Zone) (key i : ℕ) (places : List ℕ) (is : key_of e ≡ Some key) (low : i < length zones) (h : IsPlaces e zones (take i zones) places) where
  none : Zone
  none = record { key = 0; shape = [] }

  key_is : zone_key_at zones i ≡ (get_or zones i none).key
  key_is = get_or-map (λ (zone : Zone). zone.key) zones i none 0 low

  shape_is : zone_shape_at zones i ≡ (get_or zones i none).shape
  shape_is = get_or-map (λ (zone : Zone). zone.shape) zones i none [] low

  more : (c : Address) → is_clear e (take (i + 1) zones) c ≡ (is_clear e (take i zones) c && not (is_changed e (zone_key_at zones i) && is_on (class_at (zone_shape_at zones i) c)))
  more c =
      list_all_more (λ (zone : Zone). not (is_changed e zone.key && is_on (class_at zone.shape c))) zones i none low
      ∙ (λ j. is_clear e (take i zones) c && not (is_changed e (sym key_is j) && is_on (class_at (sym shape_is j) c)))

  pub put_place : zone_key_at zones i ≡ key → IsPlaces e zones (take (i + 1) zones) (places ++ i ∷ [])
  put_place same = record {
    within = All-push (λ k. k < length zones) places i h.within low;
    clear = λ c.
        let yes : is_changed e (zone_key_at zones i) ≡ true = changed_is e key (zone_key_at zones i) is ∙ eq-eqb key (zone_key_at zones i) (sym same) in
        list_all-append (λ k. not (is_on (class_at (zone_shape_at zones k) c))) places (i ∷ [])
        ∙ (λ j. h.clear c j && and_true (not (is_on (class_at (zone_shape_at zones i) c))) j)
        ∙ sym (more c ∙ ap (λ b. is_clear e (take i zones) c && not (b && is_on (class_at (zone_shape_at zones i) c))) yes);
  }

  pub skip_place : zone_key_at zones i ≢ key → IsPlaces e zones (take (i + 1) zones) places
  skip_place other = record {
    within = h.within;
    clear = λ c.
        let no : is_changed e (zone_key_at zones i) ≡ false = changed_is e key (zone_key_at zones i) is ∙ ne_eqb key (zone_key_at zones i) (λ same. other (sym same)) in
        h.clear c ∙ sym (more c ∙ ap (λ b. is_clear e (take i zones) c && not (b && is_on (class_at (zone_shape_at zones i) c))) no ∙ and_true (is_clear e (take i zones) c));
  }
