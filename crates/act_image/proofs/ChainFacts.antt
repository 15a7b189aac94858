-- The chains of a new image that keeps those of unchanged zones, one behind the other.
use Rattle.std.proofs.Common.{◌≡◌, ◌≢◌, ℕ, zero, suc, ◌+◌, ◌<◌, ◌≤◌, ◌⊎◌, inl, inr, Bool, true, false, if◌then◌else◌, cond, ◌||◌, refl, sym, ap, ◌∙◌, subst, arith, List, [], ◌∷◌, ◌++◌, ◌==◌, length, get_or, map, take, drop, Option, Some, None}
use Rattle.std.specs.List.{AllByRecursion as Each, flat_map}
use Rattle.std.proofs.lemmas.Bool.{ne_eqb}
use Rattle.std.proofs.lemmas.Bool.Decides.{eqb_tells}
use Rattle.std.proofs.lemmas.List.{append-nil, append_assoc, length-append, map-append}
use Rattle.std.proofs.lemmas.List.Concat.{flat_map-append}
use Rattle.std.proofs.lemmas.List.Sums.{sum_by-cons}
use Rattle.act_grid.specs.declared.Point.{Point}
use Rattle.act_super.specs.declared.entry.Entry.{Entry}
use Rattle.act_super.specs.declared.entry.Entry.TheVariants as entry
use Rattle.act_super.specs.declared.entry.State.{State}
use Rattle.act_super.specs.declared.entry.Zone.{Zone}
use Rattle.act_super.specs.declared.verdict.Verdict.TheVariants as verdict
use Rattle.act_grid.specs.declared.Settings.{Settings}
use Rattle.act_super.specs.Sizes.{chain_rows, chains_of}
use Rattle.act_super.specs.States.{changed, first_cause, has_key, has_zone, key_of, reshaped, room_verdict, shape_of, verdict_of, with_zone, without_key, zone_key_at, zone_shape_at}
use Rattle.act_image.specs.declared.chains.ChainPlace.{ChainPlace}
use Rattle.act_image.specs.declared.chains.ChainRow.{ChainRow}
use Rattle.act_image.specs.declared.kept.KeptChains.{KeptChains}
use Rattle.act_image.specs.Fresh.{is_changed}
use Rattle.act_image.specs.Kept.{IsKeptChains, kept_slots, new_slots, of_first_body, own_rows, zone_slots}
use Rattle.act_image.specs.Pics.{HaveOwnKeys, chain_of}
use Rattle.act_image.specs.Plans.{chain_rows_from, chains_from, rows_from}
use Rattle.act_image.specs.Words.{no_chain}
use Rattle.act_image.proofs.BuildFacts.{chain_rows_push, chains_length, chains_push, rows_push}
use Rattle.act_image.proofs.Leaves.{each_append}
use Rattle.act_image.proofs.PlaceFacts.{OwnKeys, own_keys, rows_length}
use Rattle.act_image.proofs.SizeFacts.{chain_count}
use Rattle.act_image.proofs.StepFacts.{each_get}

-- ---- the chains of some zones, behind which those of the others are still to be put
module _ (Is : List Zone → KeptChains → Type 0) where
  pub record UpTo (all rest : List Zone) (c : KeptChains) : Type 0 where
    pub done : List Zone
    pub are : Is done c
    pub left : all ≡ done ++ rest

  pub up_one : (all before rest : List Zone) (old new after : KeptChains) (zone : Zone) → before ≡ zone ∷ rest → UpTo all before old → ((zones : List Zone) → Is zones old → Is (zones ++ zone ∷ []) new) → after ≡ new → UpTo all rest after
  up_one all before rest old new after zone e h put same =
      subst (UpTo all rest) (sym same) (record { done = h.done ++ zone ∷ []; are = put h.done h.are; left = h.left ∙ ap (λ v. h.done ++ v) e ∙ sym (append_assoc h.done (zone ∷ []) rest) })

  pub up_same : (all before rest : List Zone) (old after : KeptChains) → before ≡ rest → UpTo all before old → after ≡ old → UpTo all rest after
  up_same all before rest old after e h same = subst (UpTo all rest) (sym same) (record { done = h.done; are = h.are; left = h.left ∙ ap (λ v. h.done ++ v) e })

  pub up_begin : (all : List Zone) (c : KeptChains) → Is [] c → UpTo all all c
  up_begin all c h = record { done = []; are = h; left = refl }

  pub up_end : (all rest : List Zone) (c : KeptChains) → UpTo all rest c → rest ≡ [] → Is all c
  up_end all rest c h e = subst (λ v. Is v c) (sym (h.left ∙ ap (λ v. h.done ++ v) e ∙ append-nil h.done)) h.are

-- ---- one more zone
own_push : (e : Entry) (k : ℕ) (zones : List Zone) (zone : Zone) → own_rows e k (zones ++ zone ∷ []) ≡ own_rows e k zones ++ cond (is_changed e zone.key) (rows_from (k + length zones) 0 (chain_rows zone.shape)) []
own_push e k [] zone =
    let none : k ≡ k + 0 = omega arith in
    append-nil (cond (is_changed e zone.key) (rows_from k 0 (chain_rows zone.shape)) []) ∙ ap (λ m. cond (is_changed e zone.key) (rows_from m 0 (chain_rows zone.shape)) []) none
own_push e k (other ∷ zones) zone =
    let next : k + 1 + length zones ≡ k + suc (length zones) = omega arith in
    ap (λ v. cond (is_changed e other.key) (rows_from k 0 (chain_rows other.shape)) [] ++ v) (own_push e (k + 1) zones zone ∙ ap (λ m. own_rows e (k + 1) zones ++ cond (is_changed e zone.key) (rows_from m 0 (chain_rows zone.shape)) []) next)
    ∙ sym (append_assoc (cond (is_changed e other.key) (rows_from k 0 (chain_rows other.shape)) []) (own_rows e (k + 1) zones) (cond (is_changed e zone.key) (rows_from (k + suc (length zones)) 0 (chain_rows zone.shape)) []))

count_push : (zones : List Zone) (zone : Zone) → length (chain_rows_from 0 (zones ++ zone ∷ [])) ≡ length (chain_rows_from 0 zones) + chain_rows zone.shape
count_push zones zone =
    ap length (chain_rows_push 0 zones zone) ∙ length-append (chain_rows_from 0 zones) (rows_from (0 + length zones) 0 (chain_rows zone.shape))
    ∙ ap (λ n. length (chain_rows_from 0 zones) + n) (rows_length (0 + length zones) 0 (chain_rows zone.shape))

slots_push : (f : Zone → List Rattle.act_image.specs.declared.slots.Slot.Slot) (zones : List Zone) (zone : Zone) → flat_map f (zones ++ zone ∷ []) ≡ flat_map f zones ++ f zone
slots_push f zones zone = flat_map-append f zones (zone ∷ []) ∙ ap (λ v. flat_map f zones ++ v) (append-nil (f zone))

module _ (chain : ℕ → List ℕ) (e : Entry) (shape : List (List Point)) (zones : List Zone) (zone : Zone) (old new : KeptChains) (h : IsKeptChains chain e shape zones old) (key count : ℕ) (key_is : key ≡ zone.key) (count_is : count ≡ chain_rows zone.shape)
    (places : new.places.items ≡ old.places.items ++ record { key = key; first = old.count; count = count } ∷ []) (counted : new.count ≡ old.count + count) where
  places_more : new.places.items ≡ chains_from 0 (zones ++ zone ∷ [])
  places_more =
      let first : old.count ≡ 0 + length (chain_rows_from 0 zones) = omega (arith, h.count) in
      places ∙ (λ i. h.places i ++ record { key = key_is i; first = first i; count = count_is i } ∷ []) ∙ sym (chains_push 0 zones zone)

  count_more : new.count ≡ length (chain_rows_from 0 (zones ++ zone ∷ []))
  count_more = omega (arith, counted, count_is, h.count, count_push zones zone)

  -- the chain of an unchanged zone is kept
  pub kept_more : (rows : List ℕ) → rows ≡ chain zone.key → is_changed e zone.key ≡ false → new.slots.items ≡ old.slots.items ++ kept_slots rows → new.rows.items ≡ old.rows.items → IsKeptChains chain e shape (zones ++ zone ∷ []) new
  kept_more rows rows_are other slots same = record {
    places = places_more;
    slots = slots
        ∙ (λ i. h.slots i ++ kept_slots (rows_are i)) ∙ ap (λ b. flat_map (zone_slots chain e) zones ++ cond b (new_slots (chain_rows zone.shape)) (kept_slots (chain zone.key))) (sym other)
        ∙ sym (slots_push (zone_slots chain e) zones zone);
    count = count_more;
    rows = same ∙ h.rows
        ∙ sym (ap (map of_first_body) (own_push e 0 zones zone ∙ ap (λ b. own_rows e 0 zones ++ cond b (rows_from (0 + length zones) 0 (chain_rows zone.shape)) []) other ∙ append-nil (own_rows e 0 zones)));
    shapes = each_append (λ (z : Zone). is_changed e z.key ≡ true → z.shape ≡ shape) zones (zone ∷ []) h.shapes ((λ changed. (let bad = sym other ∙ changed in absurd (cc)), tt));
  }

  -- that of the changed zone is new
  pub put_more : (at : ℕ) → at ≡ length old.places.items → is_changed e zone.key ≡ true → zone.shape ≡ shape → new.slots.items ≡ old.slots.items ++ new_slots count → new.rows.items ≡ old.rows.items ++ map of_first_body (rows_from at 0 count)
      → IsKeptChains chain e shape (zones ++ zone ∷ []) new
  put_more at at_is changed own slots rows = record {
    places = places_more;
    slots = slots
        ∙ (λ i. h.slots i ++ new_slots (count_is i)) ∙ ap (λ b. flat_map (zone_slots chain e) zones ++ cond b (new_slots (chain_rows zone.shape)) (kept_slots (chain zone.key))) (sym changed)
        ∙ sym (slots_push (zone_slots chain e) zones zone);
    count = count_more;
    rows = (
        let there : at ≡ 0 + length zones = omega (arith, at_is, ap length h.places, chains_length 0 zones) in
        rows ∙ (λ i. h.rows i ++ map of_first_body (rows_from (there i) 0 (count_is i)))
        ∙ sym (ap (map of_first_body) (own_push e 0 zones zone ∙ ap (λ b. own_rows e 0 zones ++ cond b (rows_from (0 + length zones) 0 (chain_rows zone.shape)) []) changed)
        ∙ map-append of_first_body (own_rows e 0 zones) (rows_from (0 + length zones) 0 (chain_rows zone.shape))));
    shapes = each_append (λ (z : Zone). is_changed e z.key ≡ true → z.shape ≡ shape) zones (zone ∷ []) h.shapes ((λ same. own), tt);
  }

-- a row more of the chain of the changed zone
pub own_step : (before now after : List ChainRow) (chain row : ℕ) → now ≡ before ++ map of_first_body (rows_from chain 0 row) → after ≡ now ++ record { chain = chain; body = 0; row = row } ∷ []
    → after ≡ before ++ map of_first_body (rows_from chain 0 (row + 1))
own_step before now after chain row h e =
    let none : row ≡ 0 + row = omega arith in
    e ∙ ap (λ v. v ++ record { chain = chain; body = 0; row = row } ∷ []) h ∙ append_assoc before (map of_first_body (rows_from chain 0 row)) (record { chain = chain; body = 0; row = row } ∷ [])
    ∙ ap (λ m. before ++ (map of_first_body (rows_from chain 0 row) ++ record { chain = chain; body = 0; row = m } ∷ [])) none
    ∙ ap (λ v. before ++ v) (sym (map-append of_first_body (rows_from chain 0 row) (record { chain = chain; body = chain; row = 0 + row } ∷ [])) ∙ ap (map of_first_body) (rows_push chain 0 row))

-- ---- the chains of the image before
pub record OldPlace (zones : List Zone) (i : ℕ) (place : ChainPlace) : Type 0 where
  pub key : place.key ≡ zone_key_at zones i
  pub count : place.count ≡ chain_rows (zone_shape_at zones i)
  pub found : chain_of (chains_from 0 zones) place.key ≡ place
  pub within : place.first + place.count ≤ length (chain_rows_from 0 zones)

nth : (f : ℕ) (zones : List Zone) (i : ℕ) → i < length zones
    → get_or (chains_from f zones) i no_chain ≡ record { key = zone_key_at zones i; first = f + length (chain_rows_from 0 (take i zones)); count = chain_rows (zone_shape_at zones i) }
nth f [] i low = absurd (omega (arith, low))
nth f (zone ∷ zones) zero low = let none : f ≡ f + 0 = omega arith in ap (λ m. record { key = zone.key; first = m; count = chain_rows zone.shape }) none
nth f (zone ∷ zones) (suc i) low =
    let first : f + chain_rows zone.shape + length (chain_rows_from 0 (take i zones)) ≡ f + length (chain_rows_from 0 (zone ∷ take i zones)) =
    omega (arith, chain_count (take i zones) 0, chain_count (zone ∷ take i zones) 0, sum_by-cons (λ (z : Zone). chain_rows z.shape) zone (take i zones)) in
    nth (f + chain_rows zone.shape) zones i (omega (arith, low)) ∙ ap (λ m. record { key = zone_key_at zones i; first = m; count = chain_rows (zone_shape_at zones i) }) first

total : (zones : List Zone) (i : ℕ) → i < length zones → chains_of (take i zones) + chain_rows (zone_shape_at zones i) ≤ chains_of zones
total [] i low = absurd (omega (arith, low))
total (zone ∷ zones) zero low = omega (arith, sum_by-cons (λ (z : Zone). chain_rows z.shape) zone zones)
total (zone ∷ zones) (suc i) low =
    omega (arith, total zones i (omega (arith, low)), sum_by-cons (λ (z : Zone). chain_rows z.shape) zone zones, sum_by-cons (λ (z : Zone). chain_rows z.shape) zone (take i zones))

others : (key f : ℕ) (zones : List Zone) → Each (λ (other : Zone). key ≢ other.key) zones → Each (λ (place : ChainPlace). key ≢ place.key) (chains_from f zones)
others key f [] h = tt
others key f (zone ∷ zones) h = (h.0, others key (f + chain_rows zone.shape) zones h.1)

pub each_found : (f : ℕ) (zones : List Zone) → OwnKeys zones → Each (λ (place : ChainPlace). chain_of (chains_from f zones) place.key ≡ place) (chains_from f zones)
each_found f [] own = tt
each_found f (zone ∷ zones) own = (
  ap (λ b. cond b head (chain_of tail zone.key)) (Rattle.std.proofs.Common.eq-eqb zone.key zone.key refl),
  down tail (others zone.key (f + chain_rows zone.shape) zones own.0) (each_found (f + chain_rows zone.shape) zones own.1),
)
  where
    head : ChainPlace
    head = record { key = zone.key; first = f; count = chain_rows zone.shape }

    tail : List ChainPlace
    tail = chains_from (f + chain_rows zone.shape) zones

    down : (places : List ChainPlace) → Each (λ (place : ChainPlace). zone.key ≢ place.key) places → Each (λ (place : ChainPlace). chain_of (chains_from (f + chain_rows zone.shape) zones) place.key ≡ place) places
        → Each (λ (place : ChainPlace). chain_of (chains_from f (zone ∷ zones)) place.key ≡ place) places
    down [] ne h = tt
    down (place ∷ places) ne h = (
      ap (λ b. cond b (record { key = zone.key; first = f; count = chain_rows zone.shape }) (chain_of (chains_from (f + chain_rows zone.shape) zones) place.key)) (ne_eqb zone.key place.key ne.0) ∙ h.0,
      down places ne.1 h.1,
    )

pub old_place : (zones : List Zone) (i : ℕ) → HaveOwnKeys zones → i < length zones → OldPlace zones i (get_or (chains_from 0 zones) i no_chain)
old_place zones i own low =
    let is = nth 0 zones i low in
    let many = chains_length 0 zones in
    let found = each_get (λ (place : ChainPlace). chain_of (chains_from 0 zones) place.key ≡ place) (chains_from 0 zones) i no_chain (each_found 0 zones (own_keys zones own)) (omega (arith, low, many)) in
    record {
      key = ap (λ (p : ChainPlace). p.key) is;
      count = ap (λ (p : ChainPlace). p.count) is;
      found = found;
      within = omega (arith, ap (λ (p : ChainPlace). p.first) is, ap (λ (p : ChainPlace). p.count) is, total zones i low, chain_count (take i zones) 0, chain_count zones 0);
    }

-- a key that no zone has is that of none of them
pub has_none : (key : ℕ) (zones : List Zone) (i : ℕ) → has_key key zones ≡ false → i < length zones → (key == zone_key_at zones i) ≡ false
has_none key [] i h low = absurd (omega (arith, low))
has_none key (zone ∷ zones) i h low = by i low (eqb_tells zone.key key) (λ k rest small. has_none key zones k rest small)
  where
    by : (i : ℕ) → i < suc (length zones) → ((zone.key == key ≡ true) × (zone.key ≡ key)) ⊎ ((zone.key == key ≡ false) × (zone.key ≢ key)) → ((k : ℕ) → has_key key zones ≡ false → k < length zones → (key == zone_key_at zones k) ≡ false)
        → (key == zone_key_at (zone ∷ zones) i) ≡ false
    by i low (inl same) more = let there : has_key key (zone ∷ zones) ≡ true = ap (λ b. b || has_key key zones) same.0 in let bad = sym h ∙ there in absurd (cc)
    by zero low (inr other) more = ne_eqb key zone.key (λ e. other.1 (sym e))
    by (suc i) low (inr other) more = more i (sym (ap (λ b. b || has_key key zones) other.0) ∙ h) (omega (arith, low))

-- ---- the changed key
some_is : (a b : ℕ) → Some a ≡ Some b → a ≡ b
some_is a b h = cc

pub equal_key : (e : Entry) (key other : ℕ) → key_of e ≡ Some key → is_changed e other ≡ (key == other)
equal_key (entry.Add k shape) key other h = ap (λ v. v == other) (some_is k key h)
equal_key (entry.DropZone k) key other h = ap (λ v. v == other) (some_is k key h)
equal_key (entry.Replace k shape) key other h = ap (λ v. v == other) (some_is k key h)
equal_key (entry.Train cells) key other h = absurd (cc)

pub other_key : (e : Entry) (key other : ℕ) → key_of e ≡ Some key → other ≢ key → is_changed e other ≡ false
other_key e key other h ne = equal_key e key other h ∙ ne_eqb key other (λ same. ne (sym same))

pub own_key : (e : Entry) (key : ℕ) → key_of e ≡ Some key → is_changed e key ≡ true
own_key e key h = equal_key e key key h ∙ Rattle.std.proofs.Common.eq-eqb key key refl

pub none_changed : (e : Entry) (other : ℕ) → key_of e ≡ None → is_changed e other ≡ false
none_changed (entry.Add k shape) other h = absurd (cc)
none_changed (entry.DropZone k) other h = absurd (cc)
none_changed (entry.Replace k shape) other h = absurd (cc)
none_changed (entry.Train cells) other h = refl

-- ---- what the zones are after the change
pub trained_zones : (e : Entry) (zones : List Zone) → key_of e ≡ None → changed zones e ≡ zones
trained_zones (entry.Add k shape) zones h = absurd (cc)
trained_zones (entry.DropZone k) zones h = absurd (cc)
trained_zones (entry.Replace k shape) zones h = absurd (cc)
trained_zones (entry.Train cells) zones h = refl

pub dropped_zones : (e : Entry) (zones : List Zone) (key : ℕ) → key_of e ≡ Some key → shape_of e ≡ None → changed zones e ≡ without_key key zones
dropped_zones (entry.Add k shape) zones key h s = absurd (cc)
dropped_zones (entry.DropZone k) zones key h s = ap (λ v. without_key v zones) (some_is k key h)
dropped_zones (entry.Replace k shape) zones key h s = absurd (cc)
dropped_zones (entry.Train cells) zones key h s = absurd (cc)

-- a zone that stands gets the shape, and one that doesn't is put with it
module _ (settings : Settings) (state : State) (e : Entry) (key : ℕ) (shape : List (List Point)) where
  pub reshaped_zones : verdict_of settings state e ≡ None → key_of e ≡ Some key → shape_of e ≡ Some shape → has_key key state.zones ≡ true → changed state.zones e ≡ reshaped key shape state.zones
  reshaped_zones = by e
    where
      by : (e : Entry) → verdict_of settings state e ≡ None → key_of e ≡ Some key → shape_of e ≡ Some shape → has_key key state.zones ≡ true → changed state.zones e ≡ reshaped key shape state.zones
      by (entry.Add k s) ok h own there =
          let same : has_key k state.zones ≡ true = ap (λ v. has_key v state.zones) (some_is k key h) ∙ there in
          let bad = ap (λ b. first_cause (if b then Some verdict.Duplicate else None) (room_verdict settings (changed state.zones (entry.Add k s)))) (sym same) ∙ ok in
          absurd (cc)
      by (entry.DropZone k) ok h own there = absurd (cc)
      by (entry.Replace k s) ok h own there = let is : s ≡ shape = cc in λ i. reshaped (some_is k key h i) (is i) state.zones
      by (entry.Train cells) ok h own there = absurd (cc)

  pub with_zones : verdict_of settings state e ≡ None → key_of e ≡ Some key → shape_of e ≡ Some shape → has_key key state.zones ≡ false → changed state.zones e ≡ with_zone (record { key = key; shape = shape }) state.zones
  with_zones = by e
    where
      by : (e : Entry) → verdict_of settings state e ≡ None → key_of e ≡ Some key → shape_of e ≡ Some shape → has_key key state.zones ≡ false → changed state.zones e ≡ with_zone (record { key = key; shape = shape }) state.zones
      by (entry.Add k s) ok h own there = let is : s ≡ shape = cc in λ i. with_zone (record { key = some_is k key h i; shape = is i }) state.zones
      by (entry.DropZone k) ok h own there = absurd (cc)
      by (entry.Replace k s) ok h own there =
          let same : has_key k state.zones ≡ false = ap (λ v. has_key v state.zones) (some_is k key h) ∙ there in
          let bad =
          ap (λ b. first_cause (if b then (if has_zone k s state.zones then Some verdict.Same else None) else Some verdict.Unknown) (room_verdict settings (changed state.zones (entry.Replace k s)))) (sym same) ∙ ok in
          absurd (cc)
      by (entry.Train cells) ok h own there = absurd (cc)
