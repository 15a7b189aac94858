-- Chains and lists as they are put one behind the other.
use Rattle.std.proofs.Common.{◌≡◌, ◌≢◌, ℕ, zero, suc, ◌+◌, ◌-◌, ◌*◌, ◌/◌, ◌<◌, ◌≤◌, ◌⊎◌, inl, inr, Bool, true, false, cond, ◌||◌, refl, sym, ap, ◌∙◌, subst, arith, List, [], ◌∷◌, ◌++◌, ◌==◌, length, get_or, map, take, drop, set, Option, Some, None}
use Rattle.std.proofs.lemmas.List.{append_assoc, append-nil, length-append, drop_more, drop_all, map-append}
use Rattle.act_geom.specs.Body.{body_of}
use Rattle.act_geom.proofs.BodyFacts.{length-body}
use Rattle.act_entry.specs.declared.reference.Ref.{Ref}
use Rattle.act_super.specs.declared.entry.Zone.{Zone}
use Rattle.std.specs.List.{AllByRecursion as Each, filter}
use Rattle.act_grid.specs.Cell.{Address}
use Rattle.act_cover.specs.Covering.{class_at, is_on, is_within}
use Rattle.act_super.specs.Sizes.{chain_rows, refs_of}
use Rattle.act_super.specs.States.{has_key}
use Rattle.act_grid.specs.declared.Point.{Point}
use Rattle.act_image.specs.declared.chains.ChainPlace.{ChainPlace}
use Rattle.act_image.specs.declared.chains.ChainRow.{ChainRow}
use Rattle.act_image.specs.declared.chains.Chains.{Chains}
use Rattle.act_image.specs.declared.lists.ListWord.{ListWord}
use Rattle.act_image.specs.declared.lists.ListWord.TheVariants as list
use Rattle.act_image.specs.Plans.{IsChains, behind_last, chain_first, chain_rows_from, chains_from, found_refs, pairs_in, place_first, refs_on, rows_from, slot_refs}
use Rattle.act_image.proofs.PlaceFacts.{rows_length}

pub first_is : (first : ℕ) (zones : List Zone) (key : ℕ) → has_key key zones ≡ true → place_first (chains_from first zones) key ≡ first + chain_first zones key
first_is first [] key h = absurd (cc)
first_is first (zone ∷ zones) key h = by (zone.key == key) h (λ more. first_is (first + chain_rows zone.shape) zones key more)
  where
    by : (b : Bool) → (b || has_key key zones) ≡ true
        → (has_key key zones ≡ true → place_first (chains_from (first + chain_rows zone.shape) zones) key ≡ first + chain_rows zone.shape + chain_first zones key)
        → cond b first (place_first (chains_from (first + chain_rows zone.shape) zones) key) ≡ first + cond b 0 (chain_rows zone.shape + chain_first zones key)
    by true h more = omega arith
    by false h more = more h ∙ omega arith

pub rows_push : (chain row n : ℕ) → rows_from chain row n ++ record { chain = chain; body = chain; row = row + n } ∷ [] ≡ rows_from chain row (n + 1)
rows_push chain row zero = let e : row + 0 ≡ row = omega arith in ap (λ m. record { chain = chain; body = chain; row = m } ∷ []) e
rows_push chain row (suc n) =
    let e : row + suc n ≡ row + 1 + n = omega arith in
    let f : suc n + 1 ≡ suc (n + 1) = omega arith in
    ap (λ m. record { chain = chain; body = chain; row = row } ∷ (rows_from chain (row + 1) n ++ record { chain = chain; body = chain; row = m } ∷ [])) e
    ∙ ap (λ v. record { chain = chain; body = chain; row = row } ∷ v) (rows_push chain (row + 1) n) ∙ ap (rows_from chain row) (sym f)

-- ---- one more zone
pub chains_push : (first : ℕ) (zones : List Zone) (zone : Zone)
    → chains_from first (zones ++ zone ∷ []) ≡ chains_from first zones ++ record { key = zone.key; first = first + length (chain_rows_from 0 zones); count = chain_rows zone.shape } ∷ []
chains_push first [] zone = let e : first ≡ first + 0 = omega arith in ap (λ m. record { key = zone.key; first = m; count = chain_rows zone.shape } ∷ []) e
chains_push first (other ∷ zones) zone =
    let e : first + chain_rows other.shape + length (chain_rows_from 0 zones) ≡ first + length (chain_rows_from 0 (other ∷ zones)) = omega (arith, length-append (rows_from 0 0 (chain_rows other.shape)) (chain_rows_from 1 zones), rows_length 0 0 (chain_rows other.shape), same_length 0 1 zones) in
    ap (λ v. record { key = other.key; first = first; count = chain_rows other.shape } ∷ v) (chains_push (first + chain_rows other.shape) zones zone
    ∙ ap (λ m. chains_from (first + chain_rows other.shape) zones ++ record { key = zone.key; first = m; count = chain_rows zone.shape } ∷ []) e)
  where
    same_length : (a b : ℕ) (zones : List Zone) → length (chain_rows_from a zones) ≡ length (chain_rows_from b zones)
    same_length a b [] = refl
    same_length a b (z ∷ zones) =
        omega (
          arith,
          length-append (rows_from a 0 (chain_rows z.shape)) (chain_rows_from (a + 1) zones),
          length-append (rows_from b 0 (chain_rows z.shape)) (chain_rows_from (b + 1) zones),
          rows_length a 0 (chain_rows z.shape),
          rows_length b 0 (chain_rows z.shape),
          same_length (a + 1) (b + 1) zones,
        )

pub chains_length : (first : ℕ) (zones : List Zone) → length (chains_from first zones) ≡ length zones
chains_length first [] = refl
chains_length first (zone ∷ zones) = ap suc (chains_length (first + chain_rows zone.shape) zones)

pub chain_rows_push : (chain : ℕ) (zones : List Zone) (zone : Zone) → chain_rows_from chain (zones ++ zone ∷ []) ≡ chain_rows_from chain zones ++ rows_from (chain + length zones) 0 (chain_rows zone.shape)
chain_rows_push chain [] zone = let e : chain ≡ chain + 0 = omega arith in append-nil (rows_from chain 0 (chain_rows zone.shape)) ∙ ap (λ m. rows_from m 0 (chain_rows zone.shape)) e
chain_rows_push chain (other ∷ zones) zone =
    let e : chain + 1 + length zones ≡ chain + suc (length zones) = omega arith in
    ap (λ v. rows_from chain 0 (chain_rows other.shape) ++ v) (chain_rows_push (chain + 1) zones zone ∙ ap (λ m. chain_rows_from (chain + 1) zones ++ rows_from m 0 (chain_rows zone.shape)) e)
    ∙ sym (append_assoc (rows_from chain 0 (chain_rows other.shape)) (chain_rows_from (chain + 1) zones) (rows_from (chain + suc (length zones)) 0 (chain_rows zone.shape)))

pub chains_more : (zones : List Zone) (old new : Chains) (chain first count key : ℕ) (shape : List (List Point)) (words : List ℕ) → IsChains zones old → chain ≡ length old.places.items → first ≡ length old.rows.items
    → words ≡ body_of shape → count ≡ (length words + 254) / 255
    → new.places.items ≡ old.places.items ++ record { key = key; first = first; count = count } ∷ [] → new.bodies.items ≡ old.bodies.items ++ words ∷ [] → new.rows.items ≡ old.rows.items ++ rows_from chain 0 count
    → IsChains (zones ++ record { key = key; shape = shape } ∷ []) new
chains_more zones old new chain first count key shape words h chain_is first_at words_are count_is places bodies rows =
    let zone : Zone = record { key = key; shape = shape } in
    let long : count ≡ chain_rows shape = count_is ∙ (let n : length words + 254 ≡ 1 + length shape + Rattle.act_geom.specs.Rings.vertices_of shape + 254 = omega (arith, ap length words_are, length-body shape) in ap (λ m. m / 255) n) in
    let at : first ≡ 0 + length (chain_rows_from 0 zones) = omega (arith, first_at, ap length h.rows) in
    let index : chain ≡ 0 + length zones = omega (arith, chain_is, ap length h.places, chains_length 0 zones) in
    let place : ◌≡◌ {A = ChainPlace} (record { key = key; first = first; count = count }) (record { key = key; first = 0 + length (chain_rows_from 0 zones); count = chain_rows shape }) = λ i. record { key = key; first = at i; count = long i } in
    record {
      places = places ∙ (λ i. h.places i ++ place i ∷ []) ∙ sym (chains_push 0 zones zone);
      bodies = bodies ∙ (λ i. h.bodies i ++ words_are i ∷ []) ∙ sym (map-append (λ (z : Zone). body_of z.shape) zones (zone ∷ []));
      rows = rows ∙ (λ i. h.rows i ++ rows_from (index i) 0 (long i)) ∙ sym (chain_rows_push 0 zones zone);
    }

-- ---- lists
pub pairs_one : (refs : List Ref) (i : ℕ) (d : Ref) → i < length refs → length refs ≤ i + 1 → pairs_in (drop i refs) ≡ list.Pair (get_or refs i d) None ∷ pairs_in (drop (i + 2) refs)
pairs_one refs i d low high =
    let e : i + 2 ≡ i + 1 + 1 = omega arith in
    ap pairs_in (drop_more refs i d low ∙ ap (λ v. get_or refs i d ∷ v) (drop_all (i + 1) refs high))
    ∙ ap (λ v. list.Pair (get_or refs i d) None ∷ pairs_in v) (sym (drop_all (i + 2) refs (omega (arith, high))))

pub pairs_two : (refs : List Ref) (i : ℕ) (d e : Ref) → i + 1 < length refs → pairs_in (drop i refs) ≡ list.Pair (get_or refs i d) (Some (get_or refs (i + 1) e)) ∷ pairs_in (drop (i + 2) refs)
pairs_two refs i d e low =
    let n : i + 1 + 1 ≡ i + 2 = omega arith in
    ap pairs_in (drop_more refs i d (omega (arith, low)) ∙ ap (λ v. get_or refs i d ∷ v) (drop_more refs (i + 1) e low))
    ∙ ap (λ m. list.Pair (get_or refs i d) (Some (get_or refs (i + 1) e)) ∷ pairs_in (drop m refs)) n

pub behind_set : (rows : List (List ListWord)) (words : List ListWord) (i : ℕ) (d : List ListWord) → i + 1 ≡ length rows → set rows i (get_or rows i d ++ words) ≡ behind_last rows words
behind_set [] words i d e = absurd (omega (arith, e))
behind_set (row ∷ []) words zero d e = refl
behind_set (row ∷ []) words (suc i) d e = absurd (omega (arith, e))
behind_set (row ∷ (next ∷ rows)) words zero d e = absurd (omega (arith, e))
behind_set (row ∷ (next ∷ rows)) words (suc i) d e = ap (λ v. row ∷ v) (behind_set (next ∷ rows) words i d (omega (arith, e)))

-- ---- steps of loops
pub first_here : (places : List ChainPlace) (i key : ℕ) (d : ChainPlace) → i < length places → place_first places key ≡ place_first (drop i places) key → (get_or places i d).key ≡ key
    → (get_or places i d).first ≡ place_first places key
first_here places i key d low h e =
    let yes : ((get_or places i d).key == key) ≡ true = Rattle.std.proofs.Common.eq-eqb (get_or places i d).key key e in
    sym (h ∙ ap (λ v. place_first v key) (drop_more places i d low) ∙ ap (λ b. cond b (get_or places i d).first (place_first (drop (i + 1) places) key)) yes)

has_self : (zones : List Zone) (zone : Zone) → has_key zone.key (zone ∷ zones) ≡ true
has_self zones zone = let yes : (zone.key == zone.key) ≡ true = Rattle.std.proofs.Common.eq-eqb zone.key zone.key refl in ap (λ b. b || has_key zone.key zones) yes

has_more : (zones : List Zone) (zone : Zone) (key : ℕ) → has_key key zones ≡ true → has_key key (zone ∷ zones) ≡ true
has_more zones zone key h = by (zone.key == key)
  where
    by : (b : Bool) → (b || has_key key zones) ≡ true
    by true = refl
    by false = h

each_has : (zones : List Zone) → Each (λ (zone : Zone). has_key zone.key zones ≡ true) zones
each_has [] = tt
each_has (zone ∷ zones) = (has_self zones zone, Rattle.act_image.proofs.Leaves.each_mono (λ (other : Zone). has_key other.key zones ≡ true) (λ (other : Zone). has_key other.key (zone ∷ zones) ≡ true) zones (λ other h. has_more zones zone other.key h) (each_has zones))

-- the references of a leaf, by where their chains begin
pub refs_found : (zones : List Zone) (places : List ChainPlace) (leaf : Address) → places ≡ chains_from 0 zones → found_refs places (refs_of zones leaf) ≡ refs_on zones leaf
refs_found zones places leaf h = ap (λ v. found_refs v (refs_of zones leaf)) h ∙ among zones (each_has zones)
  where
    among : (some : List Zone) → Each (λ (zone : Zone). has_key zone.key zones ≡ true) some → found_refs (chains_from 0 zones) (refs_of some leaf) ≡ slot_refs zones (refs_of some leaf)
    among [] h = refl
    among (zone ∷ some) h = by (is_on (class_at zone.shape leaf)) (first_is 0 zones zone.key h.0 ∙ omega arith) (among some h.1)
      where
        by : (b : Bool) → place_first (chains_from 0 zones) zone.key ≡ chain_first zones zone.key → found_refs (chains_from 0 zones) (refs_of some leaf) ≡ slot_refs zones (refs_of some leaf)
            → found_refs (chains_from 0 zones) (map (λ (z : Zone). record { key = z.key; hit = is_within (class_at z.shape leaf) }) (cond b (zone ∷ filter (λ (z : Zone). is_on (class_at z.shape leaf)) some) (filter (λ (z : Zone). is_on (class_at z.shape leaf)) some)))
            ≡ slot_refs zones (map (λ (z : Zone). record { key = z.key; hit = is_within (class_at z.shape leaf) }) (cond b (zone ∷ filter (λ (z : Zone). is_on (class_at z.shape leaf)) some) (filter (λ (z : Zone). is_on (class_at z.shape leaf)) some)))
        by true e rest = λ i. record { row = e i; hit = is_within (class_at zone.shape leaf) } ∷ rest i
        by false e rest = rest

pub first_none : (places : List ChainPlace) (i key : ℕ) → length places ≤ i → place_first places key ≡ place_first (drop i places) key → 0 ≡ place_first places key
first_none places i key high h = sym (h ∙ ap (λ v. place_first v key) (drop_all i places high))

pub rows_step : (before now after : List ChainRow) (chain row : ℕ) → now ≡ before ++ rows_from chain 0 row → after ≡ now ++ record { chain = chain; body = chain; row = row } ∷ [] → after ≡ before ++ rows_from chain 0 (row + 1)
rows_step before now after chain row h e =
    let none : row ≡ 0 + row = omega arith in
    e ∙ ap (λ v. v ++ record { chain = chain; body = chain; row = row } ∷ []) h ∙ append_assoc before (rows_from chain 0 row) (record { chain = chain; body = chain; row = row } ∷ [])
    ∙ ap (λ m. before ++ (rows_from chain 0 row ++ record { chain = chain; body = chain; row = m } ∷ [])) none ∙ ap (λ v. before ++ v) (rows_push chain 0 row)
