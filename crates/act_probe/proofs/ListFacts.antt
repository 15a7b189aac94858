-- Lists of references, two a word.
use Rattle.std.proofs.Common.{◌≡◌, ℕ, zero, suc, ◌+◌, ◌*◌, ◌/◌, ◌<◌, ◌≤◌, ◌++◌, Bool, true, false, cond, Option, Some, None, refl, sym, ap, ◌∙◌, arith, List, [], ◌∷◌, length, drop, take, append_assoc, subst}
use Rattle.std.proofs.lemmas.List.{drop-drop, drop_all}
use Rattle.std.proofs.lemmas.Option.{same_Some}
use Rattle.std.specs.Prelude.{slice_index}
use Rattle.std.specs.Option.{option_to_list}
use Rattle.act_grid.specs.declared.layers.Layers.{Layers}
use Rattle.act_grid.specs.declared.Point.{Point}
use Rattle.act_base.specs.Sight.{Sight}
use Rattle.act_entry.specs.declared.reference.Ref.{Ref}
use Rattle.act_entry.specs.Lists.{pair_of}
use Rattle.act_entry.proofs.ListFacts.{told}
use Rattle.act_super.specs.declared.entry.Zone.{Zone}
use Rattle.act_super.specs.Stands.{HasWords, pairs_of, words_of}
use Rattle.act_probe.specs.Chains.{PairAt, RefsOf, found_keys, found_reads, is_found}
use Rattle.act_probe.proofs.ChainFacts.{row_fits}

-- the zones in two parts
pub keys_parts : (layers : Layers) (p : Point) (hit : Zone → Bool) (xs ys : List Zone)
    → found_keys layers p hit (xs ++ ys) ≡ found_keys layers p hit xs ++ found_keys layers p hit ys
keys_parts layers p hit [] ys = refl
keys_parts layers p hit (x ∷ xs) ys = rw (keys_parts layers p hit xs ys) (parts (is_found layers p (hit x) x) x.key (found_keys layers p hit xs) (found_keys layers p hit ys))
  where
    parts : (f : Bool) (k : ℕ) (ks ls : List ℕ) → cond f (k ∷ (ks ++ ls)) (ks ++ ls) ≡ cond f (k ∷ ks) ks ++ ls
    parts true k ks ls = refl
    parts false k ks ls = refl

pub reads_parts : (layers : Layers) (hit : Zone → Bool) (xs ys : List Zone) → found_reads layers hit (xs ++ ys) ≡ found_reads layers hit xs + found_reads layers hit ys
reads_parts layers hit [] ys = omega arith
reads_parts layers hit (x ∷ xs) ys = omega (arith, reads_parts layers hit xs ys)

-- the first word of a list, with its references and their zones
pub record Next (x : Sight) (hit : Zone → Bool) (zones : List Zone) (refs : List Ref) (word : ℕ) : Type 0 where
  pub a : Ref
  pub b : Option Ref
  pub front : List Zone
  pub are : zones ≡ front ++ drop 2 zones
  pub pair : pair_of word ≡ Some (a, b)
  pub refs_are : RefsOf x hit front (a ∷ option_to_list b)
  pub more : RefsOf x hit (drop 2 zones) (drop 2 refs)

pub next_of : (x : Sight) (hit : Zone → Bool) (zones : List Zone) (refs : List Ref) (word : ℕ) → RefsOf x hit zones refs → PairAt refs word → Next x hit zones refs word
next_of x hit zones [] word h at = absurd at
next_of x hit [] (a ∷ refs) word h at = absurd h
next_of x hit (z ∷ []) (a ∷ []) word h at =
    record { a = a; b = None; front = z ∷ []; are = refl; pair = ap pair_of at ∙ told a None (row_fits h.0); refs_are = h; more = tt }
next_of x hit (z ∷ (y ∷ zones)) (a ∷ []) word h at = absurd h.2
next_of x hit (z ∷ []) (a ∷ (b ∷ refs)) word h at = absurd h.2
next_of x hit (z ∷ (y ∷ zones)) (a ∷ (b ∷ refs)) word h at = record {
  a = a;
  b = Some b;
  front = z ∷ y ∷ [];
  are = refl;
  pair = ap pair_of at ∙ told a (Some b) (row_fits h.0, row_fits h.2.0);
  refs_are = (h.0, h.1, (h.2.0, h.2.1, tt));
  more = h.2.2;
}

-- the references that the word tells, and their zones
pub record Front (x : Sight) (hit : Zone → Bool) (zones : List Zone) (a : Ref) (b : Option Ref) : Type 0 where
  pub front : List Zone
  pub are : zones ≡ front ++ drop 2 zones
  pub refs_are : RefsOf x hit front (a ∷ option_to_list b)

pub front_of : (x : Sight) (hit : Zone → Bool) (zones : List Zone) (refs : List Ref) (word : ℕ) (a : Ref) (b : Option Ref) → RefsOf x hit zones refs → PairAt refs word
    → pair_of word ≡ Some (a, b) → Front x hit zones a b
front_of x hit zones refs word a b h at tells =
    let next = next_of x hit zones refs word h at in
    let same = same_Some (next.a, next.b) (a, b) (sym next.pair ∙ tells) in
    record { front = next.front; are = next.are; refs_are = subst (λ (r : Ref × Option Ref). RefsOf x hit next.front (r.0 ∷ option_to_list r.1)) same next.refs_are }

-- the same of a word whose references are known
pub record Told (x : Sight) (hit : Zone → Bool) (zones : List Zone) (refs : List Ref) (a : Ref) (b : Option Ref) : Type 0 where
  pub are : take 2 refs ≡ a ∷ option_to_list b
  pub refs_are : RefsOf x hit (take 2 zones) (a ∷ option_to_list b)
  pub long : length (a ∷ option_to_list b) + length (drop 2 refs) ≡ length refs

pub told_of : (x : Sight) (hit : Zone → Bool) (zones : List Zone) (refs : List Ref) (word : ℕ) (a : Ref) (b : Option Ref) → RefsOf x hit zones refs → PairAt refs word
    → pair_of word ≡ Some (a, b) → Told x hit zones refs a b
told_of x hit zones [] word a b h at tells = absurd at
told_of x hit [] (r ∷ refs) word a b h at tells = absurd h
told_of x hit (z ∷ []) (r ∷ []) word a b h at tells =
    let same = same_Some (r, None) (a, b) (sym (ap pair_of at ∙ told r None (row_fits h.0)) ∙ tells) in
    subst (λ (q : Ref × Option Ref). Told x hit (z ∷ []) (r ∷ []) q.0 q.1) same (record { are = refl; refs_are = h; long = refl })
told_of x hit (z ∷ (y ∷ zones)) (r ∷ []) word a b h at tells = absurd h.2
told_of x hit (z ∷ []) (r ∷ (q ∷ refs)) word a b h at tells = absurd h.2
told_of x hit (z ∷ (y ∷ zones)) (r ∷ (q ∷ refs)) word a b h at tells =
    let same = same_Some (r, Some q) (a, b) (sym (ap pair_of at ∙ told r (Some q) (row_fits h.0, row_fits h.2.0)) ∙ tells) in
    subst (λ (p : Ref × Option Ref). Told x hit (z ∷ (y ∷ zones)) (r ∷ (q ∷ refs)) p.0 p.1) same (record { are = refl; refs_are = (h.0, h.1, (h.2.0, h.2.1, tt)); long = omega arith })

pub never_none : (x : Sight) (hit : Zone → Bool) (zones : List Zone) (refs : List Ref) (word : ℕ) → RefsOf x hit zones refs → PairAt refs word → pair_of word ≡ None → ⊥
never_none x hit zones refs word h at none = let next = next_of x hit zones refs word h at in let no = sym next.pair ∙ none in cc

module _ (x : Sight) (layers : Layers) (p : Point) (hit : Zone → Bool) (zones : List Zone) (refs : List Ref) (word : ℕ) (a : Ref) (b : Option Ref) (h : RefsOf x hit zones refs)
    (at : PairAt refs word) (tells : pair_of word ≡ Some (a, b)) where
  pub word_keys : (keys new : List ℕ) → ((hit : Zone → Bool) (zones : List Zone) → RefsOf x hit zones (a ∷ option_to_list b) → new ≡ keys ++ found_keys layers p hit zones)
      → new ++ found_keys layers p hit (drop 2 zones) ≡ keys ++ found_keys layers p hit zones
  word_keys keys new step =
      let f = front_of x hit zones refs word a b h at tells in
      ap (λ ks. ks ++ found_keys layers p hit (drop 2 zones)) (step hit f.front f.refs_are)
      ∙ append_assoc keys (found_keys layers p hit f.front) (found_keys layers p hit (drop 2 zones))
      ∙ ap (λ ks. keys ++ ks) (sym (keys_parts layers p hit f.front (drop 2 zones)) ∙ ap (found_keys layers p hit) (sym f.are))

  pub word_reads : (n : ℕ) → ((hit : Zone → Bool) (zones : List Zone) → RefsOf x hit zones (a ∷ option_to_list b) → n ≤ found_reads layers hit zones)
      → n + found_reads layers hit (drop 2 zones) ≤ found_reads layers hit zones
  word_reads n step =
      let f = front_of x hit zones refs word a b h at tells in
      omega (arith, step hit f.front f.refs_are, reads_parts layers hit f.front (drop 2 zones), ap (found_reads layers hit) f.are)

-- ---- the words of a list
pub length-pairs : (refs : List Ref) → 2 * length (pairs_of refs) ≤ length refs + 1
length-pairs [] = omega arith
length-pairs (a ∷ []) = omega arith
length-pairs (a ∷ (b ∷ refs)) = omega (arith, length-pairs refs)

pub pairs_enough : (refs : List Ref) → length refs ≤ 2 * length (pairs_of refs)
pairs_enough [] = omega arith
pairs_enough (a ∷ []) = omega arith
pairs_enough (a ∷ (b ∷ refs)) = omega (arith, pairs_enough refs)

pub pair_there : (j : ℕ) (refs : List Ref) → j < length (pairs_of refs) → PairAt (drop (2 * j) refs) (slice_index (pairs_of refs) j)
pair_there j [] within = absurd (omega (arith, within))
pair_there zero (a ∷ []) within = refl
pair_there (suc j) (a ∷ []) within = absurd (omega (arith, within))
pair_there zero (a ∷ (b ∷ refs)) within = refl
pair_there (suc j) (a ∷ (b ∷ refs)) within =
    let two : 2 * suc j ≡ suc (suc (2 * j)) = omega arith in
    rw two (pair_there j refs (omega (arith, within)))

pub same_length : (x : Sight) (hit : Zone → Bool) (zones : List Zone) (refs : List Ref) → RefsOf x hit zones refs → length zones ≡ length refs
same_length x hit [] [] h = refl
same_length x hit [] (r ∷ refs) h = absurd h
same_length x hit (z ∷ zones) [] h = absurd h
same_length x hit (z ∷ zones) (r ∷ refs) h = ap suc (same_length x hit zones refs h.2)

module _ (x : Sight) (row place : ℕ) (refs : List Ref) (w : HasWords x row place (words_of refs)) where
  pub count_is : (count : ℕ) → count ≡ x.word row place → count ≡ length refs
  count_is count is =
      let here : place + 0 ≡ place = omega arith in
      is ∙ ap (x.word row) (sym here) ∙ w.each 0 (omega arith)

  -- the j-th word of two references
  module _ (count j : ℕ) (is : count ≡ x.word row place) (left : j < (count + 1) / 2) where
    pair_within : j < length (pairs_of refs)
    pair_within = omega (arith, left, count_is count is, pairs_enough refs)

    pub place_within : place + 1 + j < 256
    place_within = omega (arith, w.within, pair_within)

    pub word_at : (word : ℕ) → word ≡ x.word row (place + 1 + j) → PairAt (drop (2 * j) refs) word
    word_at word told =
        let there : place + 1 + j ≡ place + (j + 1) = omega arith in
        let one : j + 1 ≡ suc j = omega arith in
        let each : x.word row (place + (j + 1)) ≡ slice_index (words_of refs) (j + 1) = w.each (j + 1) (omega (arith, pair_within)) in
        let same : word ≡ slice_index (pairs_of refs) j = told ∙ ap (x.word row) there ∙ each ∙ ap (slice_index (words_of refs)) one in
        rw same (pair_there j refs pair_within)

-- nothing is left
pub none_left : {A : Type 0} (count j : ℕ) (zones : List A) → length zones ≡ count → (count + 1) / 2 ≤ j → drop (2 * j) zones ≡ []
none_left count j zones long done = drop_all (2 * j) zones (omega (arith, long, done))

-- two references more were taken
pub dropped : {A : Type 0} (xs : List A) (j : ℕ) → drop (2 * (j + 1)) xs ≡ drop 2 (drop (2 * j) xs)
dropped xs j =
    let two : 2 * (j + 1) ≡ 2 * j + 2 = omega arith in
    ap (λ n. drop n xs) two ∙ sym (drop-drop 2 (2 * j) xs)
