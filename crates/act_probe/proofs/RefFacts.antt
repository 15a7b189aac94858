-- References, one after another.
use Rattle.std.proofs.Common.{◌≡◌, ℕ, ◌+◌, ◌≤◌, ◌++◌, Bool, true, false, cond, refl, sym, ap, ◌∙◌, arith, List, [], ◌∷◌, append_assoc, append-nil}
use Rattle.act_grid.specs.declared.layers.Layers.{Layers}
use Rattle.act_grid.specs.declared.Point.{Point}
use Rattle.act_grid.specs.Layers.{has_layer, layer_of}
use Rattle.act_geom.specs.Inside.{is_inside}
use Rattle.act_base.specs.Sight.{Sight}
use Rattle.act_entry.specs.declared.reference.Ref.{Ref}
use Rattle.act_super.specs.declared.entry.Zone.{Zone}
use Rattle.act_probe.specs.Chains.{ChainAt, RefsOf, found_keys, found_reads, is_found, ref_reads, with_found}
use Rattle.act_probe.specs.Reads.{body_reads}

module _ (layers : Layers) (p : Point) (hit : Bool) (zone : Zone) (keys : List ℕ) where
  pub left_out : has_layer layers (layer_of zone.key) ≡ false → keys ≡ with_found layers p hit zone keys
  left_out has = rw has refl

  pub hit_found : has_layer layers (layer_of zone.key) ≡ true → hit ≡ true → keys ++ zone.key ∷ [] ≡ with_found layers p hit zone keys
  hit_found has is = rw (has, is) refl

  pub tested_found : has_layer layers (layer_of zone.key) ≡ true → hit ≡ false → is_inside zone.shape p ≡ true → keys ++ zone.key ∷ [] ≡ with_found layers p hit zone keys
  tested_found has is inside = rw (has, is, inside) refl

  pub tested_out : has_layer layers (layer_of zone.key) ≡ true → hit ≡ false → is_inside zone.shape p ≡ false → keys ≡ with_found layers p hit zone keys
  tested_out has is inside = rw (has, is, inside) refl

pub tested_reads : (layers : Layers) (hit : Bool) (zone : Zone) (n : ℕ) → has_layer layers (layer_of zone.key) ≡ true → hit ≡ false → n ≤ body_reads zone → 1 + n ≤ ref_reads layers hit zone
tested_reads layers hit zone n has is few = rw (has, is) (omega (arith, few))

-- ---- one or two references, with their zones
pub record One (x : Sight) (hit : Zone → Bool) (zones : List Zone) (a : Ref) : Type 0 where
  pub first : Zone
  pub are : zones ≡ first ∷ []
  pub chain : ChainAt x first a.row
  pub same : a.hit ≡ hit first

pub record Two (x : Sight) (hit : Zone → Bool) (zones : List Zone) (a b : Ref) : Type 0 where
  pub first : Zone
  pub second : Zone
  pub are : zones ≡ first ∷ second ∷ []
  pub chain : ChainAt x first a.row
  pub same : a.hit ≡ hit first
  pub next : ChainAt x second b.row
  pub same_next : b.hit ≡ hit second

pub one_of : (x : Sight) (hit : Zone → Bool) (zones : List Zone) (a : Ref) → RefsOf x hit zones (a ∷ []) → One x hit zones a
one_of x hit [] a h = absurd h
one_of x hit (z ∷ []) a h = record { first = z; are = refl; chain = h.0; same = h.1 }
one_of x hit (z ∷ (other ∷ zones)) a h = absurd h.2

pub two_of : (x : Sight) (hit : Zone → Bool) (zones : List Zone) (a b : Ref) → RefsOf x hit zones (a ∷ b ∷ []) → Two x hit zones a b
two_of x hit [] a b h = absurd h
two_of x hit (z ∷ []) a b h = absurd h.2
two_of x hit (z ∷ (other ∷ [])) a b h = record { first = z; second = other; are = refl; chain = h.0; same = h.1; next = h.2.0; same_next = h.2.1 }
two_of x hit (z ∷ (other ∷ (more ∷ zones))) a b h = absurd h.2.2

pub head_of : (x : Sight) (hit : Zone → Bool) (zones : List Zone) (a : Ref) (refs : List Ref) → RefsOf x hit zones (a ∷ refs) → (zone : Zone) × ChainAt x zone a.row
head_of x hit [] a refs h = absurd h
head_of x hit (z ∷ zones) a refs h = (z, h.0)

-- the keys grow by those that are found
added : (f : Bool) (k : ℕ) (keys rest : List ℕ) → cond f (keys ++ k ∷ []) keys ++ rest ≡ keys ++ cond f (k ∷ rest) rest
added true k keys rest = append_assoc keys (k ∷ []) rest
added false k keys rest = refl

pub keys_more : (layers : Layers) (p : Point) (hit : Zone → Bool) (zone : Zone) (zones : List Zone) (keys : List ℕ)
    → with_found layers p (hit zone) zone keys ++ found_keys layers p hit zones ≡ keys ++ found_keys layers p hit (zone ∷ zones)
keys_more layers p hit zone zones keys = added (is_found layers p (hit zone) zone) zone.key keys (found_keys layers p hit zones)

module _ (x : Sight) (layers : Layers) (p : Point) (hit : Zone → Bool) (zones : List Zone) (a b : Ref) (keys mid new : List ℕ) (m n : ℕ) where
  pub one_keys : RefsOf x hit zones (a ∷ []) → ((zone : Zone) → ChainAt x zone a.row → new ≡ with_found layers p a.hit zone keys)
      → new ≡ keys ++ found_keys layers p hit zones
  one_keys refs step =
      let o = one_of x hit zones a refs in
      let grown : new ≡ with_found layers p (hit o.first) o.first keys = rw o.same at step o.first o.chain in
      rw o.are (grown ∙ sym (append-nil _) ∙ keys_more layers p hit o.first [] keys)

  pub one_reads : RefsOf x hit zones (a ∷ []) → ((zone : Zone) → ChainAt x zone a.row → m ≤ ref_reads layers a.hit zone) → m ≤ found_reads layers hit zones
  one_reads refs step =
      let o = one_of x hit zones a refs in
      let few : m ≤ ref_reads layers (hit o.first) o.first = rw o.same at step o.first o.chain in
      rw o.are (omega (arith, few))

  pub two_keys : RefsOf x hit zones (a ∷ b ∷ []) → ((zone : Zone) → ChainAt x zone a.row → mid ≡ with_found layers p a.hit zone keys)
      → ((zone : Zone) → ChainAt x zone b.row → new ≡ with_found layers p b.hit zone mid) → new ≡ keys ++ found_keys layers p hit zones
  two_keys refs step step_next =
      let o = two_of x hit zones a b refs in
      let grown : mid ≡ with_found layers p (hit o.first) o.first keys = rw o.same at step o.first o.chain in
      let more : new ≡ with_found layers p (hit o.second) o.second mid = rw o.same_next at step_next o.second o.next in
      rw o.are (more ∙ sym (append-nil _) ∙ keys_more layers p hit o.second [] mid ∙ ap (λ ks. ks ++ found_keys layers p hit (o.second ∷ [])) grown
      ∙ keys_more layers p hit o.first (o.second ∷ []) keys)

  pub two_reads : RefsOf x hit zones (a ∷ b ∷ []) → ((zone : Zone) → ChainAt x zone a.row → m ≤ ref_reads layers a.hit zone)
      → ((zone : Zone) → ChainAt x zone b.row → n ≤ ref_reads layers b.hit zone) → m + n ≤ found_reads layers hit zones
  two_reads refs step step_next =
      let o = two_of x hit zones a b refs in
      let few : m ≤ ref_reads layers (hit o.first) o.first = rw o.same at step o.first o.chain in
      let few_next : n ≤ ref_reads layers (hit o.second) o.second = rw o.same_next at step_next o.second o.next in
      rw o.are (omega (arith, few, few_next))
