-- The chains of the zones after a change, one behind the other.
use Rattle.std.proofs.Common.{◌≡◌, ◌≢◌, ℕ, zero, suc, ◌+◌, ◌<◌, ◌≤◌, Bool, true, false, cond, ◌||◌, refl, sym, ap, ◌∙◌, subst, arith, List, [], ◌∷◌, ◌++◌, ◌==◌, length, get_or, map, take, drop, nat_lt}
use Rattle.std.proofs.lemmas.List.{append-nil, append_assoc, drop_all, drop_more, get_or-map}
use Rattle.std.proofs.lemmas.Bool.{ne_eqb}
use Rattle.std.proofs.lemmas.Bool.Decides.{nat_tests}
use Rattle.act_grid.specs.declared.Point.{Point}
use Rattle.act_super.specs.declared.entry.Zone.{Zone}
use Rattle.act_super.specs.States.{has_key, reshaped, with_zone, without_key, zone_key_at, zone_shape_at}
use Rattle.act_image.specs.declared.chains.Chains.{Chains}
use Rattle.act_image.specs.Plans.{IsChains}

-- the chains of some zones, behind which those of the others are still to be put
pub record ChainsUpTo (all rest : List Zone) (chains : Chains) : Type 0 where
  pub done : List Zone
  pub are : IsChains done chains
  pub left : all ≡ done ++ rest

no_zone : Zone
no_zone = record { key = 0; shape = [] }

-- a zone by its key and its shape
pub zone_at : (zones : List Zone) (i : ℕ) → i < length zones → drop i zones ≡ record { key = zone_key_at zones i; shape = zone_shape_at zones i } ∷ drop (i + 1) zones
unfolding no_zone
zone_at zones i low =
    let key : zone_key_at zones i ≡ (get_or zones i no_zone).key = get_or-map (λ (zone : Zone). zone.key) zones i no_zone 0 low in
    let shape : zone_shape_at zones i ≡ (get_or zones i no_zone).shape = get_or-map (λ (zone : Zone). zone.shape) zones i no_zone [] low in
    drop_more zones i no_zone low ∙ (λ t. record { key = sym key t; shape = sym shape t } ∷ drop (i + 1) zones)

-- a zone was put
pub put_one : (all rest : List Zone) (old new : Chains) (zone : Zone) → ChainsUpTo all (zone ∷ rest) old → ((zones : List Zone) → IsChains zones old → IsChains (zones ++ zone ∷ []) new) → ChainsUpTo all rest new
put_one all rest old new zone h put = record { done = h.done ++ zone ∷ []; are = put h.done h.are; left = h.left ∙ sym (append_assoc h.done (zone ∷ []) rest) }

pub same_rest : (all rest other : List Zone) (chains : Chains) → rest ≡ other → ChainsUpTo all rest chains → ChainsUpTo all other chains
same_rest all rest other chains e h = record { done = h.done; are = h.are; left = h.left ∙ ap (λ v. h.done ++ v) e }

pub begin_all : (all rest : List Zone) (chains : Chains) → IsChains [] chains → all ≡ rest → ChainsUpTo all rest chains
begin_all all rest chains h e = record { done = []; are = h; left = e }

pub end_all : (all rest : List Zone) (chains : Chains) → ChainsUpTo all rest chains → rest ≡ [] → IsChains all chains
end_all all rest chains h e = subst (λ v. IsChains v chains) (sym (h.left ∙ ap (λ v. h.done ++ v) e ∙ append-nil h.done)) h.are

-- ---- each kind of change, at the next zone
module _ (zones : List Zone) (i : ℕ) (low : i < length zones) where
  abbrev pub zone : Zone
  zone = record { key = zone_key_at zones i; shape = zone_shape_at zones i }

  pub next_all : drop i zones ≡ record { key = zone_key_at zones i; shape = zone_shape_at zones i } ∷ drop (i + 1) zones
  next_all = zone_at zones i low

  pub next_kept : (key : ℕ) → zone_key_at zones i ≢ key → without_key key (drop i zones) ≡ record { key = zone_key_at zones i; shape = zone_shape_at zones i } ∷ without_key key (drop (i + 1) zones)
  next_kept key ne = ap (without_key key) (zone_at zones i low) ∙ (let no : (zone_key_at zones i == key) ≡ false = ne_eqb (zone_key_at zones i) key ne in rw no refl)

  pub next_dropped : (key : ℕ) → zone_key_at zones i ≡ key → without_key key (drop i zones) ≡ without_key key (drop (i + 1) zones)
  next_dropped key e = ap (without_key key) (zone_at zones i low) ∙ (let yes : (zone_key_at zones i == key) ≡ true = Rattle.std.proofs.Common.eq-eqb (zone_key_at zones i) key e in rw yes refl)

  pub next_reshaped : (key : ℕ) (shape : List (List Point)) → zone_key_at zones i ≡ key → reshaped key shape (drop i zones) ≡ record { key = key; shape = shape } ∷ reshaped key shape (drop (i + 1) zones)
  next_reshaped key shape e = ap (reshaped key shape) (zone_at zones i low) ∙ (let yes : (zone_key_at zones i == key) ≡ true = Rattle.std.proofs.Common.eq-eqb (zone_key_at zones i) key e in rw yes refl)

  pub next_same : (key : ℕ) (shape : List (List Point)) → zone_key_at zones i ≢ key
      → reshaped key shape (drop i zones) ≡ record { key = zone_key_at zones i; shape = zone_shape_at zones i } ∷ reshaped key shape (drop (i + 1) zones)
  next_same key shape ne = ap (reshaped key shape) (zone_at zones i low) ∙ (let no : (zone_key_at zones i == key) ≡ false = ne_eqb (zone_key_at zones i) key ne in rw no refl)

  pub next_below : (new : Zone) → zone_key_at zones i ≤ new.key → with_zone new (drop i zones) ≡ record { key = zone_key_at zones i; shape = zone_shape_at zones i } ∷ with_zone new (drop (i + 1) zones)
  next_below new h = ap (with_zone new) (zone_at zones i low) ∙ (let no : nat_lt new.key (zone_key_at zones i) ≡ false = below new.key (zone_key_at zones i) h in rw no refl)
    where
      below : (a b : ℕ) → b ≤ a → nat_lt a b ≡ false
      below a b h = grind (arith, nat_tests)

  pub next_above : (new : Zone) → new.key < zone_key_at zones i → with_zone new (drop i zones) ≡ new ∷ drop i zones
  next_above new h =
      ap (with_zone new) (zone_at zones i low) ∙ (let yes : nat_lt new.key (zone_key_at zones i) ≡ true = above new.key (zone_key_at zones i) h in rw yes refl)
      ∙ ap (λ v. new ∷ v) (sym (zone_at zones i low))
    where
      above : (a b : ℕ) → a < b → nat_lt a b ≡ true
      above a b h = grind (arith, nat_tests)

  pub has_here : (key : ℕ) → zone_key_at zones i ≡ key → has_key key (drop i zones) ≡ true
  has_here key e = ap (has_key key) (zone_at zones i low) ∙ (let yes : (zone_key_at zones i == key) ≡ true = Rattle.std.proofs.Common.eq-eqb (zone_key_at zones i) key e in ap (λ b. b || has_key key (drop (i + 1) zones)) yes)

  pub has_later : (key : ℕ) → zone_key_at zones i ≢ key → has_key key (drop i zones) ≡ has_key key (drop (i + 1) zones)
  has_later key ne = ap (has_key key) (zone_at zones i low) ∙ (let no : (zone_key_at zones i == key) ≡ false = ne_eqb (zone_key_at zones i) key ne in ap (λ b. b || has_key key (drop (i + 1) zones)) no)

pub with_last : (zones : List Zone) (i : ℕ) (new : Zone) → length zones ≤ i → with_zone new (drop i zones) ≡ new ∷ drop i zones
with_last zones i new high = ap (with_zone new) (drop_all i zones high) ∙ ap (λ v. new ∷ v) (sym (drop_all i zones high))

-- the zone at a place was put, by its key and its shape
pub put_own : (zones : List Zone) (i key : ℕ) (shape : List (List Point)) → key ≡ zone_key_at zones i → shape ≡ zone_shape_at zones i → (all before rest : List Zone) (old new after : Chains)
    → before ≡ record { key = zone_key_at zones i; shape = zone_shape_at zones i } ∷ rest → ChainsUpTo all before old
    → ((some : List Zone) → IsChains some old → IsChains (some ++ record { key = key; shape = shape } ∷ []) new) → after ≡ new → ChainsUpTo all rest after
put_own zones i key shape key_is shape_is all before rest old new after e h put same =
    subst (ChainsUpTo all rest) (sym same)
    (put_one all rest old new (record { key = key; shape = shape }) (same_rest all before (record { key = key; shape = shape } ∷ rest) old (e ∙ (λ t. record { key = sym key_is t; shape = sym shape_is t } ∷ rest)) h) put)

-- another zone was put
pub put_new : (all before rest : List Zone) (old new after : Chains) (zone : Zone) → before ≡ zone ∷ rest → ChainsUpTo all before old
    → ((some : List Zone) → IsChains some old → IsChains (some ++ zone ∷ []) new) → after ≡ new → ChainsUpTo all rest after
put_new all before rest old new after zone e h put same =
    subst (ChainsUpTo all rest) (sym same) (put_one all rest old new zone (same_rest all before (zone ∷ rest) old e h) put)

pub not_put : (all before rest : List Zone) (old after : Chains) → before ≡ rest → ChainsUpTo all before old → after ≡ old → ChainsUpTo all rest after
not_put all before rest old after e h same = subst (ChainsUpTo all rest) (sym same) (same_rest all before rest old e h)
