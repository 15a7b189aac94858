-- Zones on a cell on which the changed zone is Outside.
use Rattle.std.proofs.Common.{◌≡◌, ℕ, Bool, true, false, if◌then◌else◌, not, cond, refl, sym, ap, ◌∙◌, subst, List, [], ◌∷◌, ◌&&◌, ◌==◌, eq-eqb, map, nat_lt}
use Rattle.std.specs.List.{AllByRecursion as Each, filter, list_all}
use Rattle.act_grid.specs.declared.Point.{Point}
use Rattle.act_grid.specs.declared.Settings.{Settings}
use Rattle.act_grid.specs.Cell.{Address}
use Rattle.act_cover.specs.Covering.{class_at, is_on, is_within}
use Rattle.act_super.specs.declared.entry.Entry.{Entry}
use Rattle.act_super.specs.declared.entry.Entry.TheVariants as entry
use Rattle.act_super.specs.declared.entry.State.{State}
use Rattle.act_super.specs.declared.entry.Zone.{Zone}
use Rattle.act_super.specs.declared.refs.ZoneRef.{ZoneRef}
use Rattle.act_super.specs.Sizes.{refs_of}
use Rattle.act_super.specs.States.{after, changed, reshaped, with_zone, without_key}
use Rattle.act_image.specs.Fresh.{is_changed, leaf_stays, same_refs}
use Rattle.act_image.specs.Turned.{is_clear, is_free}
use Rattle.act_image.proofs.BranchFacts.{both, each_of, keys_are, not_is, refs_are}

-- ---- tests
pub all_true : (a b : Bool) → a ≡ true → b ≡ true → (a && b) ≡ true
all_true a b h k = ap (λ x. x && b) h ∙ k

pub same_test : (a b : Bool) → (a ≡ true → b ≡ true) → (b ≡ true → a ≡ true) → a ≡ b
same_test true b f g = sym (f refl)
same_test false true f g = g refl
same_test false false f g = refl

not_both : (a b : Bool) → not (a && b) ≡ true → a ≡ true → b ≡ false
not_both true b h e = not_is b h
not_both false b h e = absurd (cc)

pub all_from : {X : Type 0} (p : X → Bool) (xs : List X) → Each (λ x. p x ≡ true) xs → list_all p xs ≡ true
all_from p [] h = refl
all_from p (x ∷ xs) h = all_true (p x) (list_all p xs) h.0 (all_from p xs h.1)

flip : (a b : ℕ) → (a == b) ≡ true → (b == a) ≡ true
flip a b h = eq-eqb b a (sym (keys_are a b h))

-- ---- lists of zones that a test passes
module _ (p : Zone → Bool) where
  with_same : (zone : Zone) (zones : List Zone) → p zone ≡ false → filter p (with_zone zone zones) ≡ filter p zones
  with_same zone [] h = ap (λ b. cond b (zone ∷ []) []) h
  with_same zone (other ∷ zones) h = by (nat_lt zone.key other.key) (with_same zone zones h)
    where
      by : (b : Bool) → filter p (with_zone zone zones) ≡ filter p zones → filter p (if b then zone ∷ other ∷ zones else other ∷ with_zone zone zones) ≡ filter p (other ∷ zones)
      by true rest = ap (λ b. cond b (zone ∷ filter p (other ∷ zones)) (filter p (other ∷ zones))) h
      by false rest = ap (λ r. cond (p other) (other ∷ r) r) rest

  drop_same : (key : ℕ) (zones : List Zone) → Each (λ (zone : Zone). (key == zone.key) ≡ true → p zone ≡ false) zones → filter p (without_key key zones) ≡ filter p zones
  drop_same key [] h = refl
  drop_same key (zone ∷ zones) h = by (zone.key == key) refl (drop_same key zones h.1)
    where
      by : (b : Bool) → (zone.key == key) ≡ b → filter p (without_key key zones) ≡ filter p zones
          → filter p (cond (not b) (zone ∷ without_key key zones) (without_key key zones)) ≡ cond (p zone) (zone ∷ filter p zones) (filter p zones)
      by true e rest = rest ∙ sym (ap (λ b. cond b (zone ∷ filter p zones) (filter p zones)) (h.0 (flip zone.key key e)))
      by false e rest = ap (λ r. cond (p zone) (zone ∷ r) r) rest

  reshape_same : (key : ℕ) (shape : List (List Point)) (zones : List Zone) → Each (λ (zone : Zone). (key == zone.key) ≡ true → p zone ≡ false) zones
      → Each (λ (zone : Zone). (key == zone.key) ≡ true → p zone ≡ false) (reshaped key shape zones) → filter p (reshaped key shape zones) ≡ filter p zones
  reshape_same key shape [] h k = refl
  reshape_same key shape (zone ∷ zones) h k = by (zone.key == key) refl k.0 (reshape_same key shape zones h.1 k.1)
    where
      by : (b : Bool) → (zone.key == key) ≡ b
          → ((key == (if b then record { key = key; shape = shape } else zone).key) ≡ true → p (if b then record { key = key; shape = shape } else zone) ≡ false)
          → filter p (reshaped key shape zones) ≡ filter p zones
          → filter p ((if b then record { key = key; shape = shape } else zone) ∷ reshaped key shape zones) ≡ cond (p zone) (zone ∷ filter p zones) (filter p zones)
      by true e new rest =
          ap (λ b. cond b (record { key = key; shape = shape } ∷ filter p (reshaped key shape zones)) (filter p (reshaped key shape zones))) (new (eq-eqb key key refl))
          ∙ rest ∙ sym (ap (λ b. cond b (zone ∷ filter p zones) (filter p zones)) (h.0 (flip zone.key key e)))
      by false e new rest = ap (λ r. cond (p zone) (zone ∷ r) r) rest

with_has : (P : Zone → Type 0) (zone : Zone) (zones : List Zone) → Each P (with_zone zone zones) → P zone
with_has P zone [] h = h.0
with_has P zone (other ∷ zones) h = by (nat_lt zone.key other.key) (with_has P zone zones) h
  where
    by : (b : Bool) → (Each P (with_zone zone zones) → P zone) → Each P (if b then zone ∷ other ∷ zones else other ∷ with_zone zone zones) → P zone
    by true rest h = h.0
    by false rest h = rest h.1

-- a test that fails for each zone with the changed key passes the same zones before and after the change
abbrev pub Fails : Entry → (Zone → Bool) → List Zone → Type 0
Fails e p zones = Each (λ (zone : Zone). is_changed e zone.key ≡ true → p zone ≡ false) zones

pub filter_same : (e : Entry) (p : Zone → Bool) (zones : List Zone) → Fails e p zones → Fails e p (changed zones e) → filter p (changed zones e) ≡ filter p zones
filter_same (entry.Add key shape) p zones h k =
    with_same p (record { key = key; shape = shape }) zones
    (with_has (λ (zone : Zone). (key == zone.key) ≡ true → p zone ≡ false) (record { key = key; shape = shape }) zones k (eq-eqb key key refl))
filter_same (entry.DropZone key) p zones h k = drop_same p key zones h
filter_same (entry.Replace key shape) p zones h k = reshape_same p key shape zones h k
filter_same (entry.Train cells) p zones h k = refl

-- ---- the changed zone is Outside
pub clear_fails : (e : Entry) (zones : List Zone) (c : Address) → is_clear e zones c ≡ true → Fails e (λ (zone : Zone). is_on (class_at zone.shape c)) zones
clear_fails e zones c h =
    each_of (λ (zone : Zone). not (is_changed e zone.key && is_on (class_at zone.shape c))) (λ (zone : Zone). is_changed e zone.key ≡ true → is_on (class_at zone.shape c) ≡ false) zones
    (λ zone k. not_both (is_changed e zone.key) (is_on (class_at zone.shape c)) k) h

pub on_same : (e : Entry) (zones : List Zone) (c : Address) → is_free e zones c ≡ true
    → filter (λ (zone : Zone). is_on (class_at zone.shape c)) (changed zones e) ≡ filter (λ (zone : Zone). is_on (class_at zone.shape c)) zones
on_same e zones c h =
    let t = both (is_clear e zones c) (is_clear e (changed zones e) c) h in
    filter_same e (λ (zone : Zone). is_on (class_at zone.shape c)) zones (clear_fails e zones c t.0) (clear_fails e (changed zones e) c t.1)

-- no reference is to it
free_refs : (e : Entry) (zones : List Zone) (c : Address) → is_clear e zones c ≡ true → list_all (λ (r : ZoneRef). not (is_changed e r.key)) (refs_of zones c) ≡ true
free_refs e [] c h = refl
free_refs e (zone ∷ zones) c h =
    let t = both (not (is_changed e zone.key && is_on (class_at zone.shape c))) (is_clear e zones c) h in
    by (is_on (class_at zone.shape c)) t.0 (free_refs e zones c t.1)
  where
    one : (a : Bool) → not (a && true) ≡ true → not a ≡ true
    one true h = h
    one false h = refl

    by : (b : Bool) → not (is_changed e zone.key && b) ≡ true → list_all (λ (r : ZoneRef). not (is_changed e r.key)) (refs_of zones c) ≡ true
        → list_all (λ (r : ZoneRef). not (is_changed e r.key)) (map (λ (zone : Zone). record { key = zone.key; hit = is_within (class_at zone.shape c) })
        (cond b (zone ∷ filter (λ (zone : Zone). is_on (class_at zone.shape c)) zones) (filter (λ (zone : Zone). is_on (class_at zone.shape c)) zones))) ≡ true
    by true k rest = all_true (not (is_changed e zone.key)) (list_all (λ (r : ZoneRef). not (is_changed e r.key)) (refs_of zones c)) (one (is_changed e zone.key) k) rest
    by false k rest = rest

refs_free : (e : Entry) (zones : List Zone) (c : Address) → list_all (λ (r : ZoneRef). not (is_changed e r.key)) (refs_of zones c) ≡ true → is_clear e zones c ≡ true
refs_free e [] c h = refl
refs_free e (zone ∷ zones) c h = by (is_on (class_at zone.shape c)) h (refs_free e zones c)
  where
    one : (a : Bool) → not a ≡ true → not (a && true) ≡ true
    one true h = h
    one false h = refl

    none : (a : Bool) → not (a && false) ≡ true
    none true = refl
    none false = refl

    by : (b : Bool) → list_all (λ (r : ZoneRef). not (is_changed e r.key)) (map (λ (zone : Zone). record { key = zone.key; hit = is_within (class_at zone.shape c) })
        (cond b (zone ∷ filter (λ (zone : Zone). is_on (class_at zone.shape c)) zones) (filter (λ (zone : Zone). is_on (class_at zone.shape c)) zones))) ≡ true
        → (list_all (λ (r : ZoneRef). not (is_changed e r.key)) (refs_of zones c) ≡ true → is_clear e zones c ≡ true)
        → (not (is_changed e zone.key && b) && is_clear e zones c) ≡ true
    by true k rest =
        let t = both (not (is_changed e zone.key)) (list_all (λ (r : ZoneRef). not (is_changed e r.key)) (refs_of zones c)) k in
        all_true (not (is_changed e zone.key && true)) (is_clear e zones c) (one (is_changed e zone.key) t.0) (rest t.1)
    by false k rest = all_true (not (is_changed e zone.key && false)) (is_clear e zones c) (none (is_changed e zone.key)) (rest k)

refs_same : (refs : List ZoneRef) → same_refs refs refs ≡ true
refs_same [] = refl
refs_same (r ∷ refs) =
    all_true (r.key == r.key && cond r.hit r.hit (not r.hit)) (same_refs refs refs) (all_true (r.key == r.key) (cond r.hit r.hit (not r.hit)) (eq-eqb r.key r.key refl) (self r.hit)) (refs_same refs)
  where
    self : (b : Bool) → cond b b (not b) ≡ true
    self true = refl
    self false = refl

-- a leaf stays exactly where the changed zone is Outside on it, before and after
pub leaf_is : (settings : Settings) (old : State) (e : Entry) (leaf : Address) → leaf_stays old (after settings old e) e leaf ≡ is_free e old.zones leaf
leaf_is settings old e leaf = same_test (leaf_stays old (after settings old e) e leaf) (is_free e old.zones leaf) there back
  where
    there : leaf_stays old (after settings old e) e leaf ≡ true → is_free e old.zones leaf ≡ true
    there h =
        let t = both (same_refs (refs_of old.zones leaf) (refs_of (changed old.zones e) leaf)) (list_all (λ (r : ZoneRef). not (is_changed e r.key)) (refs_of (changed old.zones e) leaf)) h in
        let same = refs_are (refs_of old.zones leaf) (refs_of (changed old.zones e) leaf) t.0 in
        all_true (is_clear e old.zones leaf) (is_clear e (changed old.zones e) leaf)
        (refs_free e old.zones leaf (ap (list_all (λ (r : ZoneRef). not (is_changed e r.key))) same ∙ t.1)) (refs_free e (changed old.zones e) leaf t.1)

    back : is_free e old.zones leaf ≡ true → leaf_stays old (after settings old e) e leaf ≡ true
    back h =
        let t = both (is_clear e old.zones leaf) (is_clear e (changed old.zones e) leaf) h in
        let same : refs_of (changed old.zones e) leaf ≡ refs_of old.zones leaf = ap (map (λ (zone : Zone). record { key = zone.key; hit = is_within (class_at zone.shape leaf) })) (on_same e old.zones leaf h) in
        all_true (same_refs (refs_of old.zones leaf) (refs_of (changed old.zones e) leaf)) (list_all (λ (r : ZoneRef). not (is_changed e r.key)) (refs_of (changed old.zones e) leaf))
        (subst (λ refs. same_refs (refs_of old.zones leaf) refs ≡ true) (sym same) (refs_same (refs_of old.zones leaf))) (free_refs e (changed old.zones e) leaf t.1)
