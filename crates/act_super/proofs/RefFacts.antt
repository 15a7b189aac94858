-- References to zones, one after the other.
use Rattle.std.proofs.Common.{◌≡◌, ℕ, zero, suc, ◌+◌, ◌<◌, refl, sym, ap, ◌∙◌, arith, add-one, append_assoc, Bool, List, [], ◌∷◌, ◌++◌, length, get_or, map, take, drop, length-append, length-take}
use Rattle.std.specs.List.{filter}
use Rattle.std.specs.Prelude.{remove}
use Rattle.std.proofs.lemmas.List.{get_or-map, map-append, take_more}
use Rattle.std.proofs.lemmas.List.Elements.{filter-append}
use Rattle.act_grid.specs.declared.Point.{Point}
use Rattle.act_grid.specs.Cell.{Address}
use Rattle.act_cover.specs.Covering.{class_at, is_on, is_within}
use Rattle.act_super.specs.declared.entry.Zone.{Zone}
use Rattle.act_super.specs.declared.refs.ZoneRef.{ZoneRef}
use Rattle.act_super.specs.declared.standing.Standing.{Standing}
use Rattle.act_super.specs.Places.{zones_with}
use Rattle.act_super.specs.Sizes.{refs_of}
use Rattle.act_super.specs.Standings.{shapes_in}
use Rattle.act_super.proofs.Keyed.{length-zones}
use Rattle.act_super.proofs.StateFacts.{IsAt, joined, length_shapes}

pub refs_append : (zones others : List Zone) (c : Address) → refs_of (zones ++ others) c ≡ refs_of zones c ++ refs_of others c
refs_append zones others c =
    let f : Zone → ZoneRef = λ zone. record { key = zone.key; hit = is_within (class_at zone.shape c) } in
    let p : Zone → Bool = λ zone. is_on (class_at zone.shape c) in
    ap (map f) (filter-append p zones others) ∙ map-append f (filter p zones) (filter p others)

zone_at : (keys : List ℕ) (shapes : List (List (List Point))) (i : ℕ) (d : Zone) → length shapes ≡ length keys → i < length keys
    → get_or (zones_with keys shapes) i d ≡ record { key = get_or keys i 0; shape = get_or shapes i [] }
zone_at [] shapes i d same less = absurd (omega arith)
zone_at (k ∷ keys) [] i d same less = absurd (omega arith)
zone_at (k ∷ keys) (s ∷ shapes) zero d same less = refl
zone_at (k ∷ keys) (s ∷ shapes) (suc i) d same less = zone_at keys shapes i d (omega arith) (omega arith)

pub refs_more : (keys : List ℕ) (standings : List Standing) (c : Address) (i key : ℕ) (z : Standing) (before so_far after : List ZoneRef) → length standings ≡ length keys → i < length keys
    → key ≡ get_or keys i 0 → z ≡ get_or standings i z → so_far ≡ before ++ refs_of (take i (zones_with keys (shapes_in standings))) c
    → after ≡ so_far ++ refs_of (record { key = key; shape = z.shape } ∷ []) c → after ≡ before ++ refs_of (take (i + 1) (zones_with keys (shapes_in standings))) c
refs_more keys standings c i key z before so_far after same less k s so is =
    let zones = zones_with keys (shapes_in standings) in
    let shapes : length (shapes_in standings) ≡ length keys = length_shapes standings ∙ same in
    let one : Zone = record { key = key; shape = z.shape } in
    let key_is : get_or keys i 0 ≡ key = sym k in
    let shape_is : get_or (shapes_in standings) i [] ≡ z.shape = get_or-map (λ (s : Standing). s.shape) standings i z [] (omega (arith, same, less)) ∙ ap (λ (s : Standing). s.shape) (sym s) in
    let there : get_or zones i one ≡ one = zone_at keys (shapes_in standings) i one shapes less ∙ same_zone key_is shape_is in
    let more : take (i + 1) zones ≡ take i zones ++ one ∷ [] =
    take_more zones i one (omega (arith, length-zones keys (shapes_in standings) shapes, less)) ∙ ap (λ x. take i zones ++ x ∷ []) there in
    is ∙ ap (λ xs. xs ++ refs_of (one ∷ []) c) so ∙ append_assoc before (refs_of (take i zones) c) (refs_of (one ∷ []) c)
    ∙ ap (λ xs. before ++ xs) (sym (refs_append (take i zones) (one ∷ []) c) ∙ ap (λ zs. refs_of zs c) (sym more))
  where
    same_zone : {k k' : ℕ} {s s' : List (List Point)} → k ≡ k' → s ≡ s' → ◌≡◌ {A = Zone} (record { key = k; shape = s }) (record { key = k'; shape = s' })
    same_zone a b = cc

zones_append : (keys more : List ℕ) (shapes others : List (List (List Point))) → length shapes ≡ length keys → zones_with (keys ++ more) (shapes ++ others) ≡ zones_with keys shapes ++ zones_with more others
zones_append [] more [] others e = refl
zones_append [] more (s ∷ shapes) others e = absurd (omega arith)
zones_append (k ∷ keys) more [] others e = absurd (omega arith)
zones_append (k ∷ keys) more (s ∷ shapes) others e = ap (λ zs. record { key = k; shape = s } ∷ zs) (zones_append keys more shapes others (omega arith))

shapes_append : (a b : List Standing) → shapes_in (a ++ b) ≡ shapes_in a ++ shapes_in b
shapes_append a b = map-append (λ (s : Standing). s.shape) a b

take_length : (keys : List ℕ) (standings : List Standing) (i : ℕ) → length standings ≡ length keys → length (shapes_in (take i standings)) ≡ length (take i keys)
take_length keys standings i e = omega (arith, length_shapes (take i standings), length-take i standings, length-take i keys, e)

-- the references where one zone comes for those from one place up to another
pub refs_joined : (keys : List ℕ) (standings : List Standing) (c : Address) (from to : ℕ) (some : List ℕ) (new : List Standing) → length standings ≡ length keys → length new ≡ length some
    → refs_of (zones_with (take from keys) (shapes_in (take from standings))) c ++ refs_of (zones_with some (shapes_in new)) c ++ refs_of (zones_with (drop to keys) (shapes_in (drop to standings))) c
    ≡ refs_of (zones_with (take from keys ++ some ++ drop to keys) (shapes_in (joined standings from new to))) c
refs_joined keys standings c from to some new e f =
    let a = take_length keys standings from e in
    let b : length (shapes_in new) ≡ length some = length_shapes new ∙ f in
    let ab : length (shapes_in (take from standings ++ new)) ≡ length (take from keys ++ some) =
    omega (arith, ap (λ xs. length xs) (shapes_append (take from standings) new), length-append (shapes_in (take from standings)) (shapes_in new), length-append (take from keys) some, a, b) in
    ap (λ rs. rs ++ refs_of (zones_with (drop to keys) (shapes_in (drop to standings))) c)
    (sym (refs_append (zones_with (take from keys) (shapes_in (take from standings))) (zones_with some (shapes_in new)) c)
    ∙ ap (λ zs. refs_of zs c) (sym (zones_append (take from keys) some (shapes_in (take from standings)) (shapes_in new) a) ∙ ap (zones_with (take from keys ++ some)) (sym (shapes_append (take from standings) new))))
    ∙ sym (refs_append (zones_with (take from keys ++ some) (shapes_in (take from standings ++ new))) (zones_with (drop to keys) (shapes_in (drop to standings))) c)
    ∙ ap (λ zs. refs_of zs c)
    (sym (zones_append (take from keys ++ some) (drop to keys) (shapes_in (take from standings ++ new)) (shapes_in (drop to standings)) ab)
    ∙ ap (zones_with (take from keys ++ some ++ drop to keys)) (sym (shapes_append (take from standings ++ new) (drop to standings))))

-- a key comes for itself
pub key_again : (key : ℕ) (keys : List ℕ) (i : ℕ) → IsAt key keys i → take i keys ++ key ∷ [] ++ drop (i + 1) keys ≡ keys
key_again key keys i at = append_assoc (take i keys) (key ∷ []) (drop (i + 1) keys) ∙ ap (λ j. take i keys ++ key ∷ drop j keys) (add-one i) ∙ whole keys i at.0 at.1
  where
    whole : (keys : List ℕ) (i : ℕ) → i < length keys → get_or keys i 0 ≡ key → take i keys ++ key ∷ drop (suc i) keys ≡ keys
    whole [] i less is = absurd (omega arith)
    whole (k ∷ keys) zero less is = ap (λ x. x ∷ keys) (sym is)
    whole (k ∷ keys) (suc i) less is = ap (λ xs. k ∷ xs) (whole keys i (omega arith) is)

pub append_nil : {X : Type 0} (xs : List X) → xs ++ [] ≡ xs
append_nil [] = refl
append_nil (x ∷ xs) = ap (λ r. x ∷ r) (append_nil xs)

-- the keys without one
pub keys_without : (keys : List ℕ) (i : ℕ) → take i keys ++ [] ++ drop (i + 1) keys ≡ remove keys i
keys_without keys i = ap (λ xs. xs ++ drop (i + 1) keys) (append_nil (take i keys)) ∙ ap (λ j. take i keys ++ drop j keys) (add-one i)
