-- Cells put one after another.
use Rattle.std.proofs.Common.{◌≡◌, ℕ, zero, suc, ◌+◌, ◌<◌, ◌≤◌, refl, sym, ap, ◌∙◌, subst, arith, Bool, true, false, cond, List, [], ◌∷◌, ◌++◌, length, take, drop, get_or, append_assoc, length-append}
use Rattle.std.specs.List.{All, flat_map}
use Rattle.std.proofs.lemmas.List.{length-map, take_more, append-nil, map-append, take-append-drop}
use Rattle.std.proofs.lemmas.List.Concat.{flat_map-append}
use Rattle.std.proofs.lemmas.List.Elements.{filter-append, All-push}
use Rattle.act_grid.specs.declared.Point.{Point}
use Rattle.act_grid.specs.Cell.{Address, root_cell, child_of}
use Rattle.act_cover.specs.declared.held.Held.{Held}
use Rattle.act_cover.specs.Covering.{class_at, is_on, cells_on, children_of, refined, cells_at}
use Rattle.act_cover.specs.Held.{IsTrueOf, IsPut, Puts, IsReached, cells_of}

pub none_put : (rings : List (List Point)) (most : ℕ) (old : List Held) → All (IsTrueOf rings) old → IsPut rings most old old []
none_put rings most old t = record { cells = sym (append-nil (cells_of old)); true_of = t; fits = λ h. h }

put_length : (rings : List (List Point)) (most : ℕ) (old new : List Held) (cells : List Address) → IsPut rings most old new cells → length new ≡ length old + length cells
put_length rings most old new cells p =
    omega (arith, length-map new (λ (h : Held). h.cell), length-map old (λ (h : Held). h.cell), ap length p.cells, length-append (cells_of old) cells)

-- some cells, and then more
pub put_then : (rings : List (List Point)) (most : ℕ) (old now new : List Held) (xs ys : List Address) (room : Bool)
    → IsPut rings most old now xs → Puts rings most now new ys room → Puts rings most old new (xs ++ ys) room
put_then rings most old now new xs ys true p q = record {
  cells = q.cells ∙ ap (λ (zs : List Address). zs ++ ys) p.cells ∙ append_assoc (cells_of old) xs ys;
  true_of = q.true_of;
  fits = λ h. q.fits (p.fits h);
}
put_then rings most old now new xs ys false p q = omega (arith, q, put_length rings most old now xs p, length-append xs ys)

-- cells for which there is no room, and then more
pub no_room : (most : ℕ) (old : List Held) (xs ys : List Address) → most < length old + length xs → most < length old + length (xs ++ ys)
no_room most old xs ys h = omega (arith, length-append xs ys)

-- ---- children

child_at : (c : Address) (q : ℕ) (d : Address) → q < 4 → get_or (children_of c) q d ≡ child_of c q
child_at c zero d h = refl
child_at c (suc zero) d h = refl
child_at c (suc (suc zero)) d h = refl
child_at c (suc (suc (suc zero))) d h = refl
child_at c (suc (suc (suc (suc q)))) d h = absurd (omega arith)

children_more : (rings : List (List Point)) (c : Address) (q : ℕ) → q < 4
    → cells_on rings (take (q + 1) (children_of c)) ≡ cells_on rings (take q (children_of c)) ++ cells_on rings (child_of c q ∷ [])
children_more rings c q h =
    ap (cells_on rings) (take_more (children_of c) q c h ∙ ap (λ (d : Address). take q (children_of c) ++ d ∷ []) (child_at c q c h))
    ∙ filter-append (λ (d : Address). is_on (class_at rings d)) (take q (children_of c)) (child_of c q ∷ [])

pub child_put : (rings : List (List Point)) (most : ℕ) (old now new : List Held) (c d : Address) (q : ℕ) (room : Bool) → q < 4 → d ≡ child_of c q
    → IsPut rings most old now (cells_on rings (take q (children_of c))) → Puts rings most now new (cells_on rings (d ∷ [])) room
    → Puts rings most old new (cells_on rings (take (q + 1) (children_of c))) room
child_put rings most old now new c d q room h e p r =
    subst (λ (zs : List Address). Puts rings most old new zs room) (sym (children_more rings c q h))
    (put_then rings most old now new _ _ room p (subst (λ (x : Address). Puts rings most now new (cells_on rings (x ∷ [])) room) e r))

pub children_no_room : (rings : List (List Point)) (most : ℕ) (old : List Held) (c : Address) (q : ℕ)
    → most < length old + length (cells_on rings (take q (children_of c))) → most < length old + length (cells_on rings (children_of c))
children_no_room rings most old c q h =
    let e : cells_on rings (take q (children_of c)) ++ cells_on rings (drop q (children_of c)) ≡ cells_on rings (children_of c) =
    sym (filter-append (λ (d : Address). is_on (class_at rings d)) (take q (children_of c)) (drop q (children_of c)))
    ∙ ap (cells_on rings) (take-append-drop q (children_of c)) in
    subst (λ (zs : List Address). most < length old + length zs) e (no_room most old _ (cells_on rings (drop q (children_of c))) h)

-- ---- the cells of a level

refined_more : (rings : List (List Point)) (held : List Held) (i : ℕ) (h : Held) → i < length held → h ≡ get_or held i h
    → flat_map (refined rings) (cells_of (take (i + 1) held)) ≡ flat_map (refined rings) (cells_of (take i held)) ++ refined rings h.cell
refined_more rings held i h l e =
    ap (λ (xs : List Held). flat_map (refined rings) (cells_of xs)) (take_more held i h l ∙ ap (λ (x : Held). take i held ++ x ∷ []) (sym e))
    ∙ ap (flat_map (refined rings)) (map-append (λ (x : Held). x.cell) (take i held) (h ∷ []))
    ∙ flat_map-append (refined rings) (cells_of (take i held)) (h.cell ∷ [])
    ∙ ap (λ (zs : List Address). flat_map (refined rings) (cells_of (take i held)) ++ zs) (append-nil (refined rings h.cell))

pub refined_put : (rings : List (List Point)) (most : ℕ) (held old now new : List Held) (i : ℕ) (h : Held) (room : Bool) → i < length held → h ≡ get_or held i h
    → IsPut rings most old now (flat_map (refined rings) (cells_of (take i held))) → Puts rings most now new (refined rings h.cell) room
    → Puts rings most old new (flat_map (refined rings) (cells_of (take (i + 1) held))) room
refined_put rings most held old now new i h room l e p r =
    subst (λ (zs : List Address). Puts rings most old new zs room) (sym (refined_more rings held i h l e)) (put_then rings most old now new _ _ room p r)

pub refined_no_room : (rings : List (List Point)) (most : ℕ) (old held : List Held) (i : ℕ)
    → most < length old + length (flat_map (refined rings) (cells_of (take i held))) → most < length old + length (flat_map (refined rings) (cells_of held))
refined_no_room rings most old held i h =
    let e : flat_map (refined rings) (cells_of (take i held)) ++ flat_map (refined rings) (cells_of (drop i held)) ≡ flat_map (refined rings) (cells_of held) =
    sym (flat_map-append (refined rings) (cells_of (take i held)) (cells_of (drop i held)))
    ∙ ap (flat_map (refined rings)) (sym (map-append (λ (x : Held). x.cell) (take i held) (drop i held)))
    ∙ ap (λ (xs : List Held). flat_map (refined rings) (cells_of xs)) (take-append-drop i held) in
    subst (λ (zs : List Address). most < length old + length zs) e (no_room most old _ (flat_map (refined rings) (cells_of (drop i held))) h)

-- ---- levels

pub root_small : (rings : List (List Point)) → length (cells_on rings (root_cell ∷ [])) ≤ 1
root_small rings = by_case (is_on (class_at rings root_cell))
  where
    by_case : (b : Bool) → length (cond b (root_cell ∷ []) []) ≤ 1
    by_case true = omega arith
    by_case false = omega arith

pub root_reached : (rings : List (List Point)) (new : List Held) (room : Bool) → Puts rings 1 [] new (cells_on rings (root_cell ∷ [])) room → IsReached rings 0 new
unfolding cells_at
root_reached rings new true p = record { cells = p.cells; true_of = p.true_of }
root_reached rings new false p = absurd (omega (arith, p, root_small rings))

pub next_reached : (rings : List (List Point)) (most level : ℕ) (held new : List Held) → IsReached rings level held
    → IsPut rings most [] new (flat_map (refined rings) (cells_of held)) → IsReached rings (suc level) new
unfolding cells_at
next_reached rings most level held new r p = record { cells = p.cells ∙ ap (flat_map (refined rings)) r.cells; true_of = p.true_of }

-- ---- one cell

pub outside_put : (rings : List (List Point)) (most : ℕ) (old : List Held) (c : Address) → is_on (class_at rings c) ≡ false → All (IsTrueOf rings) old
    → IsPut rings most old old (cells_on rings (c ∷ []))
outside_put rings most old c e t =
    subst (λ (zs : List Address). IsPut rings most old old zs) (sym (ap (λ b. cond b (c ∷ []) []) e)) (none_put rings most old t)

pub on_put : (rings : List (List Point)) (most : ℕ) (old new : List Held) (c : Address) (room : Bool) → is_on (class_at rings c) ≡ true
    → Puts rings most old new (c ∷ []) room → Puts rings most old new (cells_on rings (c ∷ [])) room
on_put rings most old new c room e p =
    subst (λ (zs : List Address). Puts rings most old new zs room) (sym (ap (λ b. cond b (c ∷ []) []) e)) p

pub room_left : (rings : List (List Point)) (most : ℕ) (old new : List Held) (cells : List Address) (room : Bool) → Puts rings most old new cells room → room ≡ true → IsPut rings most old new cells
room_left rings most old new cells room p e = subst (λ (b : Bool). Puts rings most old new cells b) e p

pub no_room_left : (rings : List (List Point)) (most : ℕ) (old new : List Held) (cells : List Address) (room : Bool) → Puts rings most old new cells room → room ≡ false
    → most < length old + length cells
no_room_left rings most old new cells room p e = subst (λ (b : Bool). Puts rings most old new cells b) e p

pub one_put : (rings : List (List Point)) (most : ℕ) (old new : List Held) (h : Held) → new ≡ old ++ h ∷ [] → All (IsTrueOf rings) old → IsTrueOf rings h → length old < most
    → IsPut rings most old new (h.cell ∷ [])
one_put rings most old new h e t i l = record {
  cells = ap (λ (xs : List Held). cells_of xs) e ∙ map-append (λ (x : Held). x.cell) old (h ∷ []);
  true_of = subst (λ (xs : List Held). All (IsTrueOf rings) xs) (sym e) (All-push (IsTrueOf rings) old h t i);
  fits = λ _. omega (arith, ap length e, length-append old (h ∷ []));
}
