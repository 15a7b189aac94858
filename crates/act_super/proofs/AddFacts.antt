-- One zone more.
use Rattle.std.proofs.Common.{◌≡◌, ℕ, ◌+◌, ◌-◌, refl, sym, ap, ◌∙◌, arith, Bool, true, false, cond, ◌&&◌, ◌||◌, List, [], ◌∷◌, ◌++◌, length, length-append}
use Rattle.std.specs.Prelude.{nat_lt}
use Rattle.std.proofs.lemmas.List.Folds.{list_any-append}
use Rattle.act_grid.specs.Cell.{Address}
use Rattle.act_cover.specs.Covering.{is_on}
use Rattle.act_super.specs.Grounds.{Ground, asks, is_split, on, some_asks}
use Rattle.act_super.specs.Shifts.{added}
use Rattle.act_super.specs.Trees.{under}
use Rattle.act_super.proofs.TreeFacts.{same_counts}

on_append : {X : Type 0} (g : Ground X) (items more : List X) (c : Address) → on g (items ++ more) c ≡ on g items c ++ on g more c
on_append g [] more c = refl
on_append g (x ∷ items) more c = step (is_on (g.class x c)) (on_append g items more c)
  where
    step : (b : Bool) → on g (items ++ more) c ≡ on g items c ++ on g more c
        → cond b (x ∷ on g (items ++ more) c) (on g (items ++ more) c) ≡ cond b (x ∷ on g items c) (on g items c) ++ on g more c
    step true e = ap (λ r. x ∷ r) e
    step false e = e

append_nil : {X : Type 0} (xs : List X) → xs ++ [] ≡ xs
append_nil [] = refl
append_nil (x ∷ xs) = ap (λ r. x ∷ r) (append_nil xs)

pub on_added : {X : Type 0} (g : Ground X) (items : List X) (z : X) (c : Address) → is_on (g.class z c) ≡ true → on g (added items z) c ≡ added (on g items c) z
on_added g items z c e = on_append g items (z ∷ []) c ∙ ap (λ b. on g items c ++ cond b (z ∷ []) []) e

pub on_not_added : {X : Type 0} (g : Ground X) (items : List X) (z : X) (c : Address) → is_on (g.class z c) ≡ false → on g (added items z) c ≡ on g items c
on_not_added g items z c e = on_append g items (z ∷ []) c ∙ ap (λ b. on g items c ++ cond b (z ∷ []) []) e ∙ append_nil (on g items c)

pub on_added_self : {X : Type 0} (g : Ground X) (items : List X) (z : X) (c : Address) → on g items c ≡ items → is_on (g.class z c) ≡ true → on g (added items z) c ≡ added items z
on_added_self g items z c h e = on_added g items z c e ∙ ap (λ r. added r z) h

pub split_added : {X : Type 0} (g : Ground X) (items : List X) (z : X) (c : Address) → is_split g (added items z) c ≡ is_split g items c || (nat_lt c.level 28 && asks g c z)
split_added g items z c =
    ap (λ b. nat_lt c.level 28 && b) (list_any-append (asks g c) items (z ∷ [])) ∙ spread (nat_lt c.level 28) (some_asks g c items) (asks g c z)
  where
    spread : (a b d : Bool) → (a && (b || (d || false))) ≡ (a && b) || (a && d)
    spread a b d = grind arith

pub split_still : {X : Type 0} (g : Ground X) (items : List X) (z : X) (c : Address) → is_split g items c ≡ true → is_split g (added items z) c ≡ true
split_still g items z c e = split_added g items z c ∙ ap (λ b. b || (nat_lt c.level 28 && asks g c z)) e

pub split_new : {X : Type 0} (g : Ground X) (items : List X) (z : X) (c : Address) (wanted : Bool) → is_split g items c ≡ false → wanted ≡ (nat_lt c.level 28 && asks g c z) → is_split g (added items z) c ≡ wanted
split_new g items z c wanted e w = split_added g items z c ∙ ap (λ b. b || (nat_lt c.level 28 && asks g c z)) e ∙ sym w

pub length_added : {X : Type 0} (items : List X) (z : X) → length (added items z) ≡ length items + 1
length_added items z = length-append items (z ∷ [])

-- a zone put at its place counts as one put at the end
pub under_at_place : {X : Type 0} (g : Ground X) (before after : List X) (z : X) (c : Address) → under g (before ++ (z ∷ after)) c ≡ under g (added (before ++ after) z) c
unfolding under
under_at_place {X = X} g before after z c = same_counts g g (before ++ (z ∷ after)) (added (before ++ after) z) counts tests (28 - c.level) c
  where
    lengths : (x y : ℕ) (b : Bool) → x + cond b (y + 1) y ≡ (x + y) + cond b 1 0
    lengths x y b = grind arith

    count : (xs : List X) (b : Bool) → length (cond b (z ∷ xs) xs) ≡ cond b (length xs + 1) (length xs)
    count xs true = omega arith
    count xs false = refl

    one : (b : Bool) → length (cond b (z ∷ []) []) ≡ cond b 1 0
    one true = refl
    one false = refl

    counts : (c : Address) → length (on g (before ++ (z ∷ after)) c) ≡ length (on g (added (before ++ after) z) c)
    counts c =
        let e1 = ap (λ r. length r) (on_append g before (z ∷ after) c) ∙ length-append (on g before c) (on g (z ∷ after) c) in
        let e2 = ap (λ r. length r) (on_append g (before ++ after) (z ∷ []) c) ∙ length-append (on g (before ++ after) c) (on g (z ∷ []) c) in
        let e3 = ap (λ r. length r) (on_append g before after c) ∙ length-append (on g before c) (on g after c) in
        let l = lengths (length (on g before c)) (length (on g after c)) (is_on (g.class z c)) in
        omega (arith, e1, e2, e3, l, count (on g after c) (is_on (g.class z c)), one (is_on (g.class z c)))

    or_swap : (a b c : Bool) → (a || (b || c)) ≡ ((a || c) || (b || false))
    or_swap a b c = grind arith

    tests : (c : Address) → some_asks g c (before ++ (z ∷ after)) ≡ some_asks g c (added (before ++ after) z)
    tests c =
        list_any-append (asks g c) before (z ∷ after)
        ∙ or_swap (some_asks g c before) (asks g c z) (some_asks g c after)
        ∙ ap (λ b. b || (asks g c z || false)) (sym (list_any-append (asks g c) before after))
        ∙ sym (list_any-append (asks g c) (before ++ after) (z ∷ []))
