-- The items on a cell, one after the other.
use Rattle.std.proofs.Common.{◌≡◌, ℕ, ◌+◌, ◌<◌, refl, sym, ap, ◌∙◌, arith, Bool, true, false, cond, ◌&&◌, ◌||◌, List, [], ◌∷◌, ◌++◌, length, take, get_or}
use Rattle.std.specs.Prelude.{sum_by}
use Rattle.std.specs.Borrow.{Bor}
use Rattle.std.proofs.lemmas.List.{get_or-map, length-map, take_more, map-append}
use Rattle.std.proofs.lemmas.List.Elements.{filter_more}
use Rattle.std.proofs.lemmas.List.Sums.{sum_by-append, sum_by-cons}
use Rattle.std.proofs.lemmas.List.Folds.{list_any-append}
use Rattle.act_grid.specs.Cell.{Address}
use Rattle.act_geom.specs.declared.class.Class.{Class}
use Rattle.act_geom.specs.declared.class.Class.TheVariants.{Inside, Outside, Mixed}
use Rattle.act_cover.specs.Covering.{is_on}
use Rattle.act_super.specs.declared.standing.Standing.{Standing}
use Rattle.act_super.specs.Grounds.{Ground, is_mixed, on, asks, some_asks}
use Rattle.act_super.specs.Standings.{values}

pub value_at : (refs : List (Bor Standing)) (i : ℕ) (r : Bor Standing) → i < length refs → r ≡ get_or refs i r → get_or (values refs) i r.now ≡ r.now
value_at refs i r less e = get_or-map (λ (r : Bor Standing). r.now) refs i r r.now less ∙ sym (ap (λ (r : Bor Standing). r.now) e)

pub length-values : (refs : List (Bor Standing)) (i : ℕ) → i < length refs → i < length (values refs)
length-values refs i less = omega (arith, length-map refs (λ (r : Bor Standing). r.now))

on_more : (g : Ground Standing) (refs : List (Bor Standing)) (c : Address) (i : ℕ) (r : Bor Standing) → i < length refs → r ≡ get_or refs i r
    → on g (take (i + 1) (values refs)) c ≡ on g (take i (values refs)) c ++ cond (is_on (g.class r.now c)) (r.now ∷ []) []
on_more g refs c i r less e =
    filter_more (λ x. is_on (g.class x c)) (values refs) i r.now (length-values refs i less)
    ∙ ap (λ x. on g (take i (values refs)) c ++ cond (is_on (g.class x c)) (x ∷ []) []) (value_at refs i r less e)

asks_more : (g : Ground Standing) (refs : List (Bor Standing)) (c : Address) (i : ℕ) (r : Bor Standing) → i < length refs → r ≡ get_or refs i r
    → some_asks g c (take (i + 1) (values refs)) ≡ some_asks g c (take i (values refs)) || asks g c r.now
asks_more g refs c i r less e =
    ap (some_asks g c) (take_more (values refs) i r.now (length-values refs i less))
    ∙ list_any-append (asks g c) (take i (values refs)) _
    ∙ ap (λ b. some_asks g c (take i (values refs)) || b) (or_false (asks g c (get_or (values refs) i r.now)) ∙ ap (asks g c) (value_at refs i r less e))
  where
    or_false : (b : Bool) → (b || false) ≡ b
    or_false true = refl
    or_false false = refl

append_nil : {X : Type 0} (xs : List X) → xs ++ [] ≡ xs
append_nil [] = refl
append_nil (x ∷ xs) = ap (λ r. x ∷ r) (append_nil xs)

pub put_on : (g : Ground Standing) (refs found more : List (Bor Standing)) (c : Address) (i : ℕ) (r : Bor Standing) → i < length refs → r ≡ get_or refs i r
    → is_on (g.class r.now c) ≡ true → values found ≡ on g (take i (values refs)) c → more ≡ found ++ r ∷ [] → values more ≡ on g (take (i + 1) (values refs)) c
put_on g refs found more c i r less e on_it so far =
    ap values far ∙ map-append (λ (r : Bor Standing). r.now) found (r ∷ []) ∙ ap (λ xs. xs ++ r.now ∷ []) so
    ∙ sym (on_more g refs c i r less e ∙ ap (λ b. on g (take i (values refs)) c ++ cond b (r.now ∷ []) []) on_it)

pub skip_on : (g : Ground Standing) (refs found : List (Bor Standing)) (c : Address) (i : ℕ) (r : Bor Standing) → i < length refs → r ≡ get_or refs i r
    → is_on (g.class r.now c) ≡ false → values found ≡ on g (take i (values refs)) c → values found ≡ on g (take (i + 1) (values refs)) c
skip_on g refs found c i r less e off so =
    so ∙ sym (on_more g refs c i r less e ∙ ap (λ b. on g (take i (values refs)) c ++ cond b (r.now ∷ []) []) off ∙ append_nil _)

pub put_asked : (g : Ground Standing) (refs : List (Bor Standing)) (c : Address) (i : ℕ) (r : Bor Standing) (before after one : Bool) → i < length refs → r ≡ get_or refs i r
    → before ≡ some_asks g c (take i (values refs)) → one ≡ asks g c r.now → after ≡ (before || one) → after ≡ some_asks g c (take (i + 1) (values refs))
put_asked g refs c i r before after one less e so is far = far ∙ ap (λ b. b || one) so ∙ ap (λ b. some_asks g c (take i (values refs)) || b) is ∙ sym (asks_more g refs c i r less e)

pub skip_asked : (g : Ground Standing) (refs : List (Bor Standing)) (c : Address) (i : ℕ) (r : Bor Standing) (before : Bool) → i < length refs → r ≡ get_or refs i r
    → is_on (g.class r.now c) ≡ false → before ≡ some_asks g c (take i (values refs)) → before ≡ some_asks g c (take (i + 1) (values refs))
skip_asked g refs c i r before less e off so =
    so ∙ sym (or_false (some_asks g c (take i (values refs)))) ∙ ap (λ b. some_asks g c (take i (values refs)) || b) (sym (none (g.class r.now c) _ off)) ∙ sym (asks_more g refs c i r less e)
  where
    or_false : (b : Bool) → (b || false) ≡ b
    or_false true = refl
    or_false false = refl

    none : (k : Class) (b : Bool) → is_on k ≡ false → (is_mixed k && b) ≡ false
    none Inside b h = refl
    none Outside b h = refl
    none Mixed b h = absurd (cc)

pub sum_more : (f : Standing → ℕ) (refs : List (Bor Standing)) (i : ℕ) (r : Bor Standing) (before one : ℕ) → i < length refs → r ≡ get_or refs i r
    → before ≡ sum_by f (take i (values refs)) → one ≡ f r.now → before + one ≡ sum_by f (take (i + 1) (values refs))
sum_more f refs i r before one less e so is =
    let at = ap f (value_at refs i r less e) in
    let all = ap (sum_by f) (take_more (values refs) i r.now (length-values refs i less)) ∙ sum_by-append f (take i (values refs)) _ in
    let last = sum_by-cons f (get_or (values refs) i r.now) [] in
    omega (arith, so, is, at, all, last)
