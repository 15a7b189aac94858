-- Trained cells are looked up by their ids.
use Rattle.std.proofs.Common.{◌≡◌, ℕ, ◌+◌, ◌<◌, ◌≤◌, refl, sym, subst, ap, ◌∙◌, ◌⊎◌, inl, inr, arith, eq-eqb, Bool, true, false, ◌&&◌, ◌||◌, List, [], ◌∷◌, ◌++◌, length, map, take, get_or}
use Rattle.std.proofs.lemmas.Bool.{cases_lt}
use Rattle.std.specs.Prelude.{All, ◌==◌, insert, suc}
use Rattle.std.specs.List.{list_any}
use Rattle.std.specs.List.Sorted.{IsNonDecreasing, IsPermutation}
use Rattle.std.proofs.lemmas.List.Elements.{All-head, All-more, All-push, All-tail}
use Rattle.std.proofs.lemmas.List.Folds.{list_any_at}
use Rattle.std.proofs.lemmas.List.{get_or_default, length-map, map-append, take_more}
use Rattle.std.proofs.lemmas.List.Sorted.{IsNonDecreasingBy-insert, IsPermutation-insert, IsPermutation-push_more, length_permutation, list_any-IsPermutation}
use Rattle.act_grid.specs.Cell.{Address, IsCell, id_of}
use Rattle.act_grid.proofs.IdFacts.{same_id}
use Rattle.act_super.specs.Grounds.{is_among, same_cell}
use Rattle.act_super.specs.Marked.{IsIndexed}

equal : (a b : ℕ) → (a == b) ≡ true → a ≡ b
equal a b e = grind arith

unequal : (a b : ℕ) → (a ≡ b → ⊥) → (a == b) ≡ false
unequal a b h = grind arith

same_itself : (c : Address) → same_cell c c ≡ true
same_itself c = rw (eq-eqb c.level c.level refl, eq-eqb c.path c.path refl) refl

-- cells that are the same have one level, one path and one id
pub same_then_all : (c d : Address) → same_cell d c ≡ true → (d.level ≡ c.level) × (d.path ≡ c.path)
same_then_all c d e = (equal d.level c.level (both (d.level == c.level) (d.path == c.path) e).0, equal d.path c.path (both (d.level == c.level) (d.path == c.path) e).1)
  where
    both : (a b : Bool) → (a && b) ≡ true → (a ≡ true) × (b ≡ true)
    both true true e = (refl, refl)
    both true false e = absurd (cc)
    both false b e = absurd (cc)

same_then : (c d : Address) → same_cell d c ≡ true → id_of d ≡ id_of c
same_then c d e = ids (same_then_all c d e).0 (same_then_all c d e).1
  where
    ids : d.level ≡ c.level → d.path ≡ c.path → id_of d ≡ id_of c
    ids l p = cc

-- cells are the same where their ids are
same_by_id : (c d : Address) → IsCell c → IsCell d → same_cell d c ≡ (id_of d == id_of c)
same_by_id c d hc hd = by (id_of d == id_of c) refl
  where
    never : (b : Bool) → (b ≡ true → ⊥) → b ≡ false
    never true h = absurd (h refl)
    never false h = refl

    by : (b : Bool) → (id_of d == id_of c) ≡ b → same_cell d c ≡ b
    by true e = let one : d ≡ c = same_id d c hd hc (equal (id_of d) (id_of c) e) in rw one (same_itself c)
    by false e = never (same_cell d c) (λ t. let f = eq-eqb (id_of d) (id_of c) (same_then c d t) in cc)

-- a cell is among these where its id is among theirs
among_ids : (cells : List Address) (c : Address) → IsCell c → All IsCell cells → is_among cells c ≡ list_any (λ id. id == id_of c) (map id_of cells)
among_ids [] c h all = refl
among_ids (d ∷ cells) c h all =
    ap (λ b. b || is_among cells c) (same_by_id c d h (All-head IsCell d cells all)) ∙ ap (λ b. (id_of d == id_of c) || b) (among_ids cells c h (All-tail IsCell d cells all))

pub among_indexed : (cells : List Address) (ids : List ℕ) (c : Address) → IsCell c → IsIndexed cells ids → is_among cells c ≡ list_any (λ id. id == id_of c) ids
among_indexed cells ids c h index = among_ids cells c h index.each ∙ list_any-IsPermutation (λ id. id == id_of c) (map id_of cells) ids index.same

-- where there are no ids there are no cells
pub among_none : (cells : List Address) (ids : List ℕ) (c : Address) → IsIndexed cells ids → length ids ≡ 0 → is_among cells c ≡ false
among_none [] ids c index none = refl
among_none (d ∷ cells) ids c index none = absurd (omega (arith, length_permutation (map id_of (d ∷ cells)) ids index.same, length-map (d ∷ cells) id_of))

-- an id stands at a place, or at none
pub found_at : (ids : List ℕ) (id i : ℕ) → i < length ids → get_or ids i 0 ≡ id → list_any (λ x. x == id) ids ≡ true
found_at ids id i within is = list_any_at (λ x. x == id) ids i 0 within (eq-eqb (get_or ids i 0) id is)

pub found_nowhere : (ids : List ℕ) (id : ℕ) → ((k : ℕ) → k < length ids → get_or ids k 0 ≡ id → ⊥) → list_any (λ x. x == id) ids ≡ false
found_nowhere [] id h = refl
found_nowhere (x ∷ ids) id h =
    ap (λ b. b || list_any (λ x. x == id) ids) (unequal x id (h 0 (omega arith))) ∙ found_nowhere ids id (λ k within is. h (suc k) (omega arith) is)

pub between : (ids : List ℕ) (id i k : ℕ) → ((k : ℕ) → k < i → get_or ids k 0 < id) → ((k : ℕ) → i ≤ k → k < length ids → id < get_or ids k 0) → k < length ids → get_or ids k 0 ≡ id → ⊥
between ids id i k low high within is = by (cases_lt k i)
  where
    by : (k < i) ⊎ (i ≤ k) → ⊥
    by (inl less) = absurd (omega (arith, low k less, is))
    by (inr more) = absurd (omega (arith, high k more within, is))

-- one more cell with its id
pub copied_more : (cells : List Address) (i : ℕ) (x : Address) (all more : List Address) → i < length cells → x ≡ get_or cells i x
    → all ≡ take i cells → more ≡ all ++ (x ∷ []) → more ≡ take (i + 1) cells
copied_more cells i x all more less is e f = f ∙ ap (λ xs. xs ++ (x ∷ [])) e ∙ ap (λ y. take i cells ++ (y ∷ [])) is ∙ sym (take_more cells i x less)

pub ids_more : (cells : List Address) (i : ℕ) (x : Address) (id : ℕ) (ids more : List ℕ) → i < length cells → x ≡ get_or cells i x → id ≡ id_of x
    → ids ≡ map id_of (take i cells) → more ≡ ids ++ (id ∷ []) → more ≡ map id_of (take (i + 1) cells)
ids_more cells i x id ids more less is here e f =
    f ∙ ap (λ xs. xs ++ (id ∷ [])) e ∙ ap (λ y. map id_of (take i cells) ++ (y ∷ [])) here
    ∙ sym (map-append id_of (take i cells) (x ∷ [])) ∙ ap (map id_of) (copied_more cells i x (take i cells) (take i cells ++ (x ∷ [])) less is refl refl)

pub cells_more : (cells : List Address) (i : ℕ) (x : Address) → i < length cells → x ≡ get_or cells i x → IsCell x → All IsCell (take i cells) → All IsCell (take (i + 1) cells)
cells_more cells i x less is cell all = All-more IsCell cells i x less all (subst IsCell is cell)

pub indexed_all : (cells : List Address) (i : ℕ) (all : List Address) (ids sorted : List ℕ) → length cells ≤ i → all ≡ take i cells → ids ≡ map id_of (take i cells)
    → All IsCell (take i cells) → IsPermutation ids sorted → IsNonDecreasing sorted → IsIndexed all sorted
indexed_all cells i all ids sorted most e f each same rises = record {
  each = subst (All IsCell) (sym e) each;
  same = subst (λ xs. IsPermutation xs sorted) (f ∙ ap (map id_of) (sym e)) same;
  rises = rises;
}

pub none_when : (n : ℕ) (b : Bool) → b ≡ (n == 0) → b ≡ true → n ≡ 0
none_when n b e f = equal n 0 (sym e ∙ f)

-- one more cell, with its id at its place
pub indexed_more : (cells : List Address) (ids : List ℕ) (cell : Address) (id at : ℕ) → IsIndexed cells ids → IsCell cell → id ≡ id_of cell → at ≤ length ids
    → ((k : ℕ) → k < at → get_or ids k 0 ≤ id) → ((k : ℕ) → at ≤ k → k < length ids → id ≤ get_or ids k 0) → IsIndexed (cells ++ (cell ∷ [])) (insert ids at id)
indexed_more cells ids cell id at index is e within low high = record {
  each = All-push IsCell cells cell index.each is;
  same = rw (map-append id_of cells (cell ∷ []), e) (IsPermutation-push_more (map id_of cells) ids (insert ids at (id_of cell)) (id_of cell) index.same (IsPermutation-insert ids at (id_of cell)));
  rises = IsNonDecreasingBy-insert (λ x. x) ids at id index.rises within
      (λ k d less. omega (arith, low k less, get_or_default ids k d 0 (omega (arith, less, within))))
      (λ k d least less. omega (arith, high k least less, get_or_default ids k d 0 less));
}

pub indexed_pushed : (cells more : List Address) (ids seen longer : List ℕ) (cell : Address) (id at : ℕ) → IsIndexed cells ids → seen ≡ ids → more ≡ cells ++ (cell ∷ []) → longer ≡ insert ids at id
    → IsCell cell → id ≡ id_of cell → at ≤ length seen → ((k : ℕ) → k < at → get_or seen k 0 ≤ id) → ((k : ℕ) → at ≤ k → k < length seen → id ≤ get_or seen k 0) → IsIndexed more longer
indexed_pushed cells more ids seen longer cell id at index s m l is e within low high =
    rw (m, l)
    (indexed_more cells ids cell id at index is e (subst (λ xs. at ≤ length xs) s within) (subst (λ xs. (k : ℕ) → k < at → get_or xs k 0 ≤ id) s low)
    (subst (λ xs. (k : ℕ) → at ≤ k → k < length xs → id ≤ get_or xs k 0) s high))
