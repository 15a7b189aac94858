-- Lists by `get_elem?`, and beginnings of histories.
use Rattle.std.proofs.Common.{◌≡◌, ◌⊎◌, ℕ, zero, suc, ◌<◌, ◌≤◌, List, [], ◌∷◌, ◌++◌, length, take, get_or, replicate, sym, refl, ap, ◌∙◌, inl, inr, ⊎_elim, arith, length-append}
use Rattle.std.proofs.lemmas.List.{take-append-le, take_all}
use mathlib.Core.Option.{some, some-injective, some-ne-none}
use lib.ListN.{get_elem?}
use Rattle.act_rows.specs.History.{History, Begins}

module _ {A : Type 0} where
  -- the element at a place of a list with one more
  pub at_more : (l : List A) (a b : A) (j : ℕ) → get_elem? (l ++ a ∷ []) j ≡ some b → ((j < length l) × (get_elem? l j ≡ some b)) ⊎ ((j ≡ length l) × (a ≡ b))
  at_more [] a b zero e = inr (refl, some-injective a b e)
  at_more [] a b (suc j) e = absurd (some-ne-none b (sym e))
  at_more (x ∷ xs) a b zero e = inl (omega arith, e)
  at_more (x ∷ xs) a b (suc j) e = ⊎_elim (λ (t : (j < length xs) × (get_elem? xs j ≡ some b)). inl (omega arith, t.1)) (λ (t : (j ≡ length xs) × (a ≡ b)). inr (ap suc t.0, t.1)) (at_more xs a b j e)

  pub within : (l : List A) (j : ℕ) (b : A) → get_elem? l j ≡ some b → j < length l
  within [] j b e = absurd (some-ne-none b (sym e))
  within (x ∷ xs) zero b e = omega arith
  within (x ∷ xs) (suc j) b e = let h : j < length xs = within xs j b e in omega arith

  pub there : (l : List A) (j : ℕ) → j < length l → (b : A) × (get_elem? l j ≡ some b)
  there [] j h = absurd (omega arith)
  there (x ∷ xs) zero h = (x, refl)
  there (x ∷ xs) (suc j) h = there xs j (omega arith)

  pub at_get : (l : List A) (i : ℕ) (a d : A) → i < length l → get_or l i d ≡ a → get_elem? l i ≡ some a
  at_get [] i a d h e = absurd (omega arith)
  at_get (x ∷ xs) zero a d h e = ap some e
  at_get (x ∷ xs) (suc i) a d h e = at_get xs i a d (omega arith) e

  pub get_at : (l : List A) (i : ℕ) (a d : A) → get_elem? l i ≡ some a → get_or l i d ≡ a
  get_at [] i a d e = absurd (some-ne-none a (sym e))
  get_at (x ∷ xs) zero a d e = some-injective x a e
  get_at (x ∷ xs) (suc i) a d e = get_at xs i a d e

  pub replicate_more : (n : ℕ) (a : A) → replicate n a ++ a ∷ [] ≡ replicate (suc n) a
  replicate_more zero a = refl
  replicate_more (suc n) a = ap (λ z. a ∷ z) (replicate_more n a)

  pub take-take : (i j : ℕ) (l : List A) → i ≤ j → take i (take j l) ≡ take i l
  take-take zero j l h = refl
  take-take (suc i) zero l h = absurd (omega arith)
  take-take (suc i) (suc j) [] h = refl
  take-take (suc i) (suc j) (x ∷ xs) h = ap (λ z. x ∷ z) (take-take i j xs (omega arith))

pub begins_self : (xs : History) → Begins xs xs
begins_self xs = record { short = omega arith; same = sym (take_all (length xs) xs (omega arith)) }

pub begins_nothing : (xs : History) → Begins [] xs
begins_nothing xs = record { short = omega arith; same = refl }

pub begins_more : (xs ys zs : History) → Begins xs ys → Begins xs (ys ++ zs)
begins_more xs ys zs b = record { short = let h : length xs ≤ length ys = b.short in omega (arith, length-append ys zs); same = b.same ∙ sym (take-append-le (length xs) ys zs b.short) }

pub begins_same : (xs ys zs : History) → Begins xs zs → Begins ys zs → length xs ≤ length ys → Begins xs ys
begins_same xs ys zs a b h = record { short = h; same = a.same ∙ (sym (take-take (length xs) (length ys) zs h) ∙ ap (take (length xs)) (sym b.same)) }
