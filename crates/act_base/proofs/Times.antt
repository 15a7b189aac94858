-- How often a list has a number.
use Rattle.std.proofs.Common.{◌≡◌, ◌≢◌, ℕ, zero, suc, ◌+◌, ◌<◌, ◌≤◌, List, [], ◌∷◌, ◌++◌, length, cond, get_or, sym, refl, ap, ◌∙◌, subst, arith, eq-eqb}
use Rattle.std.proofs.lemmas.Bool.{ne_eqb}
use mathlib.Core.Logic.{dite}
use native.Mathlib.Decide.{ℕ_discrete}
use Rattle.std.specs.Prelude.{Contains}
use Rattle.act_base.specs.Counting.{times, from}

pub times_here : (x : ℕ) (xs : List ℕ) → times (x ∷ xs) x ≡ 1 + times xs x
times_here x xs = ap (λ z. cond z 1 0 + times xs x) (eq-eqb x x refl)

pub times_else : (x r : ℕ) (xs : List ℕ) → x ≢ r → times (x ∷ xs) r ≡ times xs r
times_else x r xs ne = let h : times (x ∷ xs) r ≡ 0 + times xs r = ap (λ z. cond z 1 0 + times xs r) (ne_eqb x r ne) in omega arith

pub times_there : (x r : ℕ) (xs : List ℕ) → times xs r ≤ times (x ∷ xs) r
times_there x r xs = omega arith

pub times-append : (xs ys : List ℕ) (r : ℕ) → times (xs ++ ys) r ≡ times xs r + times ys r
times-append [] ys r = omega arith
times-append (x ∷ xs) ys r = let h = times-append xs ys r in omega arith

pub times_get : (xs : List ℕ) (i d : ℕ) → i < length xs → 0 < times xs (get_or xs i d)
times_get [] i d h = absurd (omega arith)
times_get (x ∷ xs) zero d h = let e = times_here x xs in omega arith
times_get (x ∷ xs) (suc i) d h = let e = times_get xs i d (omega arith) in omega arith

pub times_contains : (xs : List ℕ) (r : ℕ) → Contains xs r → 0 < times xs r
times_contains xs r c = subst (λ z. 0 < times xs z) c.2 (times_get xs c.0 r c.1)

-- where a row that is there stands
pub times_at : (xs : List ℕ) (r : ℕ) → 0 < times xs r → (i : ℕ) × (i < length xs) × ((d : ℕ) → get_or xs i d ≡ r)
times_at [] r h = absurd (omega arith)
times_at (x ∷ xs) r h = dite (ℕ_discrete x r) (λ e. (0, omega arith, λ d. e))
    (λ ne. let q = times_else x r xs ne in let rest : 0 < times xs r = omega arith in let t = times_at xs r rest in (suc t.0, (let q = t.1 in omega arith), t.2))

pub contains_times : (xs : List ℕ) (r : ℕ) → 0 < times xs r → Contains xs r
contains_times xs r h = let t = times_at xs r h in (t.0, t.1, t.2 r)

-- a row that is there once stands at one place
pub times_one : (xs : List ℕ) (i j d : ℕ) → ((r : ℕ) → times xs r ≤ 1) → i < length xs → j < length xs → get_or xs i d ≡ get_or xs j d → i ≡ j
times_one [] i j d one h g e = absurd (omega arith)
times_one (x ∷ xs) zero zero d one h g e = refl
times_one (x ∷ xs) zero (suc j) d one h g e = let a = times_here x xs in let b = times_get xs j d (omega arith) in let b' : 0 < times xs x = subst (λ z. 0 < times xs z) (sym e) b in let c = one x in absurd (omega arith)
times_one (x ∷ xs) (suc i) zero d one h g e = let a = times_here x xs in let b = times_get xs i d (omega arith) in let b' : 0 < times xs x = subst (λ z. 0 < times xs z) e b in let c = one x in absurd (omega arith)
times_one (x ∷ xs) (suc i) (suc j) d one h g e = ap suc (times_one xs i j d (λ r. let a = one r in omega arith) (omega arith) (omega arith) e)

-- the numbers from a on
pub from_more : (a n : ℕ) → from a n ++ (a + n) ∷ [] ≡ from a (suc n)
from_more a zero = let e : a + 0 ≡ a = omega arith in ap (λ z. z ∷ []) e
from_more a (suc n) = let e : a + suc n ≡ (a + 1) + n = omega arith in ap (λ z. a ∷ (from (a + 1) n ++ z ∷ [])) e ∙ ap (λ z. a ∷ z) (from_more (a + 1) n)

pub length-from : (a n : ℕ) → length (from a n) ≡ n
length-from a zero = refl
length-from a (suc n) = ap suc (length-from (a + 1) n)

from_low : (a n x : ℕ) → x < a → times (from a n) x ≡ 0
from_low a zero x h = refl
from_low a (suc n) x h = let ne : a ≢ x = omega arith in let e = times_else a x (from (a + 1) n) ne in let r = from_low (a + 1) n x (omega arith) in omega arith

pub from_once : (a n x : ℕ) → times (from a n) x ≤ 1
from_once a zero x = omega arith
from_once a (suc n) x = dite (ℕ_discrete a x)
    (λ e. let h = times_here a (from (a + 1) n) in let l = from_low (a + 1) n a (omega arith) in let g : times (from a (suc n)) x ≡ 1 = subst (λ z. times (from a (suc n)) z ≡ 1) e (omega arith) in omega arith)
    (λ ne. let e = times_else a x (from (a + 1) n) ne in let r = from_once (a + 1) n x in omega arith)

pub from_ranged : (a n x : ℕ) → 0 < times (from a n) x → (a ≤ x) × (x < a + n)
from_ranged a zero x h = absurd (omega arith)
from_ranged a (suc n) x h = dite (ℕ_discrete a x)
    (λ e. (omega arith, omega arith))
    (λ ne. let e = times_else a x (from (a + 1) n) ne in let r = from_ranged (a + 1) n x (omega arith) in let p = r.0 in let q = r.1 in (omega arith, omega arith))
