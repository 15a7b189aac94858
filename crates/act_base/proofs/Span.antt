-- Sums over a range of numbers.
use Rattle.std.proofs.Common.{◌≡◌, ◌≢◌, ℕ, zero, suc, ◌+◌, ◌<◌, ◌≤◌, List, [], ◌∷◌, length, Bool, eqb, cond, sym, refl, ap, ◌∙◌, arith, eq-eqb}
use Rattle.std.proofs.lemmas.Bool.{ne_eqb}
use mathlib.Core.Logic.{dite}
use native.Mathlib.Decide.{ℕ_discrete}
use Rattle.act_base.specs.Counting.{times, span}
use Rattle.act_base.proofs.Times.{times_here, times_there}

pub span_zero : (b k : ℕ) → span (λ i. 0) b k ≡ 0
span_zero b zero = refl
span_zero b (suc k) = let h = span_zero b k in omega arith

pub span_add : (f g : ℕ → ℕ) (b k : ℕ) → span (λ i. f i + g i) b k ≡ span f b k + span g b k
span_add f g b zero = refl
span_add f g b (suc k) = let h = span_add f g b k in omega arith

pub span_le : (f g : ℕ → ℕ) (b k : ℕ) → ((i : ℕ) → b ≤ i → i < b + k → f i ≤ g i) → span f b k ≤ span g b k
span_le f g b zero h = omega arith
span_le f g b (suc k) h = let a = span_le f g b k (λ i p q. h i p (omega arith)) in let c = h (b + k) (omega arith) (omega arith) in omega arith

span_none : (x b k : ℕ) → b + k ≤ x → span (λ i. cond (eqb x i) 1 0) b k ≡ 0
span_none x b zero h = refl
span_none x b (suc k) h = let a = span_none x b k (omega arith) in let ne : x ≢ b + k = omega arith in let c : ◌≡◌ {A = ℕ} (cond (eqb x (b + k)) 1 0) 0 = ap (λ (z : Bool). let n : ℕ = cond z 1 0 in n) (ne_eqb x (b + k) ne) in omega arith

span_one : (x b k : ℕ) → b ≤ x → x < b + k → span (λ i. cond (eqb x i) 1 0) b k ≡ 1
span_one x b zero h g = absurd (omega arith)
span_one x b (suc k) h g = dite (ℕ_discrete x (b + k))
    (λ e. let a = span_none x b k (omega arith) in let c : ◌≡◌ {A = ℕ} (cond (eqb x (b + k)) 1 0) 1 = ap (λ (z : Bool). let n : ℕ = cond z 1 0 in n) (eq-eqb x (b + k) e) in omega arith)
    (λ ne. let a = span_one x b k h (omega arith) in let c : ◌≡◌ {A = ℕ} (cond (eqb x (b + k)) 1 0) 0 = ap (λ (z : Bool). let n : ℕ = cond z 1 0 in n) (ne_eqb x (b + k) ne) in omega arith)

-- the length of a list of numbers from b on, below b + k, is the sum of how often it has each
pub span_length : (l : List ℕ) (b k : ℕ) → ((x : ℕ) → 0 < times l x → (b ≤ x) × (x < b + k)) → length l ≡ span (times l) b k
span_length [] b k h = sym (span_zero b k)
span_length (x ∷ xs) b k h =
    let r = span_length xs b k (λ y p. h y (let q = times_there x y xs in omega arith)) in
    let here = h x (let q = times_here x xs in omega arith) in
    let one = span_one x b k here.0 here.1 in
    let sum = span_add (λ i. cond (eqb x i) 1 0) (times xs) b k in
    omega arith

pub span_at_most : (f : ℕ → ℕ) (b k : ℕ) → ((i : ℕ) → f i ≤ 1) → span f b k ≤ k
span_at_most f b zero h = omega arith
span_at_most f b (suc k) h = let a = span_at_most f b k h in let c = h (b + k) in omega arith

pub span_short : (f : ℕ → ℕ) (b k r : ℕ) → ((i : ℕ) → f i ≤ 1) → b ≤ r → r < b + k → f r ≡ 0 → span f b k < k
span_short f b zero r h p q e = absurd (omega arith)
span_short f b (suc k) r h p q e = dite (ℕ_discrete r (b + k))
    (λ s. let a = span_at_most f b k h in let c : f (b + k) ≡ 0 = ap f (sym s) ∙ e in omega arith)
    (λ ne. let a = span_short f b k r h p (omega arith) e in let c = h (b + k) in omega arith)
