-- The pool stays tidy, and has room for a row that is in use.
use Rattle.std.proofs.Common.{◌≡◌, ℕ, ◌+◌, ◌<◌, ◌≤◌, List, [], ◌∷◌, ◌++◌, length, ap, ◌∙◌, subst, arith, length-append}
use mathlib.Core.Logic.{dite}
use native.Mathlib.Decide.{ℕ_discrete}
use Rattle.act_base.specs.Counting.{times}
use Rattle.act_base.proofs.Times.{times_here, times_else, times-append}
use Rattle.act_base.proofs.Span.{span_length, span_at_most, span_short}
use Rattle.act_pool.specs.Retired.{rows_of, placed}
use Rattle.act_pool.specs.Pooled.{Pooled, IsTidy, IsUsed}
use Rattle.act_pool.proofs.Waiting.{length-rows_of, times_placed, ordered_placed}

-- a pool with a row in use has room
pub room : (p : Pooled) (r : ℕ) → IsTidy p → IsUsed p r → length p.free + length p.retired < p.rows
room p r t u =
    let all : List ℕ = p.free ++ rows_of p.retired in
    let both : (x : ℕ) → times all x ≡ times p.free x + times (rows_of p.retired) x = times-append p.free (rows_of p.retired) in
    let len = length-append p.free (rows_of p.retired) in
    let len2 = length-rows_of p.retired in
    let whole = span_length all 1 p.rows (λ x h. let q = t.ranged x (let b = both x in omega arith) in let a = q.0 in let b = q.1 in (omega arith, omega arith)) in
    let above = u.above in
    let below = u.below in
    let less = span_short (times all) 1 p.rows r (λ i. let a = t.once i in let b = both i in omega arith) (omega arith) (omega arith) (let a = u.not_free in let b = u.not_retired in let c = both r in omega arith) in
    omega arith

-- the free and the retired rows are no more than all rows
pub tidy_room : (p : Pooled) → IsTidy p → length p.free + length p.retired ≤ p.rows
tidy_room p t =
    let all : List ℕ = p.free ++ rows_of p.retired in
    let both : (x : ℕ) → times all x ≡ times p.free x + times (rows_of p.retired) x = times-append p.free (rows_of p.retired) in
    let len = length-append p.free (rows_of p.retired) in
    let len2 = length-rows_of p.retired in
    let whole = span_length all 1 p.rows (λ x h. let q = t.ranged x (let b = both x in omega arith) in let a = q.0 in let b = q.1 in (omega arith, omega arith)) in
    let most = span_at_most (times all) 1 p.rows (λ i. let a = t.once i in let b = both i in omega arith) in
    omega arith

pub tidy_retired : (p : Pooled) (r w : ℕ) → IsTidy p → IsUsed p r → IsTidy (record p { retired = placed r w p.retired })
tidy_retired p r w t u =
    let both : (x : ℕ) → times (rows_of (placed r w p.retired)) x ≡ times (r ∷ []) x + times (rows_of p.retired) x = times_placed r w p.retired in
    record {
      once = λ x. let b = both x in let o = t.once x in dite (ℕ_discrete r x)
          (λ e. let h = times_here r [] in let h' : times (r ∷ []) x ≡ 1 = subst (λ z. times (r ∷ []) z ≡ 1) e (omega arith) in let nf : times p.free x ≡ 0 = subst (λ z. times p.free z ≡ 0) e u.not_free in let nr : times (rows_of p.retired) x ≡ 0 = subst (λ z. times (rows_of p.retired) z ≡ 0) e u.not_retired in omega arith)
          (λ ne. let h = times_else r x [] ne in omega arith);
      ranged = λ x g. let b = both x in dite (ℕ_discrete r x)
          (λ e. let a = u.above in let c = u.below in (omega arith, omega arith))
          (λ ne. let h = times_else r x [] ne in t.ranged x (omega arith));
      ordered = ordered_placed r w p.retired t.ordered;
    }

-- the first retired row becomes free
pub tidy_popped : (rows : ℕ) (free : List ℕ) (x : ℕ × ℕ) (xs : List (ℕ × ℕ)) → IsTidy (record { rows = rows; free = free; retired = x ∷ xs }) → IsTidy (record { rows = rows; free = free ++ x.0 ∷ []; retired = xs })
tidy_popped rows free x xs t =
    let both : (r : ℕ) → times (free ++ x.0 ∷ []) r + times (rows_of xs) r ≡ times free r + times (rows_of (x ∷ xs)) r = λ r. let a = times-append free (x.0 ∷ []) r in omega arith in
    record {
      once = λ r. let a = both r in let o = t.once r in omega arith;
      ranged = λ r g. let a = both r in t.ranged r (omega arith);
      ordered = t.ordered.1;
    }

pub tidy_taken : (p : Pooled) (free out : List ℕ) → IsTidy p → p.free ≡ free ++ out → IsTidy (record p { free = free })
tidy_taken p free out t e =
    let both : (x : ℕ) → times p.free x ≡ times free x + times out x = λ x. ap (λ z. times z x) e ∙ times-append free out x in
    record {
      once = λ x. let a = both x in let o = t.once x in omega arith;
      ranged = λ x g. let a = both x in t.ranged x (omega arith);
      ordered = t.ordered;
    }
