-- The spare shares over a step, and the longer history.
use Rattle.std.proofs.Common.{◌≡◌, ◌≢◌, ℕ, ◌<◌, ◌≤◌, Bool, true, false, List, length, set, replicate, zero, suc, sym, refl, ap, ◌∙◌, ⊎_elim, arith, Option, Some, None, length-set}
use lib.ListN.{length-replicate}
use mathlib.Core.Bool.{cond}
use mathlib.Core.Option.{some}
use lib.ListN.{get_elem?}
use lib.Dec.{ltb}
use borrow.Author.Tests.{ltb-true, ltb-false}
use Rattle.atomic_table.specs.Seated.{TableId}
use Rattle.atomic_table.proofs.Lists.{at_set, set_here, set_else}
use Rattle.act_rows.specs.History.{History, longer}
use Rattle.act_rows.specs.Tokens.{Spares}
use Rattle.act_rows.proofs.Lists.{within}

module _ (sp : List (Option TableId)) (bs : List (Option ℕ)) (z : TableId) (h : Spares sp bs z) where
  pub spares_lent : (j c : ℕ) → Spares sp (set bs j (Some c)) z
  spares_lent j c = record {
    as_many = h.as_many ∙ sym (length-set bs j (Some c));
    free = λ i e. ⊎_elim (λ (t : (i ≡ j) × (Some c ≡ None)). absurd (let q = t.1 in cc)) (λ (t : (i ≢ j) × (get_elem? bs i ≡ some None)). h.free i t.1) (at_set bs j i (Some c) None e);
  }

  pub spares_taken : (j c : ℕ) → Spares (set sp j None) (set bs j (Some c)) z
  spares_taken j c = record {
    as_many = length-set sp j None ∙ (h.as_many ∙ sym (length-set bs j (Some c)));
    free = λ i e. ⊎_elim (λ (t : (i ≡ j) × (Some c ≡ None)). absurd (let q = t.1 in cc)) (λ (t : (i ≢ j) × (get_elem? bs i ≡ some None)). set_else sp j i None t.0 ∙ h.free i t.1) (at_set bs j i (Some c) None e);
  }

  pub spares_back : (j : ℕ) → j < length bs → Spares (set sp j (Some z)) (set bs j None) z
  spares_back j low = record {
    as_many = length-set sp j (Some z) ∙ (h.as_many ∙ sym (length-set bs j None));
    free = λ i e. ⊎_elim (λ (t : (i ≡ j) × (None ≡ None)). ap (λ y. get_elem? (set sp j (Some z)) y) t.0 ∙ set_here sp j (Some z) (let q = h.as_many in omega arith))
        (λ (t : (i ≢ j) × (get_elem? bs i ≡ some None)). set_else sp j i (Some z) t.0 ∙ h.free i t.1) (at_set bs j i None None e);
  }

at_replicate : {A : Type 0} (n j : ℕ) (a : A) → j < n → get_elem? (replicate n a) j ≡ some a
at_replicate zero j a h = absurd (omega arith)
at_replicate (suc n) zero a h = refl
at_replicate (suc n) (suc j) a h = at_replicate n j a (omega arith)

pub spares_first : (n : ℕ) (z : TableId) → Spares (replicate n (Some z)) (replicate n None) z
spares_first n z = record {
  as_many = length-replicate n (Some z) ∙ sym (length-replicate n None);
  free = λ j e. let a = within (replicate n None) j None e in let b = length-replicate {A = Option ℕ} n None in at_replicate n j (Some z) (omega arith);
}

pub longer_second : (xs ys : History) → length xs < length ys → longer xs ys ≡ ys
longer_second xs ys h = go (ltb (length xs) (length ys)) refl
  where
    go : (b : Bool) → ltb (length xs) (length ys) ≡ b → cond b ys xs ≡ ys
    go true e = refl
    go false e = let g : length ys ≤ length xs = ltb-false _ _ e in absurd (omega arith)

pub longer_first : (xs ys : History) → length ys ≤ length xs → longer xs ys ≡ xs
longer_first xs ys h = go (ltb (length xs) (length ys)) refl
  where
    go : (b : Bool) → ltb (length xs) (length ys) ≡ b → cond b ys xs ≡ xs
    go true e = let g : length xs < length ys = ltb-true _ _ e in absurd (omega arith)
    go false e = refl
