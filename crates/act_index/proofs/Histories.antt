-- Histories with one entry more, and beginnings of them.
use Rattle.std.proofs.Common.{◌≡◌, ℕ, suc, ◌+◌, ◌≤◌, List, [], ◌∷◌, ◌++◌, length, sym, refl, ap, ◌∙◌, arith, true, false, ◌==◌, if◌then◌else◌, slice_index}
use Rattle.std.proofs.lemmas.List.{take_all, take-append-le}
use Rattle.act_grid.specs.declared.Settings.{Settings}
use Rattle.act_super.specs.declared.entry.Entry.{Entry}
use Rattle.act_super.specs.declared.entry.Entry.TheVariants as entry
use Rattle.act_super.specs.declared.entry.State.{State}
use Rattle.act_super.specs.Histories.{IsLegalFrom, is_update, state_from, state_of}
use Rattle.act_super.specs.Sizes.{size_of}
use Rattle.act_super.specs.States.{IsAllowed, after, nothing}
use Rattle.act_rows.specs.History.{History}
use Rattle.act_index.specs.Codes.{IsTold, code, codes, updates_in}
use Rattle.act_index.specs.Meanings.{size_at}

pub state_more : (settings : Settings) (state : State) (es : List Entry) (e : Entry) → state_from settings state (es ++ e ∷ []) ≡ after settings (state_from settings state es) e
state_more settings state [] e = refl
state_more settings state (x ∷ xs) e = state_more settings (after settings state x) xs e

pub legal_more : (settings : Settings) (state : State) (es : List Entry) (e : Entry) → IsLegalFrom settings state es → IsAllowed settings (state_from settings state es) e → IsLegalFrom settings state (es ++ e ∷ [])
legal_more settings state [] e l a = (a, tt)
legal_more settings state (x ∷ xs) e l a = (l.0, legal_more settings (after settings state x) xs e l.1 a)

pub codes_more : (k : Settings) (es : List Entry) (e : Entry) → codes k (es ++ e ∷ []) ≡ codes k es ++ code k e ∷ []
codes_more k [] e = refl
codes_more k (x ∷ xs) e = ap (λ z. code k x ∷ z) (codes_more k xs e)

length-codes : (k : Settings) (es : List Entry) → length (codes k es) ≡ length es
length-codes k [] = refl
length-codes k (x ∷ xs) = ap suc (length-codes k xs)

pub told_length : (h : History) (k : Settings) (es : List Entry) → IsTold h k es → length h ≡ length es
told_length h k es t = ap length t.coded ∙ length-codes k es

pub told_more : (h : History) (k : Settings) (es : List Entry) (e : Entry) → IsTold h k es → IsAllowed k (state_of k es) e → IsTold (h ++ code k e ∷ []) k (es ++ e ∷ [])
told_more h k es e t a = record { coded = ap (λ z. z ++ code k e ∷ []) t.coded ∙ sym (codes_more k es e); legal = legal_more k nothing es e t.legal a }

pub size_now : (k : Settings) (es : List Entry) (n : ℕ) → length es ≤ n → size_at k es n ≡ size_of k (state_of k es)
size_now k es n h = ap (λ z. size_of k (state_of k z)) (take_all n es h)

pub size_before : (k : Settings) (es : List Entry) (e : Entry) (v : ℕ) → v ≤ length es → size_at k (es ++ e ∷ []) v ≡ size_at k es v
size_before k es e v h = ap (λ z. size_of k (state_of k z)) (take-append-le v es (e ∷ []) h)

-- the entries that aren't trainings
pub updates_more : (h : History) (x : List ℕ) → updates_in (h ++ x ∷ []) ≡ updates_in h + updates_in (x ∷ [])
updates_more [] x = omega arith
updates_more (y ∷ ys) x = let r = updates_more ys x in omega arith

pub updates_few : (h : History) → updates_in h ≤ length h
updates_few [] = omega arith
updates_few (y ∷ ys) = let r = updates_few ys in elim (slice_index y 0 == 2) as (λ b. (if b then 0 else 1) + updates_in ys ≤ suc (length ys)) [ true ↦ omega arith | false ↦ omega arith ]

pub updates_code : (k : Settings) (e : Entry) → is_update e ≡ true → updates_in (code k e ∷ []) ≡ 1
updates_code k (entry.Add key shape) u = refl
updates_code k (entry.DropZone key) u = refl
updates_code k (entry.Replace key shape) u = refl
updates_code k (entry.Train cells) u = absurd (cc)
