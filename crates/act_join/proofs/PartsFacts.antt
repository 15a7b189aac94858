-- The updates and the batches among steps.
use Rattle.std.proofs.Common.{◌≡◌, ℕ, ◌<◌, Bool, List, [], ◌∷◌, ◌++◌, true, false, length, refl, arith, ap, sym, ◌∙◌, append_assoc, subst, Result, Ok, Err}
use Rattle.std.specs.Prelude.{◌==◌, OnOk}
use Rattle.std.proofs.lemmas.Bool.{eqb-true}
use Rattle.std.specs.List.{AllByRecursion}
use Rattle.act_script.specs.Segments.{HasThreshold, HaveThresholds}
use Rattle.act_script.specs.declared.segment.Batch.{Batch}
use Rattle.act_script.specs.declared.segment.Step.{Step}
use Rattle.act_script.specs.declared.segment.Step.TheVariants as step
use Rattle.act_script.specs.declared.segment.Update.{Update}
use Rattle.act_join.specs.Working.{batches_among, updates_among}

pub nothing_left : {A : Type 0} (xs : List A) (n : ℕ) → n ≡ length xs → (0 < n → false ≡ true) → xs ≡ []
nothing_left [] n same none = refl
nothing_left (x ∷ xs) n same none = let bad : false ≡ true = none (omega (arith, same)) in cc

pub none_there : {A : Type 0} (xs : List A) (n : ℕ) (empty : Bool) → n ≡ length xs → empty ≡ (n == 0) → empty ≡ true → xs ≡ []
none_there [] n empty same is so = refl
none_there (x ∷ xs) n empty same is so = let zero : n ≡ 0 = eqb-true n 0 (sym is ∙ so) in absurd (omega (arith, zero, same))

pub updates_step : (front : List Update) (x : Step) (xs : List Step) → (front ++ updates_among (x ∷ [])) ++ updates_among xs ≡ front ++ updates_among (x ∷ xs)
updates_step front (step.Update asked) xs = append_assoc front (asked ∷ []) (updates_among xs)
updates_step front (step.Batch batch) xs = append_assoc front [] (updates_among xs)

pub batches_step : (front : List Batch) (x : Step) (xs : List Step) → (front ++ batches_among (x ∷ [])) ++ batches_among xs ≡ front ++ batches_among (x ∷ xs)
batches_step front (step.Update asked) xs = append_assoc front [] (batches_among xs)
batches_step front (step.Batch batch) xs = append_assoc front (batch ∷ []) (batches_among xs)

pub thresholds_among : (xs : List Step) → HaveThresholds xs → AllByRecursion HasThreshold (updates_among xs)
thresholds_among [] h = tt
thresholds_among (step.Update asked ∷ xs) h = (h.0, thresholds_among xs h.1)
thresholds_among (step.Batch batch ∷ xs) h = thresholds_among xs h.1

-- the updates that wait have them, where none waited before
pub thresholds_taken : {A E : Type 0} (r : Result A E) (old new : List Update) (xs : List Step) → old ≡ [] → OnOk r (new ≡ old ++ updates_among xs) → HaveThresholds xs
    → OnOk r (AllByRecursion HasThreshold new)
thresholds_taken (Ok x) old new xs none all h =
    subst (AllByRecursion HasThreshold) (sym (all ∙ ap (λ (z : List Update). z ++ updates_among xs) none)) (thresholds_among xs h)
thresholds_taken (Err e) old new xs none all h = tt
