-- The points that are there for a sample.
use Rattle.std.proofs.Common.{◌≡◌, ◌≤◌, ◌++◌, ◌||◌, ℕ, zero, suc, Bool, true, false, List, [], ◌∷◌, length, take, refl, ap, sym, ◌∙◌, append_assoc, append-nil, arith}
use Rattle.std.specs.Prelude.{if◌then◌else◌}
use Rattle.std.specs.List.{flat_map, list_any}
use Rattle.std.proofs.lemmas.List.{length-take, take_all}
use Rattle.act_grid.specs.declared.Point.{Point}
use Rattle.act_script.specs.declared.segment.Step.{Step}
use Rattle.act_script.specs.declared.segment.Step.TheVariants as step
use Rattle.act_script.specs.declared.segment.Update.TheVariants as update
use Rattle.act_script.specs.Turns.{SamplesAreFirstPoints, has_training, left_after, most_sampled, points_after, points_from, points_in, since_training}

-- the first of two lists, where the front is cut before
pub take_front : {A : Type 0} (n : ℕ) (xs ys : List A) → take n (take n xs ++ ys) ≡ take n (xs ++ ys)
take_front zero [] ys = refl
take_front zero (x ∷ xs) ys = refl
take_front (suc n) [] ys = refl
take_front (suc n) (x ∷ xs) ys = ap (λ l. x ∷ l) (take_front n xs ys)

none_left : (steps : List Step) → left_after [] steps ≡ []
none_left [] = refl
none_left (step.Batch batch ∷ steps) = none_left steps
none_left (step.Update (update.Add key shape) ∷ steps) = none_left steps
none_left (step.Update (update.DropZone key) ∷ steps) = none_left steps
none_left (step.Update (update.Replace key shape) ∷ steps) = none_left steps
none_left (step.Update (update.Train threshold) ∷ steps) = none_left steps

-- a segment with a training leaves none of the points before it
left_is : (points : List Point) (steps : List Step) → left_after points steps ≡ (if has_training steps then [] else points)
left_is points [] = refl
left_is points (step.Batch batch ∷ steps) = left_is points steps
left_is points (step.Update (update.Add key shape) ∷ steps) = left_is points steps
left_is points (step.Update (update.DropZone key) ∷ steps) = left_is points steps
left_is points (step.Update (update.Replace key shape) ∷ steps) = left_is points steps
left_is points (step.Update (update.Train threshold) ∷ steps) = none_left steps

-- where no segment has a training, all are behind the last one
all_since : (segments : List (List Step)) → list_any has_training segments ≡ false → since_training segments ≡ segments
all_since [] none = refl
all_since (x ∷ xs) none = by (has_training x) (list_any has_training xs) none
  where
    by : (s t : Bool) → (s || t) ≡ false → (if t then since_training xs else x ∷ xs) ≡ x ∷ xs
    by false false e = refl
    by false true e = cc
    by true t e = cc

short-after : (points : List Point) (x : List Step) → length (points_after points x) ≤ most_sampled
short-after points x = omega (arith, length-take most_sampled (left_after points x ++ points_in x))

points_are : (points : List Point) (segments : List (List Step)) → length points ≤ most_sampled
    → points_from points segments ≡ take most_sampled ((if list_any has_training segments then [] else points) ++ flat_map points_in (since_training segments))
points_are points [] short = sym (take_all most_sampled points short) ∙ ap (take most_sampled) (sym (append-nil points))
points_are points (x ∷ xs) short = points_are next xs (short-after points x) ∙ by (list_any has_training xs) (all_since xs)
  where
    next : List Point
    next = points_after points x

    by : (t : Bool) → (t ≡ false → since_training xs ≡ xs)
        → take most_sampled ((if t then [] else next) ++ flat_map points_in (since_training xs))
        ≡ take most_sampled ((if has_training x || t then [] else points) ++ flat_map points_in (if t then since_training xs else x ∷ xs))
    by true all = either (has_training x)
      where
        either : (s : Bool) → take most_sampled (flat_map points_in (since_training xs)) ≡ take most_sampled ((if s || true then [] else points) ++ flat_map points_in (since_training xs))
        either true = refl
        either false = refl
    by false all =
        ap (λ (segments : List (List Step)). take most_sampled (next ++ flat_map points_in segments)) (all refl)
        ∙ take_front most_sampled (left_after points x ++ points_in x) (flat_map points_in xs)
        ∙ ap (take most_sampled) (append_assoc (left_after points x) (points_in x) (flat_map points_in xs))
        ∙ ap (λ left. take most_sampled (left ++ (points_in x ++ flat_map points_in xs))) (left_is points x ∙ either (has_training x))
      where
        either : (s : Bool) → (if s then [] else points) ≡ (if s || false then [] else points)
        either true = refl
        either false = refl

pub samples_are_first_points : SamplesAreFirstPoints
samples_are_first_points segments = points_are [] segments (omega arith) ∙ by (list_any has_training segments)
  where
    by : (t : Bool) → take most_sampled ((if t then [] else []) ++ flat_map points_in (since_training segments)) ≡ take most_sampled (flat_map points_in (since_training segments))
    by true = refl
    by false = refl
