-- Steps with the samples of their trainings.
use Rattle.std.specs.Prelude.{◌≡◌, ◌++◌, ℕ, Bool, true, false, List, [], ◌∷◌, if◌then◌else◌, take}
use Rattle.std.specs.List.{flat_map, list_any}
use Rattle.act_grid.specs.declared.Point.{Point}
use Rattle.act_script.specs.declared.segment.Batch.{Batch}
use Rattle.act_script.specs.declared.segment.Step.{Step}
use Rattle.act_script.specs.declared.segment.Step.TheVariants as step
use Rattle.act_script.specs.declared.segment.Update.{Update}
use Rattle.act_script.specs.declared.segment.Update.TheVariants as update

-- how many points a sample may have
abbrev pub most_sampled : ℕ
most_sampled = 65536

-- the points of the batches among steps
abbrev pub step_points : Step → List Point
step_points (step.Batch batch) = batch.points
step_points (step.Update asked) = []

abbrev pub points_in : List Step → List Point
points_in steps = flat_map step_points steps

-- what an update leaves of the points that are there for a sample: a training takes all
abbrev pub left_by_update : List Point → Update → List Point
left_by_update points (update.Add key shape) = points
left_by_update points (update.DropZone key) = points
left_by_update points (update.Replace key shape) = points
left_by_update points (update.Train threshold) = []

abbrev pub left_by : List Point → Step → List Point
left_by points (step.Update asked) = left_by_update points asked
left_by points (step.Batch batch) = points

abbrev pub left_after : List Point → List Step → List Point
left_after points [] = points
left_after points (first ∷ steps) = left_after (left_by points first) steps

-- the points that are there for a sample after a segment: those that no training of it took, and behind them those of its
-- batches, which no training of it may take
abbrev pub points_after : List Point → List Step → List Point
points_after points steps = take most_sampled (left_after points steps ++ points_in steps)

-- a step in its turn: an update with the sample that a training has there, or a batch
pub data Turn : Type 0 where
  Asks : List Point → Update → Turn
  Joins : Batch → Turn

abbrev pub turn_of : List Point → Step → Turn
turn_of points (step.Update asked) = Asks points asked
turn_of points (step.Batch batch) = Joins batch

-- the turns of a segment's steps, where these points are there for a sample
abbrev pub turns_of : List Point → List Step → List Turn
turns_of points [] = []
turns_of points (first ∷ steps) = turn_of points first ∷ turns_of (left_by points first) steps

-- those of segments that are run one after another
abbrev pub turns_from : List Point → List (List Step) → List Turn
turns_from points [] = []
turns_from points (segment ∷ segments) = turns_of points segment ++ turns_from (points_after points segment) segments

abbrev pub points_from : List Point → List (List Step) → List Point
points_from points [] = points
points_from points (segment ∷ segments) = points_from (points_after points segment) segments

-- the segments from the last one with a training on, or all where no segment has one
abbrev pub update_trains : Update → Bool
update_trains (update.Add key shape) = false
update_trains (update.DropZone key) = false
update_trains (update.Replace key shape) = false
update_trains (update.Train threshold) = true

abbrev pub step_trains : Step → Bool
step_trains (step.Update asked) = update_trains asked
step_trains (step.Batch batch) = false

abbrev pub has_training : List Step → Bool
has_training steps = list_any step_trains steps

abbrev pub since_training : List (List Step) → List (List Step)
since_training [] = []
since_training (segment ∷ segments) = if list_any has_training segments then since_training segments else segment ∷ segments

-- the points that are there for a sample after segments are the first of all points of their batches, from the segment of
-- the last training on
abbrev pub SamplesAreFirstPoints : Type 0
SamplesAreFirstPoints = (segments : List (List Step)) → points_from [] segments ≡ take most_sampled (flat_map points_in (since_training segments))
