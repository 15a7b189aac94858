-- How items are grouped into batches and segments.
use Rattle.std.specs.Prelude.{◌+◌, ◌≤◌, ◌==◌, ◌||◌, ◌++◌, ◌≡◌, ℕ, Bool, true, false, List, [], ◌∷◌, Option, Some, None, count_by, if◌then◌else◌, length, nat_le, sum_by}
use Rattle.std.specs.Option.{option_to_list}
use Rattle.std.specs.List.{AllByRecursion}
use Rattle.act_grid.specs.declared.Layers.{Layers}
use Rattle.act_grid.specs.declared.Point.{Point}
use Rattle.act_grid.specs.Layers.{all_layers}
use Rattle.act_geom.specs.Rings.{vertices_of}
use Rattle.act_script.specs.declared.item.Item.{Item}
use Rattle.act_script.specs.declared.item.Item.TheVariants as item
use Rattle.act_script.specs.declared.segment.Step.{Step}
use Rattle.act_script.specs.declared.segment.Step.TheVariants as step
use Rattle.act_script.specs.declared.segment.Update.{Update}
use Rattle.act_script.specs.declared.segment.Update.TheVariants as update
use Rattle.act_script.specs.declared.pending.TheConstants.{MOST_BATCHES, MOST_POINTS, MOST_UPDATES, FULL_VERTICES}

-- what is not yet in a segment that is closed: the steps of the segment at hand, the points since the last batch with
-- their ids, the set of the last record of layers, and how many batches the script had so far
pub record Pending : Type 0 where
  pub steps : List Step
  pub ids : List ℕ
  pub points : List Point
  pub layers : Layers
  pub number : ℕ

-- before the first item
abbrev pub nothing_pending : Pending
nothing_pending = record { steps = []; ids = []; points = []; layers = all_layers; number = 0 }

-- what the steps of a segment are
abbrev pub is_batch : Step → Bool
is_batch (step.Batch batch) = true
is_batch (step.Update change) = false

abbrev pub is_update : Step → Bool
is_update (step.Batch batch) = false
is_update (step.Update change) = true

abbrev pub update_vertices : Update → ℕ
update_vertices (update.Add key shape) = vertices_of shape
update_vertices (update.DropZone key) = 0
update_vertices (update.Replace key shape) = vertices_of shape
update_vertices (update.Train threshold) = 0

abbrev pub step_vertices : Step → ℕ
step_vertices (step.Batch batch) = 0
step_vertices (step.Update change) = update_vertices change

abbrev pub batches_in : List Step → ℕ
batches_in steps = count_by is_batch steps

abbrev pub updates_in : List Step → ℕ
updates_in steps = count_by is_update steps

abbrev pub vertices_in : List Step → ℕ
vertices_in steps = sum_by step_vertices steps

-- the points since the last batch are a batch, where there are any
abbrev pub with_batch : Pending → Pending
with_batch p =
    if length p.points == 0 then p
    else record p {
      steps = p.steps ++ step.Batch (record { number = p.number + 1; ids = p.ids; points = p.points; layers = p.layers }) ∷ [];
      ids = [];
      points = [];
      number = p.number + 1;
    }

-- the greatest batch is full
abbrev pub cut_batch : Pending → Pending
cut_batch p = if nat_le MOST_POINTS (length p.points) then with_batch p else p

abbrev pub with_point : Pending → ℕ → Point → Pending
with_point p id point = record p { ids = p.ids ++ id ∷ []; points = p.points ++ point ∷ [] }

abbrev pub with_update : Pending → Update → Pending
with_update p change = record p { steps = p.steps ++ step.Update change ∷ [] }

-- with one item more, where no segment is closed by it
abbrev pub with_item : Pending → Item → Pending
with_item p (item.At id point) = cut_batch (with_point p id point)
with_item p (item.Zone key shape) = with_update p (update.Add key shape)
with_item p (item.DropZone key) = with_update p (update.DropZone key)
with_item p (item.Replace key shape) = with_update p (update.Replace key shape)
with_item p (item.Train threshold) = with_update p (update.Train threshold)
with_item p item.Batch = with_batch p
with_item p (item.Layers set) = record (with_batch p) { layers = set }
with_item p item.Sync = p

-- the segment at hand has as many batches, updates or vertices as a segment may have
abbrev pub is_full : Pending → Bool
is_full p =
    nat_le MOST_BATCHES (batches_in p.steps) || nat_le MOST_UPDATES (updates_in p.steps) || nat_le FULL_VERTICES (vertices_in p.steps)

abbrev pub is_sync : Item → Bool
is_sync item.Sync = true
is_sync (item.At id point) = false
is_sync (item.Zone key shape) = false
is_sync (item.DropZone key) = false
is_sync (item.Replace key shape) = false
is_sync (item.Train threshold) = false
is_sync item.Batch = false
is_sync (item.Layers set) = false

-- an item closes the segment at hand
abbrev pub closes : Pending → Item → Bool
closes p item = is_sync item || is_full (with_item p item)

-- a segment has at least one step
abbrev pub segment_of : List Step → Option (List Step)
segment_of [] = None
segment_of (first ∷ steps) = Some (first ∷ steps)

-- the segment at hand, closed: the points since the last batch are its last batch
abbrev pub closed_segment : Pending → Option (List Step)
closed_segment p = segment_of (with_batch p).steps

abbrev pub after_segment : Pending → Pending
after_segment p = record (with_batch p) { steps = [] }

-- the segment that an item closes, and what is pending after it
abbrev pub given_by : Pending → Item → Option (List Step)
given_by p item = if closes p item then closed_segment (with_item p item) else None

abbrev pub pending_by : Pending → Item → Pending
pending_by p item = if closes p item then after_segment (with_item p item) else with_item p item

-- the segments that items close, and those that they are with their end
abbrev pub closed_segments : Pending → List Item → List (List Step)
closed_segments p [] = []
closed_segments p (item ∷ items) = option_to_list (given_by p item) ++ closed_segments (pending_by p item) items

abbrev pub segments_from : Pending → List Item → List (List Step)
segments_from p [] = option_to_list (closed_segment p)
segments_from p (item ∷ items) = option_to_list (given_by p item) ++ segments_from (pending_by p item) items

-- the threshold of a training is above 0
abbrev pub HasThreshold : Update → Type 0
HasThreshold (update.Add key shape) = Unit {0}
HasThreshold (update.DropZone key) = Unit {0}
HasThreshold (update.Replace key shape) = Unit {0}
HasThreshold (update.Train threshold) = 1 ≤ threshold

-- the same of an item, and of the updates among steps
abbrev pub ItemHasThreshold : Item → Type 0
ItemHasThreshold (item.Train threshold) = HasThreshold (update.Train threshold)
ItemHasThreshold (item.At id point) = Unit {0}
ItemHasThreshold (item.Zone key shape) = Unit {0}
ItemHasThreshold (item.DropZone key) = Unit {0}
ItemHasThreshold (item.Replace key shape) = Unit {0}
ItemHasThreshold item.Batch = Unit {0}
ItemHasThreshold (item.Layers set) = Unit {0}
ItemHasThreshold item.Sync = Unit {0}

abbrev pub StepHasThreshold : Step → Type 0
StepHasThreshold (step.Batch batch) = Unit {0}
StepHasThreshold (step.Update change) = HasThreshold change

abbrev pub HaveThresholds : List Step → Type 0
HaveThresholds = AllByRecursion StepHasThreshold

-- nothing is held of the items so far
pub record HoldsNothing (p : Pending) : Type 0 where
  pub steps : p.steps ≡ []
  pub ids : p.ids ≡ []
  pub points : p.points ≡ []
