-- No segment of the demo has both updates and batches.
use Rattle.std.proofs.Common.{◌≡◌, ◌+◌, ◌*◌, ◌/◌, ◌%◌, ◌++◌, ◌⊎◌, ℕ, Bool, true, false, List, [], ◌∷◌, Option, Some, None, length, map, nat_le, refl, subst, sym, append-nil, arith, suc, ◌==◌, ◌≢◌, inl, inr}
use Rattle.std.proofs.lemmas.Bool.{ne_eqb}
use Rattle.std.specs.Prelude.{if◌then◌else◌}
use Rattle.std.specs.List.{AllByRecursion, range_with_len}
use Rattle.std.specs.Option.{option_to_list}
use Rattle.act_grid.specs.declared.Layers.{Layers}
use Rattle.act_grid.specs.declared.Point.{Point}
use Rattle.act_script.specs.Segments.{Pending, after_segment, closed_segment, cut_batch, is_batch, is_full, is_update, nothing_pending, segment_of, segments_from, with_batch, with_point, with_update}
use Rattle.act_script.specs.declared.item.Item.{Item}
use Rattle.act_script.specs.declared.item.Item.TheVariants as item
use Rattle.act_script.specs.declared.pending.TheConstants.{MOST_POINTS}
use Rattle.act_script.specs.declared.segment.Step.{Step}
use Rattle.act_script.specs.declared.segment.Step.TheVariants as step
use Rattle.act_script.specs.declared.segment.Update.{Update}
use Rattle.act_script.specs.declared.segment.Update.TheVariants as update
use Rattle.actjoin.specs.Demo.{at, demo_items, drop_item, drops, point_item, points, square, zone_item}
use Rattle.actjoin.specs.Showing.{AreApart, AreBatches, AreUpdates, IsApart}

-- ---- lists

pub all_more : {X : Type 0} (P : X → Type 0) (xs ys : List X) → AllByRecursion P xs → AllByRecursion P ys → AllByRecursion P (xs ++ ys)
all_more P [] ys h k = k
all_more P (x ∷ xs) ys h k = (h.0, all_more P xs ys h.1 k)

pub all_split : {X : Type 0} (P : X → Type 0) (xs ys : List X) → AllByRecursion P (xs ++ ys) → AllByRecursion P xs × AllByRecursion P ys
all_split P [] ys h = (tt, h)
all_split P (x ∷ xs) ys h = let rest = all_split P xs ys h.1 in ((h.0, rest.0), rest.1)

-- ---- what is pending

-- only updates are pending, or only batches and points
abbrev IsUpdating : Pending → Type 0
IsUpdating p = AreUpdates p.steps × (p.points ≡ [])

abbrev IsBatching : Pending → Type 0
IsBatching p = AreBatches p.steps

-- nothing is
abbrev IsFresh : Pending → Type 0
IsFresh p = (p.steps ≡ []) × (p.points ≡ [])

segment_apart : (steps : List Step) → IsApart steps → AreApart (option_to_list (segment_of steps))
segment_apart [] h = tt
segment_apart (first ∷ steps) h = (h, tt)

-- the points are a last batch, where there are any
cut_batches : (p : Pending) → IsBatching p → AreBatches (with_batch p).steps
cut_batches p h = by (length p.points == 0)
  where
    by : (none : Bool) → AreBatches (if none then p else record p {
      steps = p.steps ++ step.Batch (record { number = p.number + 1; ids = p.ids; points = p.points; layers = p.layers }) ∷ [];
      ids = [];
      points = [];
      number = p.number + 1;
    }).steps
    by true = h
    by false = all_more (λ s. is_batch s ≡ true) p.steps _ h (refl, tt)

batches_closed : (p : Pending) → IsBatching p → AreApart (option_to_list (closed_segment p))
batches_closed p h = segment_apart (with_batch p).steps (inl (cut_batches p h))

updates_closed : (p : Pending) → IsUpdating p → AreApart (option_to_list (closed_segment p))
updates_closed p h =
    segment_apart (with_batch p).steps (inr (subst (λ (points : List Point). AreUpdates (with_batch (record p { points = points })).steps) (sym h.1) h.0))

after_fresh : (p : Pending) → IsFresh (after_segment p)
after_fresh p = (refl, by p.points)
  where
    by : (points : List Point) → (after_segment (record p { points = points })).points ≡ []
    by [] = refl
    by (first ∷ points) = let some : suc (length points) ≢ 0 = λ e. omega (arith, e) in rw (ne_eqb (suc (length points)) 0 some) refl

fresh_updates : (p : Pending) → IsFresh p → IsUpdating p
fresh_updates p h = (rw h.0 tt, h.1)

fresh_batches : (p : Pending) → IsFresh p → IsBatching p
fresh_batches p h = rw h.0 tt

-- ---- items

-- a segment that is given where it is full, and what is pending then
given_apart : (full : Bool) (p : Pending) → AreApart (option_to_list (closed_segment p)) → AreApart (option_to_list (if full then closed_segment p else None))
given_apart true p h = h
given_apart false p h = tt

updates_left : (full : Bool) (p : Pending) → IsUpdating p → IsUpdating (if full then after_segment p else p)
updates_left true p h = fresh_updates (after_segment p) (after_fresh p)
updates_left false p h = h

batches_left : (full : Bool) (p : Pending) → IsBatching p → IsBatching (if full then after_segment p else p)
batches_left true p h = fresh_batches (after_segment p) (after_fresh p)
batches_left false p h = h

abbrev Rest : (Pending → Type 0) → List Item → Type 0
Rest P more = (p : Pending) → P p → AreApart (segments_from p more)

update_taken : (p : Pending) (more : List Item) → IsUpdating p → Rest IsUpdating more
    → AreApart (option_to_list (if is_full p then closed_segment p else None) ++ segments_from (if is_full p then after_segment p else p) more)
update_taken p more h rest =
    all_more IsApart (option_to_list (if is_full p then closed_segment p else None)) (segments_from (if is_full p then after_segment p else p) more)
    (given_apart (is_full p) p (updates_closed p h)) (rest (if is_full p then after_segment p else p) (updates_left (is_full p) p h))

batch_taken : (p : Pending) (more : List Item) → IsBatching p → Rest IsBatching more
    → AreApart (option_to_list (if is_full p then closed_segment p else None) ++ segments_from (if is_full p then after_segment p else p) more)
batch_taken p more h rest =
    all_more IsApart (option_to_list (if is_full p then closed_segment p else None)) (segments_from (if is_full p then after_segment p else p) more)
    (given_apart (is_full p) p (batches_closed p h)) (rest (if is_full p then after_segment p else p) (batches_left (is_full p) p h))

one_update : (p : Pending) (change : Update) → IsUpdating p → IsUpdating (with_update p change)
one_update p change h = (all_more (λ s. is_update s ≡ true) p.steps _ h.0 (refl, tt), h.1)

one_point : (p : Pending) (id : ℕ) (point : Point) → IsBatching p → IsBatching (cut_batch (with_point p id point))
one_point p id point h = by (nat_le MOST_POINTS (length (with_point p id point).points))
  where
    by : (full : Bool) → IsBatching (if full then with_batch (with_point p id point) else with_point p id point)
    by true = cut_batches (with_point p id point) h
    by false = h

sync_updates : (p : Pending) (more : List Item) → IsUpdating p → Rest IsFresh more → AreApart (segments_from p (item.Sync ∷ more))
sync_updates p more h rest =
    all_more IsApart (option_to_list (closed_segment p)) (segments_from (after_segment p) more) (updates_closed p h) (rest (after_segment p) (after_fresh p))

sync_batches : (p : Pending) (more : List Item) → IsBatching p → Rest IsFresh more → AreApart (segments_from p (item.Sync ∷ more))
sync_batches p more h rest =
    all_more IsApart (option_to_list (closed_segment p)) (segments_from (after_segment p) more) (batches_closed p h) (rest (after_segment p) (after_fresh p))

-- ---- the demo

module _ (side : ℕ) (more : List Item) where
  zones_apart : (keys : List ℕ) (p : Pending) → IsUpdating p → Rest IsUpdating more → AreApart (segments_from p (map (zone_item side) keys ++ more))
  zones_apart [] p h rest = rest p h
  zones_apart (key ∷ keys) p h rest =
      let change = update.Add key (square (1000 * (key % side)) (1000 * (key / side))) in
      update_taken (with_update p change) (map (zone_item side) keys ++ more) (one_update p change h) (λ q u. zones_apart keys q u rest)

  drops_apart : (places : List ℕ) (p : Pending) → IsUpdating p → Rest IsUpdating more → AreApart (segments_from p (map drop_item places ++ more))
  drops_apart [] p h rest = rest p h
  drops_apart (place ∷ places) p h rest =
      let change = update.DropZone (2 * place + 1) in
      update_taken (with_update p change) (map drop_item places ++ more) (one_update p change h) (λ q u. drops_apart places q u rest)

  points_apart : (ids : List ℕ) (p : Pending) → IsBatching p → Rest IsBatching more → AreApart (segments_from p (map (point_item side) ids ++ more))
  points_apart [] p h rest = rest p h
  points_apart (id ∷ ids) p h rest =
      let q = cut_batch (with_point p id (at (50 * (id % (20 * side)) + 25) (50 * (id / (20 * side)) + 25))) in
      batch_taken q (map (point_item side) ids ++ more) (one_point p id _ h) (λ r b. points_apart ids r b rest)

  train_apart : (p : Pending) → IsUpdating p → Rest IsUpdating more → AreApart (segments_from p (item.Train 64 ∷ more))
  train_apart p h rest = update_taken (with_update p (update.Train 64)) more (one_update p (update.Train 64) h) rest

last_points : (side : ℕ) (p : Pending) → IsBatching p → AreApart (segments_from p (points side))
last_points side p h =
    subst (λ (items : List Item). AreApart (segments_from p items)) (append-nil (points side))
    (points_apart side [] (range_with_len 0 (400 * side * side)) p h (λ q b. batches_closed q b))

abbrev Second : ℕ → List Item
Second side = item.Train 64 ∷ (drops side ++ item.Sync ∷ points side)

second_apart : (side : ℕ) (p : Pending) → IsFresh p → AreApart (segments_from p (Second side))
second_apart side p h =
    train_apart side (drops side ++ item.Sync ∷ points side) p (fresh_updates p h)
    (λ q u. drops_apart side (item.Sync ∷ points side) (range_with_len 0 (side * side / 2)) q u
    (λ r v. sync_updates r (points side) v (λ s f. last_points side s (fresh_batches s f))))

pub demo_apart : (side : ℕ) → AreApart (segments_from nothing_pending (demo_items side))
demo_apart side =
    zones_apart side (item.Sync ∷ (points side ++ item.Sync ∷ Second side)) (range_with_len 0 (side * side)) nothing_pending (tt, refl)
    (λ p u. sync_updates p (points side ++ item.Sync ∷ Second side) u
    (λ q f. points_apart side (item.Sync ∷ Second side) (range_with_len 0 (400 * side * side)) q (fresh_batches q f)
    (λ r b. sync_batches r (Second side) b (λ s g. second_apart side s g))))
