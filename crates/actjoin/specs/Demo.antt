-- The demo: its script, and the summary of the replies to it.
use Rattle.std.specs.Prelude.{◌+◌, ◌*◌, ◌/◌, ◌%◌, ◌++◌, ℕ, List, [], ◌∷◌, Option, Some, None, codes, decimal, length, map, pos, sum_by}
use Rattle.std.specs.List.{range_with_len}
use Rattle.act_grid.specs.declared.Point.{Point}
use Rattle.act_grid.specs.declared.Settings.{Settings}
use Rattle.act_super.specs.declared.entry.State.{State}
use Rattle.act_super.specs.declared.entry.Zone.{Zone}
use Rattle.act_super.specs.Joins.{join}
use Rattle.act_super.specs.States.{nothing}
use Rattle.act_script.specs.History.{state_by}
use Rattle.act_script.specs.Segments.{nothing_pending, segments_from}
use Rattle.act_script.specs.Turns.{Turn, turns_from}
use Rattle.act_script.specs.Turns.Turn.{Asks, Joins}
use Rattle.act_script.specs.declared.item.Item.{Item}
use Rattle.act_script.specs.declared.item.Item.TheVariants as item
use Rattle.act_script.specs.declared.segment.Batch.{Batch}
use Rattle.act_script.specs.declared.segment.Step.{Step}
use Rattle.act_index.specs.Answers.{pair_of}
use Rattle.act_index.specs.declared.pairs.Pair.{Pair}
use Rattle.act_join.specs.Replies.{added_by}
use Rattle.actjoin.specs.declared.sums.Sums.{Sums}

-- ---- the script

abbrev pub at : ℕ → ℕ → Point
at x y = record { x = pos x; y = pos y }

-- the square of side 1000 with this lower left corner
abbrev pub square : ℕ → ℕ → List (List Point)
square x y = (at x y ∷ at (x + 1000) y ∷ at (x + 1000) (y + 1000) ∷ at x (y + 1000) ∷ []) ∷ []

-- the zones in rows from below, and in each row from the left
abbrev pub zone_item : ℕ → ℕ → Item
zone_item side key = item.Zone key (square (1000 * (key % side)) (1000 * (key / side)))

abbrev pub zones : ℕ → List Item
zones side = map (zone_item side) (range_with_len 0 (side * side))

-- twenty points by twenty in each zone, in rows over all zones
abbrev pub point_item : ℕ → ℕ → Item
point_item side id = item.At id (at (50 * (id % (20 * side)) + 25) (50 * (id / (20 * side)) + 25))

abbrev pub points : ℕ → List Item
points side = map (point_item side) (range_with_len 0 (400 * side * side))

-- the drops of the odd keys
abbrev pub drop_item : ℕ → Item
drop_item place = item.DropZone (2 * place + 1)

abbrev pub drops : ℕ → List Item
drops side = map drop_item (range_with_len 0 (side * side / 2))

-- the script of the demo with so many zones a side
abbrev pub demo_items : ℕ → List Item
demo_items side = zones side ++ item.Sync ∷ (points side ++ item.Sync ∷ item.Train 64 ∷ (drops side ++ item.Sync ∷ points side))

abbrev pub demo_segments : ℕ → List (List Step)
demo_segments side = segments_from nothing_pending (demo_items side)

-- ---- the sums

abbrev pub no_sums : Sums
no_sums = record { zones = 0; batches = 0; points = 0; pairs = 0; keys = 0 }

-- with a zone that came to stand, where one did
abbrev pub with_added : Option ℕ → Sums → Sums
with_added None sums = sums
with_added (Some key) sums = record sums { zones = sums.zones + 1 }

abbrev pub keys_of : List Pair → ℕ
keys_of pairs = sum_by (λ (pair : Pair). pair.key) pairs

-- with a batch and its pairs
abbrev pub with_pairs : Batch → List Pair → Sums → Sums
with_pairs batch pairs sums = record {
  zones = sums.zones;
  batches = sums.batches + 1;
  points = sums.points + length batch.points;
  pairs = sums.pairs + length pairs;
  keys = sums.keys + keys_of pairs;
}

-- with a turn in this state: an update that may add a zone, or a batch that is joined with the zones that stand
abbrev pub with_turn : Settings → State → Turn → Sums → Sums
with_turn settings state (Asks sample asked) sums = with_added (added_by settings state asked) sums
with_turn settings state (Joins batch) sums = with_pairs batch (map pair_of (join batch.layers state.zones batch.points)) sums

-- with turns one after another
abbrev pub with_turns : Settings → State → List Turn → Sums → Sums
with_turns settings state [] sums = sums
with_turns settings state (first ∷ turns) sums = with_turns settings (state_by settings state first) turns (with_turn settings state first sums)

-- ---- the summary

abbrev pub demo_sums : ℕ → Settings → Sums
demo_sums side settings = with_turns settings nothing (turns_from [] (demo_segments side)) no_sums

abbrev pub line_of : List ℕ → ℕ → List ℕ
line_of name number = name ++ decimal number ++ codes "\n"

abbrev pub sums_text : Sums → List ℕ
sums_text sums =
    line_of (codes "zones ") sums.zones ++ (line_of (codes "batches ") sums.batches ++ (line_of (codes "points ") sums.points
    ++ (line_of (codes "pairs ") sums.pairs ++ line_of (codes "keys ") sums.keys)))

abbrev pub summary : ℕ → Settings → List ℕ
summary side settings = sums_text (demo_sums side settings)
