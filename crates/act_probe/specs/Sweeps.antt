-- The candidates of one zone, tested by one way over its words.
use Rattle.std.specs.Prelude.{◌≡◌, ◌≢◌, ℕ, ℤ, ◌+◌, ◌<◌, ◌≤◌, ◌<ℤ◌, ◌≤ℤ◌, Bool, true, false, List, [], ◌∷◌, drop, length, slice_index, slice_index_or}
use Rattle.act_grid.specs.declared.Point.{Point}
use Rattle.act_base.specs.Sight.{Sight}
use Rattle.act_geom.specs.Inside.{counts, differ}
use Rattle.act_geom.specs.Walk.{Expects}
use Rattle.act_geom.specs.declared.walk.Phase.{Phase}
use Rattle.act_geom.specs.declared.walk.Phase.TheVariants as phase
use Rattle.act_geom.specs.declared.walk.Walk.{Walk}
use Rattle.act_probe.specs.declared.buffers.Candidate.{Candidate}
use Rattle.act_probe.specs.declared.trace.Stage.{Stage}
use Rattle.act_probe.specs.declared.trace.Stage.TheVariants as stage
use Rattle.act_probe.specs.declared.trace.Trace.{Trace}

-- of two candidates side by side whose chains begin at one row, the second one's point lies no lower
abbrev pub RunsAscend : List Candidate → Type 0
RunsAscend cs = (k : ℕ) (d : Candidate) → k + 1 < length cs → (slice_index_or cs (k + 1) d).row ≡ (slice_index_or cs k d).row
    → (slice_index_or cs k d).point.y ≤ℤ (slice_index_or cs (k + 1) d).point.y

-- the chains of the candidates between two places begin at one row
abbrev pub IsRun : List Candidate → ℕ → ℕ → Type 0
IsRun cs start end = (k : ℕ) (d : Candidate) → start ≤ k → k < end → (slice_index_or cs k d).row ≡ (slice_index_or cs start d).row

-- the points lie on ascending rows of the grid
abbrev pub Ascends : List Candidate → Type 0
Ascends cs = (i j : ℕ) (d : Candidate) → i ≤ j → j < length cs → (slice_index_or cs i d).point.y ≤ℤ (slice_index_or cs j d).point.y

-- no point from the place on lies below the row
pub record IsAboveFrom (y : ℤ) (at : ℕ) (cs : List Candidate) : Type 0 where
  pub within : at ≤ length cs
  pub above : (k : ℕ) (d : Candidate) → at ≤ k → k < length cs → y ≤ℤ (slice_index_or cs k d).point.y

-- the points before the place lie below the row, and no others
pub record IsPlacedAt (y : ℤ) (at : ℕ) (cs : List Candidate) : Type 0 where
  pub within : at ≤ length cs
  pub below : (k : ℕ) (d : Candidate) → k < at → (slice_index_or cs k d).point.y <ℤ y
  pub above : (k : ℕ) (d : Candidate) → at ≤ k → k < length cs → y ≤ℤ (slice_index_or cs k d).point.y

-- the candidate, with the edge from a to b counted
abbrev pub crossed : Point → Point → Candidate → Candidate
crossed a b c = record c { odd = differ c.odd (counts c.point (record { a = a; b = b })) }

-- ---- the words of a body
-- the same stage of a walk for one point
abbrev pub phase_of : Stage → Phase
phase_of stage.Rings = phase.Rings
phase_of stage.Count = phase.Count
phase_of stage.First = phase.First
phase_of stage.Next = phase.Next

-- the walk of one candidate
abbrev pub walk_of : Trace → Candidate → Walk
walk_of t c = record {
  point = c.point;
  phase = phase_of t.stage;
  odd = c.odd;
  rings = t.rings;
  vertices = t.vertices;
  first = t.first;
  last = t.last;
}

-- the words have come to their end, or go on
abbrev pub Ends : Bool → Walk → List ℕ → Bool → Type 0
Ends true w words answer = (words ≡ []) × (w.odd ≡ answer)
Ends false w words answer = (words ≢ []) × Expects w words answer

-- what becomes of a candidate's walk by a word that it expects, whatever words follow
abbrev pub Follows : Trace → Candidate → ℕ → Bool → Trace → Candidate → Type 0
Follows old before word done new after =
    (words : List ℕ) (answer : Bool) → Expects (walk_of old before) (word ∷ words) answer → Ends done (walk_of new after) words answer

-- what becomes of a candidate's walk by so many words of a row behind a place, where they are the next words of a body
abbrev pub Passes : Sight → (row place count : ℕ) → Trace → Candidate → Trace → Candidate → Type 0
Passes x row place count old before new after =
    (body : List ℕ) (k : ℕ) (answer : Bool) → ((i : ℕ) → i < count → k + i < length body → x.word row (place + 1 + i) ≡ slice_index body (k + i))
    → Expects (walk_of old before) (drop k body) answer → Expects (walk_of new after) (drop (k + count) body) answer

-- the place is that of the last vertex's row
pub record IsSet (t : Trace) (cs : List Candidate) : Type 0 where
  pub within : t.at ≤ length cs
  pub placed : t.stage ≡ stage.Next → IsPlacedAt t.last.y t.at cs

-- the candidate but for its count
abbrev pub at_rest : Candidate → Candidate
at_rest c = record c { odd = false }
