-- Batches of points, and the pairs of points with zones.
use Rattle.std.specs.Prelude.{◌≡◌, ◌⊎◌, ℕ, ◌+◌, ◌%◌, ◌^◌, ◌<◌, ◌≤◌, ◌++◌, Contains, length, slice_index_or, [], ◌∷◌, ◌||◌, Bool, false, cond, List, All, filter, map, sum_by, vec_capacity}
use Rattle.act_grid.specs.declared.layers.Layers.{Layers}
use Rattle.act_grid.specs.declared.Point.{Point}
use Rattle.act_grid.specs.declared.Settings.{Settings}
use Rattle.act_grid.specs.Layers.{has_layer, layer_of}
use Rattle.act_geom.specs.Inside.{is_inside}
use Rattle.act_base.specs.Sight.{Sight}
use Rattle.act_entry.specs.declared.reference.Ref.{Ref}
use Rattle.act_super.specs.declared.entry.State.{State}
use Rattle.act_super.specs.declared.entry.Zone.{Zone}
use Rattle.act_super.specs.Joins.{Hit, join}
use Rattle.act_probe.specs.declared.buffers.Buffers.{Buffers}
use Rattle.act_probe.specs.declared.buffers.Candidate.{Candidate}
use Rattle.act_probe.specs.declared.buffers.Found.{Found}
use Rattle.act_probe.specs.declared.buffers.Hit.{Hit as Pair}
use Rattle.act_probe.specs.Chains.{ChainAt}
use Rattle.act_probe.specs.Reads.{body_reads, reads_of}

-- a pair as the join has it
abbrev pub hit_of : Pair → Hit
hit_of pair = record { point = pair.point; key = pair.key }

-- the pairs of the buffers
abbrev pub hits_in : Buffers → List Hit
hits_in buffers = map hit_of buffers.found.hits.items

-- a zone that meets the leaf of a point: the point with its place in the batch, the zone with the first row of its chain, and
-- whether it is a true hit
pub record Met : Type 0 where
  pub place : ℕ
  pub point : Point
  pub zone : Zone
  pub row : ℕ
  pub hit : Bool

-- the zone holds the point
abbrev pub is_held : Met → Bool
is_held m = m.hit || is_inside m.zone.shape m.point

abbrev pub pair_of : Met → Pair
pair_of m = record { point = m.place; key = m.zone.key }

-- the words to be read to test it
abbrev pub test_reads : Met → ℕ
test_reads m = cond m.hit 0 (body_reads m.zone)

-- the zone is of the layers
abbrev pub is_of : Layers → Met → Bool
is_of layers m = has_layer layers (layer_of m.zone.key)

-- the zones of the references of a leaf
abbrev pub mets_by : ℕ → Point → List Zone → List Ref → List Met
mets_by place p [] refs = []
mets_by place p (zone ∷ zones) [] = []
mets_by place p (zone ∷ zones) (r ∷ refs) = record { place = place; point = p; zone = zone; row = r.row; hit = r.hit } ∷ mets_by place p zones refs

-- the candidates among them, by their slots from i on
abbrev pub candidate_of : Sight → ℕ → Met → Candidate
candidate_of x i m = record { row = m.row; next = x.word m.row 0 % 2 ^ 32; slot = i; point = m.point; odd = false }

abbrev pub candidates_from : Sight → ℕ → List Met → List Candidate
candidates_from x i [] = []
candidates_from x i (m ∷ mets) = cond m.hit [] (candidate_of x i m ∷ []) ++ candidates_from x (i + 1) mets

-- each of the three buffers has room for n more
pub record HasRoom (found : Found) (n : ℕ) : Type 0 where
  pub hits : length found.hits.items + n ≤ vec_capacity found.hits
  pub kept : length found.kept.items + n ≤ vec_capacity found.kept
  pub candidates : length found.candidates.items + n ≤ vec_capacity found.candidates

-- at most n were put into each of them, which has room for as many in all as before
pub record Grows (old new : Found) (n : ℕ) : Type 0 where
  pub hits : length new.hits.items ≤ length old.hits.items + n
  pub kept : length new.kept.items ≤ length old.kept.items + n
  pub candidates : length new.candidates.items ≤ length old.candidates.items + n
  pub hits_room : vec_capacity new.hits ≡ vec_capacity old.hits
  pub kept_room : vec_capacity new.kept ≡ vec_capacity old.kept
  pub candidates_room : vec_capacity new.candidates ≡ vec_capacity old.candidates

-- these were found, and no candidate was tested
pub record Holds (x : Sight) (found : Found) (mets : List Met) : Type 0 where
  pub hits : found.hits.items ≡ map pair_of mets
  pub kept : found.kept.items ≡ map (λ (m : Met). m.hit) mets
  pub candidates : found.candidates.items ≡ candidates_from x 0 mets
  pub chains : All (λ (m : Met). ChainAt x m.zone m.row) mets

-- what was found for the points, tests aside
pub record Gathers (x : Sight) (settings : Settings) (state : State) (layers : Layers) (points : List Point) (found : Found) : Type 0 where
  pub mets : List Met
  pub holds : Holds x found mets
  pub are : map (λ (m : Met). hit_of (pair_of m)) (filter is_held mets) ≡ join layers state.zones points
  pub few : found.reads + sum_by test_reads mets ≤ sum_by (λ p. reads_of settings state p layers) points

-- ---- candidates
-- a candidate of this zone, which isn't tested yet
pub record Asks (x : Sight) (zone : Zone) (c : Candidate) : Type 0 where
  pub chain : ChainAt x zone c.row
  pub next : c.next ≡ x.word c.row 0 % 2 ^ 32
  pub even : c.odd ≡ false

-- the candidate once it was tested, by the zones of the slots
abbrev pub answered : (ℕ → Zone) → Candidate → Candidate
answered zones c = record c { odd = is_inside (zones c.slot).shape c.point }

-- the items at the places that are true
abbrev pub chosen : {X : Type 0} → List Bool → List X → List X
chosen [] xs = []
chosen (b ∷ bs) [] = []
chosen (b ∷ bs) (x ∷ xs) = cond b (x ∷ chosen bs xs) (chosen bs xs)

-- each answer is known but for those of the candidates, which tell theirs
pub record Settles (kept answers : List Bool) (candidates : List Candidate) : Type 0 where
  pub long : length kept ≡ length answers
  pub told : All (λ (c : Candidate). slice_index_or answers c.slot false ≡ c.odd) candidates
  pub rest : (i : ℕ) → i < length answers → (slice_index_or kept i false ≡ slice_index_or answers i false) ⊎ Contains (map (λ (c : Candidate). c.slot) candidates) i
