-- The chain of a zone in an image.
use Rattle.std.specs.Prelude.{◌≡◌, ℕ, ◌<◌, ◌≤◌, ◌+◌, ◌*◌, ◌^◌, ◌++◌, ℕ, ◌∷◌, [], ◌&&◌, ◌||◌, Bool, cond, not, List, All, None, Some, length, slice_index}
use Rattle.act_grid.specs.declared.layers.Layers.{Layers}
use Rattle.act_grid.specs.declared.Point.{Point}
use Rattle.act_grid.specs.Layers.{has_layer, layer_of}
use Rattle.act_geom.specs.Inside.{is_inside}
use Rattle.act_geom.specs.Rings.{vertices_of}
use Rattle.act_base.specs.Counting.{times}
use Rattle.act_base.specs.Sight.{Sight}
use Rattle.act_entry.specs.declared.reference.Ref.{Ref}
use Rattle.act_entry.specs.declared.entry.Entry.{Entry}
use Rattle.act_entry.specs.Lists.{pair_word}
use Rattle.act_super.specs.declared.entry.Zone.{Zone}
use Rattle.act_super.specs.Stands.{HasChain, HasWords, entry_for, words_of}
use Rattle.act_probe.specs.Reads.{body_reads}

-- the zone's chain begins at the row, and all its rows are of the image
pub record ChainAt (x : Sight) (zone : Zone) (row : ℕ) : Type 0 where
  pub rows : List ℕ
  pub first : slice_index rows 0 ≡ row
  pub chain : HasChain x rows zone
  pub held : (i : ℕ) → i < length rows → 0 < times x.rows (slice_index rows i)
  pub low : (i : ℕ) → i < length rows → (0 < slice_index rows i) × (slice_index rows i < 2 ^ 24)
  pub full : All (λ ring. 3 ≤ length ring) zone.shape
  pub small : vertices_of zone.shape ≤ 262144
  pub key : zone.key < 2 ^ 32

-- a walk along the rows of a chain that has read the first k words of the body: its row and the next one, how many rows it
-- has passed, and the place of the last word that was read
pub record IsAt (x : Sight) (zone : Zone) (first : ℕ) (chain : ChainAt x zone first) (row next passed place k : ℕ) : Type 0 where
  pub row_is : row ≡ slice_index chain.rows passed
  pub next_is : next ≡ slice_index chain.rows (passed + 1)
  pub read : k ≡ 255 * passed + place
  pub within : place ≤ 255

-- references to zones: each by the row at which its zone's chain begins, and a true hit as it is told
abbrev pub RefsOf : Sight → (Zone → Bool) → List Zone → List Ref → Type 0
RefsOf x hit [] [] = Unit {0}
RefsOf x hit [] (r ∷ refs) = ⊥
RefsOf x hit (zone ∷ zones) [] = ⊥
RefsOf x hit (zone ∷ zones) (r ∷ refs) = ChainAt x zone r.row × (r.hit ≡ hit zone) × RefsOf x hit zones refs

-- the zone is of the layers, and is a true hit or holds the point
abbrev pub is_found : Layers → Point → Bool → Zone → Bool
is_found layers p hit zone = has_layer layers (layer_of zone.key) && (hit || is_inside zone.shape p)

-- the words of a reference: one, and those of the zone where it has to be tested
abbrev pub ref_reads : Layers → Bool → Zone → ℕ
ref_reads layers hit zone = 1 + cond (has_layer layers (layer_of zone.key) && not hit) (body_reads zone) 0

-- the keys of the zones that are found, and the words of all references
abbrev pub found_keys : Layers → Point → (Zone → Bool) → List Zone → List ℕ
found_keys layers p hit [] = []
found_keys layers p hit (zone ∷ zones) = cond (is_found layers p (hit zone) zone) (zone.key ∷ found_keys layers p hit zones) (found_keys layers p hit zones)

abbrev pub found_reads : Layers → (Zone → Bool) → List Zone → ℕ
found_reads layers hit [] = 0
found_reads layers hit (zone ∷ zones) = ref_reads layers (hit zone) zone + found_reads layers hit zones

-- the keys so far, with that of the zone where it is found
abbrev pub with_found : Layers → Point → Bool → Zone → List ℕ → List ℕ
with_found layers p hit zone keys = cond (is_found layers p hit zone) (keys ++ zone.key ∷ []) keys

-- the word has the first two of these references, or the last one
abbrev pub PairAt : List Ref → ℕ → Type 0
PairAt [] word = ⊥
PairAt (a ∷ []) word = word ≡ pair_word a None
PairAt (a ∷ b ∷ refs) word = word ≡ pair_word a (Some b)

-- the entry tells references to zones, and where it is that of a list, the list stands there
pub record Tells (x : Sight) (hit : Zone → Bool) (zones : List Zone) (refs : List Ref) (found : Entry) : Type 0 where
  pub are : RefsOf x hit zones refs
  pub few : length refs ≤ 510
  pub row : ℕ
  pub place : ℕ
  pub is : found ≡ entry_for refs row place
  pub list : 2 < length refs → HasWords x row place (words_of refs)
  pub held : 2 < length refs → 0 < times x.rows row
