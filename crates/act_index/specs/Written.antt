-- The words of a plan, as far as they are stored, and its rows, as far as they are retired.
use Rattle.std.specs.Prelude.{◌≡◌, ℕ, ◌+◌, ◌*◌, ◌<◌, List, [], ◌∷◌, ◌++◌, length, slice_index, Contains}
use Rattle.act_base.specs.Counting.{times}
use Rattle.act_grid.specs.declared.Settings.{Settings}
use Rattle.act_image.specs.Pics.{Pic, Planned, rows_in, firsts_in, installed, planned_word, IsBound}
use Rattle.act_pool.specs.Pooled.{Pooled, IsTidy}
use Rattle.act_rows.specs.declared.views.Snapshot.{Snapshot}
use Rattle.act_rows.specs.declared.views.Desk.{Desk}
use Rattle.act_rows.specs.Updates.{new_image, published}
use Rattle.act_rows.specs.Images.{place_in}
use Rattle.act_super.specs.declared.entry.Entry.{Entry}
use Rattle.act_super.specs.States.{after}
use Rattle.act_index.specs.Codes.{code}
use Rattle.act_index.specs.Whole.{Writing, IsWhole}

-- the first m words of the plan are stored, and nothing else
pub record Written (d d' : Desk) (plan : Planned) (m : ℕ) : Type 0 where
  pub pins : d'.pins ≡ d.pins
  pub rows : d'.rows ≡ d.rows
  pub history : d'.history ≡ d.history
  pub versions : d'.versions ≡ d.versions
  pub bounds : d'.bounds ≡ d.bounds
  pub looks : d'.looks ≡ d.looks
  pub long : length d'.words ≡ length d.words
  pub drafted : (i place : ℕ) → place < 256 → 256 * i + place < m → Contains d'.draft (slice_index plan.rows i, place)
  pub there : (i place : ℕ) → place < 256 → 256 * i + place < m → slice_index d'.words (place_in (slice_index plan.rows i) place) ≡ planned_word plan i place
  pub other : (r place : ℕ) → 0 < r → times plan.rows r ≡ 0 → place < 256 → slice_index d'.words (place_in r place) ≡ slice_index d.words (place_in r place)

-- the image that a plan makes, as the words stand
abbrev pub planned_image : Desk → Pic → Planned → Snapshot
planned_image d pic plan = new_image d (rows_in (installed pic plan)) (firsts_in (installed pic plan))

-- that image is published
abbrev pub renewed : Desk → Settings → Entry → Pic → Planned → Desk
renewed d settings change pic plan = published d (code settings change) plan.root (rows_in (installed pic plan)) (firsts_in (installed pic plan))

-- these rows, each with that version
abbrev pub paired : List ℕ → ℕ → List (ℕ × ℕ)
paired [] w = []
paired (r ∷ rows) w = (r, w) ∷ paired rows w

-- the pool before these rows were taken
abbrev pub untaken : Pooled → List ℕ → Pooled
untaken pool rows = record pool { free = pool.free ++ rows }

-- the rows of a plan are taken, and the plan is bound to them
pub record IsReady (w : Writing) (plan : Planned) (change : Entry) : Type 0 where
  pub whole : IsWhole (record w { pool = untaken w.pool plan.rows })
  pub tidy : IsTidy (untaken w.pool plan.rows)
  pub bound : IsBound w.settings w.pic plan w.state (after w.settings w.state change)
