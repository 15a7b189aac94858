-- What looks leave as it was: all but the bounds, which don't fall, and the looks.
use Rattle.std.specs.Prelude.{◌≡◌, ℕ, ◌+◌, ◌<◌, ◌≤◌, List, ◌++◌, length, Contains, Some}
use lib.ListN.{get_elem?}
use mathlib.Core.Option.{some}
use Rattle.act_rows.specs.declared.views.Desk.{Desk}
use Rattle.act_rows.specs.Bounds.{least}
use Rattle.act_rows.specs.Versions.{newest}

pub record Watched (d d' : Desk) : Type 0 where
  pub pins : d'.pins ≡ d.pins
  pub rows : d'.rows ≡ d.rows
  pub history : d'.history ≡ d.history
  pub versions : d'.versions ≡ d.versions
  pub words : d'.words ≡ d.words
  pub draft : d'.draft ≡ d.draft
  pub as_many : length d'.bounds ≡ length d.bounds
  pub rises : least (newest d) d.bounds ≤ least (newest d') d'.bounds

-- what looks at the first readers, in this call, told of the least bound, where it is below the version
pub record Found (d d' : Desk) (n bound reader word : ℕ) : Type 0 where
  pub at : get_elem? d'.bounds reader ≡ some (Some bound)
  pub first : (j : ℕ) → j < n → get_elem? d'.bounds j ≡ some (Some bound) → reader ≤ j
  pub low : reader < n
  pub more : List (ℕ × ℕ)
  pub looks : d'.looks ≡ d.looks ++ more
  pub looked : Contains more (reader, word)
  pub above : 0 < word
  pub below : word ≤ bound + 1
