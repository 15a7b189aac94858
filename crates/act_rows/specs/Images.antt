-- Images of versions, and where the words of their rows lie.
use Rattle.std.specs.Prelude.{◌≡◌, ℕ, ◌+◌, ◌-◌, ◌*◌, ◌%◌, ◌<◌, ◌≤◌, List, slice_index, Contains}
use Rattle.act_base.specs.Sight.{Sight}
use Rattle.act_rows.specs.declared.views.Snapshot.{Snapshot}

-- the row is one of the table's, which has twice as many as an image may have
pub record InRange (rows row : ℕ) : Type 0 where
  pub above : 0 < row
  pub below : row ≤ 2 * rows

-- where the word of a row at a place stands among the words of rows: each row's words are turned by eight more than those of the
-- row before
abbrev pub place_in : ℕ → ℕ → ℕ
place_in row place = (row - 1) * 256 + (place + 8 * row) % 256

-- the image's word of a row at a place
abbrev pub word_of : Snapshot → ℕ → ℕ → ℕ
word_of x row place = slice_index x.words (place_in row place)

-- the image as the layers above see it
abbrev pub sight_of : Snapshot → Sight
sight_of x = record { rows = x.rows; firsts = x.firsts; word = word_of x }

-- these words of rows have the image's words at its rows
abbrev pub Shows : List ℕ → Snapshot → Type 0
Shows words x = (row place : ℕ) → Contains x.rows row → place < 256 → slice_index words (place_in row place) ≡ word_of x row place
