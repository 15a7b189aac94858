-- The image of a version as it is seen, whatever holds its words.
use Rattle.std.specs.Prelude.{ℕ, List}

-- the rows of the image, the first row of each key's chain, and the word of a row at a place
pub record Sight : Type 0 where
  pub rows : List ℕ
  pub firsts : List (ℕ × ℕ)
  pub word : ℕ → ℕ → ℕ
