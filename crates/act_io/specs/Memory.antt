-- What a source and a sink in memory are.
use Rattle.std.specs.Prelude.{ℕ, List}

-- the bytes that a source has left, the most that a read gives, the numbers of the calls that fail,
-- and how many calls were made and have failed
pub record Supply : Type 0 where
  pub left : List ℕ
  pub piece : ℕ
  pub fails : List ℕ
  pub calls : ℕ
  pub faults : ℕ

-- the bytes that a sink took, how many it may take, the most that a write takes, the numbers of the
-- calls that fail, and how many calls were made and have failed
pub record Taken : Type 0 where
  pub bytes : List ℕ
  pub room : ℕ
  pub piece : ℕ
  pub fails : List ℕ
  pub calls : ℕ
  pub faults : ℕ
