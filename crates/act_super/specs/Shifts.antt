-- What one zone more changes of a part of the super covering.
use Rattle.std.specs.Prelude.{◌≡◌, ℕ, ◌+◌, ◌<◌, ◌≤◌, ◌++◌, List, [], ◌∷◌, max}
use Rattle.act_super.specs.declared.both.Shift.{Shift}
use Rattle.act_super.specs.Packs.{reference_limit}

-- the items with one more
abbrev pub added : {X : Type 0} → List X → X → List X
added items z = items ++ (z ∷ [])

-- from so many rows to so many, and from one greatest number of references to another: the rows that fall away and those
-- that come, and the greatest numbers among the leaves that change, which are exact where they pass the other side's
pub record IsShift (old new most_old most_new : ℕ) (s : Shift) : Type 0 where
  pub rows : new + s.less ≡ old + s.more
  pub fewer : s.less ≤ old
  pub newer : s.more ≤ new
  pub without_low : s.without ≤ most_old
  pub without_high : most_old ≤ max s.without most_new
  pub with_low : s.with ≤ most_new
  pub with_high : most_new ≤ max s.with most_old

-- a number that is the greatest number of references where it is above the limit, and else tells that that one isn't
pub record IsMost (found real : ℕ) : Type 0 where
  pub above : reference_limit < found → found ≡ real
  pub below : found ≤ reference_limit → real ≤ reference_limit
