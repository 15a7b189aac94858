-- What one more trained cell changes of a part of the super covering.
use Rattle.std.specs.Prelude.{◌≡◌, ℕ, ◌+◌, ◌≤◌}
use Rattle.act_super.specs.declared.grow.Growth.{Growth}

-- from so many rows to so many: those that fall away and those that come
pub record IsGrowth (old new : ℕ) (s : Growth) : Type 0 where
  pub rows : new + s.less ≡ old + s.more
  pub fewer : s.less ≤ old
  pub newer : s.more ≤ new
