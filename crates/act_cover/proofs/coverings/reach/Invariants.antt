use Rattle.std.proofs.Common.{◌≡◌, true}
use Rattle.act_cover.specs.Level.{fits_to}
use Rattle.act_cover.specs.Held.{IsReached}
use Rattle.act_cover.proofs.coverings.reach.Given as goal

-- the cells of the level are held, and the levels to it fit
abbrev pub invariant-loop-level : goal.invariant-loop-level
invariant-loop-level g l = record { reached : IsReached (g.S.Classes.rings l.shape) l.level l.cells; fits : fits_to (g.S.Classes.rings l.shape) l.most l.level ≡ true }
