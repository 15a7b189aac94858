use Rattle.std.proofs.Common.{◌≡◌, take}
use Rattle.act_geom.specs.Inside.{is_above, is_odd_by}
use Rattle.act_super.proofs.ends.Ends.odd_above.Given as goal

-- the parity of the points so far
abbrev pub invariant-loop-end : goal.invariant-loop-end
invariant-loop-end l = l.odd ≡ is_odd_by (λ v. is_above v l.p) (take l.end-index l.end-items)
