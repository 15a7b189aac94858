use Rattle.std.proofs.Common.{◌≡◌, ◌++◌, take}
use Rattle.act_index.specs.Written.{paired}
use Rattle.act_index.proofs.put.retire_all.Given as goal

abbrev pub invariant-loop-row : goal.invariant-loop-row
invariant-loop-row l = l.pool ≡ record l.fn.pool { retired = l.fn.pool.retired ++ paired (take l.row-index l.plan.gone) l.version }
