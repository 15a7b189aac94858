use Rattle.std.proofs.Common.{◌≡◌, ◌++◌}
use Rattle.act_image.specs.Plans.{rows_from}
use Rattle.act_image.proofs.chains.push_rows.Given as goal

abbrev pub invariant-loop-row : goal.invariant-loop-row
invariant-loop-row l = l.rows.items ≡ l.fn.rows.items ++ rows_from l.chain 0 l.row
