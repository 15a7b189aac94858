use Rattle.std.proofs.Common.{◌≡◌, ◌++◌, map}
use Rattle.act_image.specs.Kept.{of_first_body}
use Rattle.act_image.specs.Plans.{rows_from}
use Rattle.act_image.proofs.kept.push_own.Given as goal

abbrev pub invariant-loop-row : goal.invariant-loop-row
invariant-loop-row l = l.rows.items ≡ l.fn.rows.items ++ map of_first_body (rows_from l.chain 0 l.row)
