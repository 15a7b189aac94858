use Rattle.std.proofs.Common.{◌≡◌, replicate}
use Rattle.std.specs.Prelude.{None}
use Rattle.act_rows.proofs.make.no_bounds.Given as goal

abbrev pub invariant-loop : goal.invariant-loop
invariant-loop l = l.bounds.items ≡ replicate l.counter None
