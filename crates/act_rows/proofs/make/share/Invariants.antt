use Rattle.std.proofs.Common.{◌≡◌, replicate}
use Rattle.std.specs.Prelude.{Some}
use Rattle.act_rows.proofs.make.share.Given as goal

abbrev pub invariant-loop : goal.invariant-loop
invariant-loop g l = l.spares.items ≡ replicate l.counter (Some l.link)
