use Rattle.std.proofs.Common.{◌≡◌, replicate}
use Rattle.act_tally.proofs.claims.share.Given as goal

abbrev pub invariant-loop : goal.invariant-loop
invariant-loop l = l.spares.items ≡ replicate l.counter l.link
