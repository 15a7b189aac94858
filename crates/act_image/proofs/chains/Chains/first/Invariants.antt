use Rattle.std.proofs.Common.{◌≡◌, drop}
use Rattle.act_image.specs.Plans.{place_first}
use Rattle.act_image.proofs.chains.Chains.first.Given as goal

abbrev pub invariant-loop-place : goal.invariant-loop-place
invariant-loop-place l = place_first l.place-items l.key ≡ place_first (drop l.place-index l.place-items) l.key
