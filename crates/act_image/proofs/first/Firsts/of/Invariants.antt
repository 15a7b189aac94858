use Rattle.std.proofs.Common.{◌≡◌, drop}
use Rattle.act_image.specs.Plans.{place_first}
use Rattle.act_image.proofs.first.Firsts.of.Given as goal

abbrev pub invariant-loop-place : goal.invariant-loop-place
invariant-loop-place l = place_first l.places l.key ≡ place_first (drop l.place-index l.places) l.key
