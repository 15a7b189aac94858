use Rattle.std.proofs.Common.{◌≡◌, ◌+◌, ◌-◌, ◌++◌}
use Rattle.act_image.specs.Paths.{places_on}
use Rattle.act_image.proofs.path.push_places.Given as goal

abbrev pub invariant-loop-i : goal.invariant-loop-i
invariant-loop-i l = l.fn.sources.items ++ places_on l.first l.count ≡ l.sources.items ++ places_on (l.first + l.i) (l.count - l.i)
