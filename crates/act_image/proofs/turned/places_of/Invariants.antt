use Rattle.std.proofs.Common.{take}
use Rattle.act_image.specs.Turned.{IsPlaces}
use Rattle.act_image.proofs.turned.places_of.Given as goal

abbrev pub invariant-loop-i : goal.invariant-loop-i
invariant-loop-i l = IsPlaces l.next.entry l.state.state.zones (take l.i l.state.state.zones) l.places.items
