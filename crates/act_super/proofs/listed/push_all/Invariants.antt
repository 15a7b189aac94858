use Rattle.std.specs.Prelude.{◌≡◌, ◌++◌, take}
use Rattle.act_super.specs.Listings.{keys_in, standings_in}
use Rattle.act_super.proofs.listed.push_all.Given as goal

abbrev pub invariant-loop-i : goal.invariant-loop-i
invariant-loop-i l = (keys_in l.zones.items ≡ keys_in l.fn.zones.items ++ take l.i l.keys) × (standings_in l.zones.items ≡ standings_in l.fn.zones.items ++ take l.i l.standings)
