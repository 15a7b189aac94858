use Rattle.std.specs.Prelude.{◌≡◌, take}
use Rattle.act_super.specs.Listings.{refs_here}
use Rattle.act_super.proofs.listed.refs_at.Given as goal

abbrev pub invariant-loop-one : goal.invariant-loop-one
invariant-loop-one l = l.refs.items ≡ refs_here (take l.one-index l.zones) l.cell
