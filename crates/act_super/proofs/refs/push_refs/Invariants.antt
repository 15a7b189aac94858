use Rattle.std.specs.Prelude.{◌≡◌, ◌++◌, take}
use Rattle.act_super.specs.Places.{zones_with}
use Rattle.act_super.specs.Sizes.{refs_of}
use Rattle.act_super.specs.Standings.{shapes_in}
use Rattle.act_super.proofs.refs.push_refs.Given as goal

abbrev pub invariant-loop-i : goal.invariant-loop-i
invariant-loop-i l = l.refs.items ≡ l.fn.refs.items ++ refs_of (take l.i (zones_with l.keys (shapes_in l.standings))) l.cell
