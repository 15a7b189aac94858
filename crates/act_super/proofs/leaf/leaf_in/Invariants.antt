use Rattle.act_super.specs.Sound.{spliced}
use Rattle.act_super.specs.Standings.{standing_ground}
use Rattle.act_super.proofs.LeafFacts.{IsOnWay}
use Rattle.act_super.proofs.leaf.leaf_in.Given as goal

abbrev pub invariant-loop : goal.invariant-loop
invariant-loop l = IsOnWay (standing_ground l.marks) (spliced l.standings l.from l.new l.to) l.p l.counter l.cell
