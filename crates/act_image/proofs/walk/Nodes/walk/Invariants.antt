use Rattle.act_super.specs.States.{after}
use Rattle.act_image.specs.Plans.{IsWalk}
use Rattle.act_image.proofs.walk.Nodes.walk.Given as goal

abbrev pub invariant-loop-k : goal.invariant-loop-k
invariant-loop-k l = IsWalk l.state.settings (after l.state.settings l.state.state l.next.entry) l.k l.nodes
