use Rattle.act_super.specs.States.{after}
use Rattle.act_image.specs.Paths.{IsWalker}
use Rattle.act_image.proofs.path.walk_path.Given as goal

abbrev pub invariant-loop-k : goal.invariant-loop-k
invariant-loop-k l = IsWalker l.state.settings l.state.state (after l.state.settings l.state.state l.next.entry) l.next.entry l.old.nodes.now l.old.rows.now l.k l.walker
