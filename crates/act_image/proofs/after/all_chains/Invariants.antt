use Rattle.std.proofs.Common.{drop}
use Rattle.act_image.proofs.AfterFacts.{ChainsUpTo}
use Rattle.act_image.proofs.after.all_chains.Given as goal

abbrev pub invariant-loop-i : goal.invariant-loop-i
invariant-loop-i l = ChainsUpTo l.state.state.zones (drop l.i l.state.state.zones) l.chains
