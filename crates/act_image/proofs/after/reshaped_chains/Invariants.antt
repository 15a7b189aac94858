use Rattle.std.proofs.Common.{drop}
use Rattle.act_super.specs.States.{reshaped}
use Rattle.act_image.proofs.AfterFacts.{ChainsUpTo}
use Rattle.act_image.proofs.after.reshaped_chains.Given as goal

abbrev pub invariant-loop-i : goal.invariant-loop-i
invariant-loop-i l = ChainsUpTo (reshaped l.key l.shape l.state.state.zones) (reshaped l.key l.shape (drop l.i l.state.state.zones)) l.chains
