use Rattle.std.proofs.Common.{drop}
use Rattle.act_super.specs.States.{without_key}
use Rattle.act_image.proofs.AfterFacts.{ChainsUpTo}
use Rattle.act_image.proofs.after.chains_without.Given as goal

abbrev pub invariant-loop-i : goal.invariant-loop-i
invariant-loop-i l = ChainsUpTo (without_key l.key l.state.state.zones) (without_key l.key (drop l.i l.state.state.zones)) l.chains
