use Rattle.std.proofs.Common.{◌++◌, List, drop}
use Rattle.act_super.specs.declared.entry.Zone.{Zone}
use Rattle.act_image.specs.Plans.{IsChains}
use Rattle.act_image.proofs.AfterFacts.{ChainsUpTo}
use Rattle.act_image.proofs.after.push_rest.Given as goal

abbrev pub invariant-loop-i : goal.invariant-loop-i
invariant-loop-i l = (zones : List Zone) → IsChains zones l.fn.chains → ChainsUpTo (zones ++ drop l.from l.state.state.zones) (drop l.i l.state.state.zones) l.chains
