use Rattle.std.proofs.Common.{drop}
use Rattle.act_super.specs.States.{reshaped}
use Rattle.act_image.specs.Kept.{IsKeptChains, old_chain}
use Rattle.act_image.proofs.ChainFacts.{UpTo}
use Rattle.act_image.proofs.kept.kept_reshaped.Given as goal

abbrev pub invariant-loop-i : goal.invariant-loop-i
invariant-loop-i l =
    UpTo (IsKeptChains (old_chain l.old.places.now l.old.rows.now l.old.from) l.next.entry l.shape) (reshaped l.key l.shape l.state.state.zones) (reshaped l.key l.shape (drop l.i l.state.state.zones)) l.chains
