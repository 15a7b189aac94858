use Rattle.std.proofs.Common.{◌≤◌, ◌-◌, drop, length}
use Rattle.act_super.specs.States.{with_zone}
use Rattle.act_image.specs.Kept.{IsKeptChains, old_chain}
use Rattle.act_image.proofs.ChainFacts.{UpTo}
use Rattle.act_image.proofs.kept.kept_with.Given as goal

abbrev pub invariant-loop-i : goal.invariant-loop-i
invariant-loop-i l = record {
  within : l.i ≤ length l.state.state.zones;
  put : UpTo (IsKeptChains (old_chain l.old.places.now l.old.rows.now l.old.from) l.next.entry l.shape) (with_zone (record { key = l.key; shape = l.shape }) l.state.state.zones) (with_zone (record { key = l.key; shape = l.shape }) (drop l.i l.state.state.zones)) l.chains;
}

abbrev pub decreases-loop-i : goal.decreases-loop-i
decreases-loop-i l = length l.state.state.zones - l.i
