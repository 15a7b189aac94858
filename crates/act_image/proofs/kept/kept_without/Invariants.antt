use Rattle.std.proofs.Common.{List, drop}
use Rattle.act_grid.specs.declared.Point.{Point}
use Rattle.act_super.specs.States.{without_key}
use Rattle.act_image.specs.Kept.{IsKeptChains, old_chain}
use Rattle.act_image.proofs.ChainFacts.{UpTo}
use Rattle.act_image.proofs.kept.kept_without.Given as goal

abbrev pub invariant-loop-i : goal.invariant-loop-i
invariant-loop-i l =
    (shape : List (List Point)) → UpTo (IsKeptChains (old_chain l.old.places.now l.old.rows.now l.old.from) l.next.entry shape) (without_key l.key l.state.state.zones) (without_key l.key (drop l.i l.state.state.zones)) l.chains
