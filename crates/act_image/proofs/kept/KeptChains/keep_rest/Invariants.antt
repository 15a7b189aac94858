use Rattle.std.proofs.Common.{◌++◌, List, drop}
use Rattle.act_grid.specs.declared.Point.{Point}
use Rattle.act_super.specs.declared.entry.Zone.{Zone}
use Rattle.act_image.specs.Kept.{IsKeptChains, old_chain}
use Rattle.act_image.proofs.ChainFacts.{UpTo}
use Rattle.act_image.proofs.kept.KeptChains.keep_rest.Given as goal

abbrev pub invariant-loop-i : goal.invariant-loop-i
invariant-loop-i l =
    (shape : List (List Point)) (zones : List Zone) → IsKeptChains (old_chain l.old.places.now l.old.rows.now l.old.from) l.next.entry shape zones l.fn.self
    → UpTo (IsKeptChains (old_chain l.old.places.now l.old.rows.now l.old.from) l.next.entry shape) (zones ++ drop l.from l.state.state.zones) (drop l.i l.state.state.zones) l.self
