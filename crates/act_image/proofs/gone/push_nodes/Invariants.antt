use Rattle.std.proofs.Common.{◌≡◌, ◌++◌}
use Rattle.std.specs.List.{flat_map}
use Rattle.act_base.specs.Counting.{from}
use Rattle.act_image.specs.Gone.{gone_node}
use Rattle.act_image.proofs.gone.push_nodes.Given as goal

abbrev pub invariant-loop-i : goal.invariant-loop-i
invariant-loop-i l = l.gone.items ≡ l.fn.gone.items ++ flat_map (gone_node l.old.nodes.now l.stays l.old.rows.now) (from 0 l.i)
