use Rattle.std.proofs.Common.{◌≡◌, ◌++◌, [], drop}
use Rattle.act_super.specs.States.{changed}
use Rattle.act_image.specs.Plans.{leaf_spots, no_fill, put_lists}
use Rattle.act_image.proofs.walk.leaf_parts.Given as goal

abbrev pub invariant-loop-i : goal.invariant-loop-i
invariant-loop-i l = record {
  spots : leaf_spots (changed l.state.state.zones l.next.entry) l.level l.base no_fill l.leaves
      ≡ l.spots.items ++ leaf_spots (changed l.state.state.zones l.next.entry) l.level l.base l.fill (drop l.i l.leaves);
  rows : put_lists (changed l.state.state.zones l.next.entry) no_fill [] l.leaves ≡ put_lists (changed l.state.state.zones l.next.entry) l.fill l.rows.items (drop l.i l.leaves);
}
