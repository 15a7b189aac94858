use Rattle.std.proofs.Common.{◌≡◌, ◌+◌, ◌*◌, ◌/◌}
use Rattle.act_grid.specs.declared.Settings.{Settings}
use Rattle.act_super.specs.declared.entry.State.{State}
use Rattle.act_super.specs.Nodes.{IsNode}
use Rattle.act_super.specs.Stands.{Stands}
use Rattle.act_probe.specs.Ways.{over}
use Rattle.act_probe.proofs.descent.descend.Given as goal

-- the row is that of the node on the way at this depth
abbrev pub invariant-loop-depth : goal.invariant-loop-depth
invariant-loop-depth g l = record {
  same : l.words ≡ l.fn.words;
  ticks : l.steps ≡ l.fn.steps + l.depth;
  at : (settings : Settings) (state : State) (s : Stands settings (g.W.Words.image l.fn.words) l.fn.root state)
      → IsNode settings state (over (l.id / 2) (4 * l.depth)) × (l.row ≡ s.layout.node (over (l.id / 2) (4 * l.depth)));
}
