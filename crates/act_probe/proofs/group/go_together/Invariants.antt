use Rattle.std.proofs.Common.{◌≡◌, ◌+◌, ◌-◌, ◌≤◌, All}
use Rattle.act_grid.specs.declared.Settings.{Settings}
use Rattle.act_super.specs.declared.entry.State.{State}
use Rattle.act_super.specs.Stands.{Stands}
use Rattle.act_probe.specs.declared.group.Way.{Way}
use Rattle.act_probe.specs.Groups.{Goes, led}
use Rattle.act_probe.proofs.group.go_together.Given as goal

-- all ways led together so far
abbrev pub invariant-loop-trunk : goal.invariant-loop-trunk
invariant-loop-trunk g l = record {
  same : l.words ≡ l.fn.words;
  ticks : l.steps ≡ l.fn.steps + l.trunk.nodes;
  count : l.reads ≡ l.fn.reads + l.trunk.nodes;
  few : l.trunk.nodes ≤ 7;
  goes : (settings : Settings) (state : State) (s : Stands settings (g.W.Words.image l.fn.words) l.fn.root state)
      → All (λ (way : Way). Goes settings state s.layout l.trunk.nodes (led l.trunk way)) l.fn.ways;
}

abbrev pub decreases-loop-trunk : goal.decreases-loop-trunk
decreases-loop-trunk g l = 7 - l.trunk.nodes
