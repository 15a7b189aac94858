use Rattle.std.proofs.Common.{◌≡◌, ℕ, ◌+◌, ◌*◌, ◌≤◌, All, length, map, sum_by}
use Rattle.act_grid.specs.declared.Settings.{Settings}
use Rattle.act_super.specs.declared.entry.State.{State}
use Rattle.act_super.specs.Stands.{Stands}
use Rattle.act_probe.specs.declared.group.Way.{Way}
use Rattle.act_probe.specs.Groups.{Goes}
use Rattle.act_probe.proofs.group.go_down.Given as goal

-- the points have come down to this depth
abbrev pub invariant-loop-depth : goal.invariant-loop-depth
invariant-loop-depth g l = record {
  same : l.words ≡ l.fn.words;
  ticks : l.steps + l.fn.reads ≡ l.fn.steps + l.reads;
  bound : l.reads ≤ l.fn.reads + l.depth * length l.fn.ways;
  count : l.reads + sum_by (λ (way : Way). way.nodes) l.fn.ways ≡ l.fn.reads + sum_by (λ (way : Way). way.nodes) l.ways;
  points : map (λ (way : Way). way.point) l.ways ≡ map (λ (way : Way). way.point) l.fn.ways;
  at : (root : ℕ) (settings : Settings) (state : State) (s : Stands settings (g.W.Words.image l.fn.words) root state) → All (Goes settings state s.layout l.fn.from) l.fn.ways
      → All (Goes settings state s.layout l.depth) l.ways;
}
