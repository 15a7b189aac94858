use Rattle.std.proofs.Common.{◌≡◌, ℕ, ◌+◌, ◌≤◌, All, length, map, sum_by}
use Rattle.act_grid.specs.declared.Settings.{Settings}
use Rattle.act_super.specs.declared.entry.State.{State}
use Rattle.act_super.specs.Stands.{Stands}
use Rattle.act_probe.specs.declared.group.Way.{Way}
use Rattle.act_probe.specs.Groups.{Goes}
use Rattle.act_probe.proofs.HalfFacts.{Half}
use Rattle.act_probe.proofs.group.level.Given as goal

-- the ways before the index have gone on
abbrev pub invariant-loop-way : goal.invariant-loop-way
invariant-loop-way g l = record {
  same : l.words ≡ l.fn.words;
  long : length l.ways ≡ length l.fn.ways;
  none : l.reads ≡ 0 → l.ways ≡ l.fn.ways;
  ticks : l.steps ≡ l.fn.steps + l.reads;
  bound : l.reads ≤ l.way-index;
  count : sum_by (λ (way : Way). way.nodes) l.ways ≡ sum_by (λ (way : Way). way.nodes) l.fn.ways + l.reads;
  points : map (λ (way : Way). way.point) l.ways ≡ map (λ (way : Way). way.point) l.fn.ways;
  at : (root : ℕ) (settings : Settings) (state : State) (s : Stands settings (g.W.Words.image l.fn.words) root state) → All (Goes settings state s.layout l.depth) l.fn.ways
      → Half (Goes settings state s.layout l.depth) (Goes settings state s.layout (l.depth + 1)) l.way-index l.ways;
}
