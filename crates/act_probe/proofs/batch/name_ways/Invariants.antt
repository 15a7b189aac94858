use Rattle.std.proofs.Common.{◌≡◌, ℕ, ◌+◌, ◌*◌, ◌≤◌, ◌++◌, All, length, map, sum_by, take}
use Rattle.std.specs.Prelude.{vec_capacity}
use Rattle.act_grid.specs.declared.Settings.{Settings}
use Rattle.act_super.specs.declared.entry.State.{State}
use Rattle.act_super.specs.Stands.{Stands}
use Rattle.act_probe.specs.declared.group.Way.{Way}
use Rattle.act_probe.specs.Groups.{IsDown}
use Rattle.act_probe.specs.Names.{leaf_reads, named_from}
use Rattle.act_probe.proofs.batch.name_ways.Given as goal

-- the references of the leaves before the index were put
abbrev pub invariant-loop-i : goal.invariant-loop-i
invariant-loop-i g l = record {
  same : l.words ≡ l.fn.words;
  ticks : l.steps + l.fn.reads ≡ l.fn.steps + l.reads;
  space : vec_capacity l.named ≡ vec_capacity l.fn.named;
  long : length l.named.items ≤ length l.fn.named.items + 510 * l.i;
  bound : l.reads ≤ l.fn.reads + 256 * l.i;
  few : (root : ℕ) (settings : Settings) (state : State) (s : Stands settings (g.W.Words.image l.fn.words) root state) → All (IsDown settings state s.layout) l.ways
      → l.reads + sum_by (λ (way : Way). way.nodes) (take l.i l.ways) ≤ l.fn.reads + sum_by (leaf_reads settings state) (map (λ (way : Way). way.point) (take l.i l.ways));
  at : (root : ℕ) (settings : Settings) (state : State) (s : Stands settings (g.W.Words.image l.fn.words) root state) → All (IsDown settings state s.layout) l.ways
      → l.named.items ≡ l.fn.named.items ++ named_from s.layout settings state l.fn.first (map (λ (way : Way). way.point) (take l.i l.ways));
}
