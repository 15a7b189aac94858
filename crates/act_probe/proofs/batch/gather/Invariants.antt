use Rattle.std.proofs.Common.{◌≡◌, ◌+◌, ◌*◌, ◌≤◌, length, sum_by, take}
use Rattle.act_grid.specs.declared.Settings.{Settings}
use Rattle.act_super.specs.declared.entry.State.{State}
use Rattle.act_super.specs.Stands.{Stands}
use Rattle.act_probe.specs.Reads.{reads_of}
use Rattle.act_probe.specs.Batches.{Gathers}
use Rattle.act_probe.proofs.batch.gather.Given as goal

-- the first k groups were gathered
abbrev pub invariant-loop-k : goal.invariant-loop-k
invariant-loop-k g l = record {
  same : l.words ≡ l.fn.words;
  ticks : l.steps ≡ l.fn.steps + l.buffers.found.reads;
  room : length l.buffers.found.hits.items ≤ 510 * length (take (l.k * 64) l.points);
  bound : l.buffers.found.reads ≤ 780 * length (take (l.k * 64) l.points);
  few : (settings : Settings) (state : State) → Stands settings (g.W.Words.image l.fn.words) l.fn.root state
      → l.buffers.found.reads ≤ sum_by (λ p. reads_of settings state p l.layers) (take (l.k * 64) l.points);
  at : (settings : Settings) (state : State) → Stands settings (g.W.Words.image l.fn.words) l.fn.root state
      → Gathers (g.W.Words.image l.fn.words) settings state l.layers (take (l.k * 64) l.points) l.buffers.found;
}
