use Rattle.std.proofs.Common.{◌≡◌, ℕ, ◌+◌, ◌-◌, ◌*◌, ◌≤◌, ◌++◌, All, drop, length, map, sum_by, take}
use Rattle.act_super.specs.declared.entry.Zone.{Zone}
use Rattle.act_probe.specs.declared.buffers.Candidate.{Candidate}
use Rattle.act_probe.specs.Reads.{body_reads}
use Rattle.act_probe.specs.Batches.{Asks, answered}
use Rattle.act_probe.proofs.settle.resolve.Given as goal

-- the candidates before the place were tested, and the others stand as they stood
abbrev pub invariant-loop-start : goal.invariant-loop-start
invariant-loop-start g l = record {
  same : l.words ≡ l.fn.words;
  ticks : l.steps + l.fn.reads ≡ l.fn.steps + l.reads;
  within : l.start ≤ length l.fn.candidates;
  long : length l.candidates ≡ length l.fn.candidates;
  bound : l.reads ≤ l.fn.reads + 699052 * l.start;
  rest : drop l.start l.candidates ≡ drop l.start l.fn.candidates;
  at : (zones : ℕ → Zone) → All (λ (c : Candidate). Asks (g.W.Words.image l.fn.words) (zones c.slot) c) l.fn.candidates
      → (l.candidates ≡ map (answered zones) (take l.start l.fn.candidates) ++ drop l.start l.fn.candidates)
      × (l.reads ≤ l.fn.reads + sum_by (λ (c : Candidate). body_reads (zones c.slot)) (take l.start l.fn.candidates));
}

abbrev pub decreases-loop-start : goal.decreases-loop-start
decreases-loop-start g l = length l.initial.candidates - l.start
