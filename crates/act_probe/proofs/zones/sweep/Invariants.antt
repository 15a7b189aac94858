use Rattle.std.proofs.Common.{◌≡◌, ℕ, ◌+◌, ◌-◌, ◌≤◌, All, false, map}
use Rattle.act_super.specs.declared.entry.Zone.{Zone}
use Rattle.act_probe.specs.declared.buffers.Candidate.{Candidate}
use Rattle.act_probe.specs.declared.trace.Stage.TheVariants.{Rings}
use Rattle.act_probe.specs.Chains.{ChainAt}
use Rattle.act_probe.specs.Passes.{HasTaken}
use Rattle.act_probe.specs.Sweeps.{Ascends, IsSet, at_rest}
use Rattle.act_probe.proofs.zones.sweep.Given as goal

-- the first k words were taken, and the walk of each candidate expects those after them
abbrev pub invariant-loop-k : goal.invariant-loop-k
invariant-loop-k g l = record {
  same : l.words ≡ l.fn.words;
  ticks : l.steps ≡ l.fn.steps + l.k + l.chain.passed;
  reads : l.reads ≡ l.fn.reads;
  few : l.chain.passed ≤ l.k;
  even : l.trace.stage ≡ Rings → All (λ (c : Candidate). c.odd ≡ false) l.run;
  ascends : Ascends l.run;
  set : IsSet l.trace l.run;
  rest : map at_rest l.run ≡ map at_rest l.fn.run;
  on : (zones : ℕ → Zone) (all : All (λ (c : Candidate). ChainAt (g.W.Words.image l.fn.words) (zones c.slot) l.fn.row) l.fn.run)
      → HasTaken (g.W.Words.image l.fn.words) l.fn.row zones l.fn.run all l.chain l.trace l.run l.k;
}

abbrev pub decreases-loop-k : goal.decreases-loop-k
decreases-loop-k g l = 349526 - l.k
