use Rattle.std.proofs.Common.{◌≡◌, ◌+◌, ◌<◌, ℕ, get_or, length, map}
use Rattle.act_probe.specs.declared.buffers.Candidate.{Candidate}
use Rattle.act_probe.specs.declared.trace.Stage.TheVariants.{Next}
use Rattle.act_probe.specs.Sweeps.{Ascends, IsSet, Passes, at_rest}
use Rattle.act_probe.proofs.zones.pass_row.Given as goal

-- the first words were taken
abbrev pub invariant-loop-i : goal.invariant-loop-i
invariant-loop-i g l = record {
  same : l.words ≡ l.fn.words;
  ticks : l.steps ≡ l.fn.steps + l.i;
  stage : l.now.stage ≡ Next;
  left : l.now.vertices + l.i ≡ l.fn.trace.vertices;
  ascends : Ascends l.run;
  set : IsSet l.now l.run;
  rest : map at_rest l.run ≡ map at_rest l.fn.run;
  passes : (j : ℕ) (d : Candidate) → j < length l.fn.run
      → Passes (g.W.Words.image l.fn.words) l.fn.row l.fn.place l.i l.fn.trace (get_or l.fn.run j d) l.now (get_or l.run j d);
}
