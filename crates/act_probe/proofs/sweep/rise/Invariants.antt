use Rattle.std.proofs.Common.{◌≡◌, ℕ, ◌-◌, ◌<◌, ◌≤◌, ◌<ℤ◌, ◌++◌, drop, get_or, length, map, take}
use Rattle.act_probe.specs.declared.buffers.Candidate.{Candidate}
use Rattle.act_probe.specs.Sweeps.{crossed}
use Rattle.act_probe.proofs.sweep.rise.Given as goal

-- the edge was counted for the candidates before the place, which lie below its end
abbrev pub invariant-loop-at : goal.invariant-loop-at
invariant-loop-at l = record {
  within : l.at ≤ length l.fn.run;
  after : l.fn.from ≤ l.at;
  state : l.run ≡ map (crossed l.a l.b) (take l.at l.fn.run) ++ drop l.at l.fn.run;
  below : (k : ℕ) (d : Candidate) → k < l.at → (get_or l.fn.run k d).point.y <ℤ l.b.y;
}

abbrev pub decreases-loop-at : goal.decreases-loop-at
decreases-loop-at l = length l.initial.run - l.at
