use Rattle.std.proofs.Common.{◌≡◌, ℕ, ◌<◌, ◌≤◌, ◌≤ℤ◌, ◌++◌, drop, get_or, length, map, take}
use Rattle.act_probe.specs.declared.buffers.Candidate.{Candidate}
use Rattle.act_probe.specs.Sweeps.{crossed}
use Rattle.act_probe.proofs.sweep.fall.Given as goal

-- the edge was counted for the candidates from the place on, none of which lies below its end
abbrev pub invariant-loop-at : goal.invariant-loop-at
invariant-loop-at l = record {
  before : l.at ≤ l.fn.from;
  state : l.run ≡ take l.at l.fn.run ++ map (crossed l.a l.b) (drop l.at l.fn.run);
  above : (k : ℕ) (d : Candidate) → l.at ≤ k → k < length l.fn.run → l.b.y ≤ℤ (get_or l.fn.run k d).point.y;
}

abbrev pub decreases-loop-at : goal.decreases-loop-at
decreases-loop-at l = l.at
