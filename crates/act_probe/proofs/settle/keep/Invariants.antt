use Rattle.std.proofs.Common.{◌≡◌, ◌⊎◌, ℕ, ◌<◌, Bool, List, false, get_or, length, map}
use Rattle.act_probe.specs.declared.buffers.Candidate.{Candidate}
use Rattle.act_probe.specs.Batches.{Settles}
use Rattle.act_probe.proofs.SettleFacts.{Later}
use Rattle.act_probe.proofs.settle.keep.Given as goal

-- the candidates before the index have told their answers
abbrev pub invariant-loop-candidate : goal.invariant-loop-candidate
invariant-loop-candidate l = record {
  long : length l.kept ≡ length l.fn.kept;
  at : (answers : List Bool) → Settles l.fn.kept answers l.candidates → (i : ℕ) → i < length answers
      → (get_or l.kept i false ≡ get_or answers i false) ⊎ Later l.candidate-index (map (λ (c : Candidate). c.slot) l.candidates) i;
}
