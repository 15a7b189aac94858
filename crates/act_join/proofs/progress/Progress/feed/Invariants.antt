use Rattle.std.proofs.Common.{◌≡◌, ◌≤◌, ◌+◌, ◌++◌, ℕ, List, length}
use Rattle.act_script.specs.Cutting.{turns}
use Rattle.act_join.specs.Feeds.{Feeds, IsWithin}
use Rattle.act_join.proofs.progress.Progress.feed.Given as goal

abbrev pub invariant-loop-rest : goal.invariant-loop-rest
invariant-loop-rest g l = record {
  within : IsWithin l.self;
  later : g.K.Sink.faults l.fn.out ≤ g.K.Sink.faults l.out;
  turns : turns l.self.cutter + length l.piece ≤ turns l.fn.self.cutter + length l.rest;
  feeds : (taken : List ℕ) × (l.piece ≡ taken ++ l.rest) × Feeds l.digits l.fn.self taken l.self (g.K.Sink.written l.fn.out) (g.K.Sink.written l.out);
}

abbrev pub decreases-loop-rest : goal.decreases-loop-rest
decreases-loop-rest g l = length l.rest
