use Rattle.std.proofs.Common.{length, ◌≤◌}
use Rattle.act_script.proofs.segment_tests.take_script.Given as goal

abbrev pub invariant-loop-piece : goal.invariant-loop-piece
invariant-loop-piece l = l.segmenter.number ≤ l.cutter.number

abbrev pub invariant-loop-rest : goal.invariant-loop-rest
invariant-loop-rest l = l.segmenter.number ≤ l.cutter.number

abbrev pub decreases-loop-rest : goal.decreases-loop-rest
decreases-loop-rest l = length l.rest
