use Rattle.std.proofs.Common.{length}
use Rattle.act_script.proofs.cutter_tests.lines_in_pieces.Given as goal

abbrev pub decreases-loop-rest : goal.decreases-loop-rest
decreases-loop-rest l = length l.rest
