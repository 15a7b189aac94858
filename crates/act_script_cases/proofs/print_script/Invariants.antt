use Rattle.std.proofs.Common.{length}
use Rattle.act_script_cases.proofs.print_script.Given as goal

abbrev pub decreases-loop-rest : goal.decreases-loop-rest
decreases-loop-rest g l = length l.rest
