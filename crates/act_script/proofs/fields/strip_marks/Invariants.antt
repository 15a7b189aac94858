use Rattle.std.proofs.Common.{◌≡◌, length}
use Rattle.act_script.specs.Fields.{without_marks}
use Rattle.act_script.proofs.fields.strip_marks.Given as goal

abbrev pub invariant-loop-rest : goal.invariant-loop-rest
invariant-loop-rest l = without_marks l.rest ≡ without_marks l.line

abbrev pub decreases-loop-rest : goal.decreases-loop-rest
decreases-loop-rest l = length l.rest
