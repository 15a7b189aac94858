use Rattle.std.proofs.Common.{arith}
use Rattle.act_script.proofs.RecordFacts.{marks-open, marks-shorter}
use Rattle.act_script.proofs.ThresholdFacts.{told_threshold}
use Rattle.act_script.proofs.line.read_line.Goals as goal

pub read_told-requires-clause-short : goal.read_told-requires-clause-short
read_told-requires-clause-short c = rw c.strip_marks-line.ensures (omega (arith, marks-shorter c.args.line.now))

pub read_told-requires-clause-one : goal.read_told-requires-clause-one
read_told-requires-clause-one c = rw c.strip_marks-line.ensures (marks-open c.args.line.now c.requires.one)

pub returns-in-Ok-clause-threshold : goal.returns-in-Ok-clause-threshold
returns-in-Ok-clause-threshold c = told_threshold c.args.digits c.strip_marks-line.result.now c.in-Ok.item c.in-Ok.ensures
