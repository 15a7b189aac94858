use Rattle.std.proofs.Common.{refl}
use Rattle.act_join.proofs.PieceFacts.{end_stopped, last_taken, none_taken}
use Rattle.act_join.proofs.progress.Progress.finish_line.Goals as goal

pub returns-in-Ok-true-clause-takes : goal.returns-in-Ok-true-clause-takes
returns-in-Ok-true-clause-takes g c =
    let end = rw c.in-Ok-true.field-0-test at c.in-Ok-true.ensures.takes in
    last_taken c.take_line.result c.args.digits c.args.self.now c.take_line.new.self c.finish.new.self _ end.0 end.1 c.take_line.ensures.takes

pub returns-in-Ok-false-clause-takes : goal.returns-in-Ok-false-clause-takes
returns-in-Ok-false-clause-takes g c =
    let end = rw c.in-Ok-false.field-0-test at c.in-Ok-false.ensures.takes in
    none_taken c.args.digits c.args.self.now (record { cutter = c.finish.new.self; segmenter = c.args.self.now.segmenter; run = c.args.self.now.run }) _ end.1 refl refl

pub returns-in-Err-clause-takes : goal.returns-in-Err-clause-takes
returns-in-Err-clause-takes g c =
    rw c.end_at_cut.ensures (end_stopped c.in-Err.fault c.args.digits c.number.result c.args.self.now _ _ _ (rw c.in-Err.ensures.fault.1 at c.number.ensures) c.in-Err.ensures.fault.0)
