use Rattle.act_join.proofs.PieceFacts.{closed}
use Rattle.act_join.proofs.progress.Progress.finish.Goals as goal

pub returns-in-Ok : goal.returns-in-Ok
returns-in-Ok g c =
    closed c.close.result c.args.digits c.args.self.now c.finish_line.new.self c.close.new.self.run _ _ _ _ _ _ c.in-Ok.ensures.later c.in-Ok.ensures.takes c.close.ensures.runs
