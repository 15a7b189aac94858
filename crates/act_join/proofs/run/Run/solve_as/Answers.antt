use Rattle.std.proofs.Common.{sym}
use Rattle.act_join.specs.Working.{held_by}
use Rattle.act_join.proofs.SolveFacts.{kept_both}
use Rattle.act_join.proofs.run.Run.solve_as.Goals as goal

pub returns-clause-kept : goal.returns-clause-kept
returns-clause-kept g c =
    let old = c.self.inside.updating in
    let now = c.solve.new.self in
    kept_both c.solve.result (held_by old.writer) (held_by now.writer) old.points.items now.points.items c.args.self.now c.args.steps.items (sym c.self.view_is)
    c.solve.ensures.held c.solve.ensures.points
