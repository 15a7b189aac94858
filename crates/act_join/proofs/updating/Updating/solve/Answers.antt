use Rattle.std.proofs.Common.{ap}
use Rattle.act_join.proofs.SolveFacts.{if_all, on_all, open_is}
use Rattle.act_join.proofs.updating.Updating.solve.Goals as goal

pub returns-in-Ok-clause-solves : goal.returns-in-Ok-clause-solves
returns-in-Ok-clause-solves g c =
    let now = c.args.self.now in
    if_all c.close.result _ _ c.close.ensures.solves (λ solved all. all now.writer now.points.items c.args.steps.items
    (open_is now.writer now.points.items c.args.steps.items c.open.new.self c.in-Ok.parts c.version-first.result c.open.ensures.same.0 (ap (λ v. v.items) c.open.ensures.same.1)
    c.in-Ok.ensures.waiting c.in-Ok.ensures.decided c.in-Ok.ensures.counts c.in-Ok.ensures.batches c.in-Ok.ensures.order c.version-first.ensures.whole c.version-first.ensures.version))

pub returns-in-Ok-clause-held : goal.returns-in-Ok-clause-held
returns-in-Ok-clause-held g c =
    let now = c.args.self.now in
    on_all c.close.result _ _ c.close.ensures.held (λ all. all now.writer now.points.items c.args.steps.items
    (open_is now.writer now.points.items c.args.steps.items c.open.new.self c.in-Ok.parts c.version-first.result c.open.ensures.same.0 (ap (λ v. v.items) c.open.ensures.same.1)
    c.in-Ok.ensures.waiting c.in-Ok.ensures.decided c.in-Ok.ensures.counts c.in-Ok.ensures.batches c.in-Ok.ensures.order c.version-first.ensures.whole c.version-first.ensures.version))

pub returns-in-Ok-clause-points : goal.returns-in-Ok-clause-points
returns-in-Ok-clause-points g c =
    let now = c.args.self.now in
    on_all c.close.result _ _ c.close.ensures.points (λ all. all now.writer now.points.items c.args.steps.items
    (open_is now.writer now.points.items c.args.steps.items c.open.new.self c.in-Ok.parts c.version-first.result c.open.ensures.same.0 (ap (λ v. v.items) c.open.ensures.same.1)
    c.in-Ok.ensures.waiting c.in-Ok.ensures.decided c.in-Ok.ensures.counts c.in-Ok.ensures.batches c.in-Ok.ensures.order c.version-first.ensures.whole c.version-first.ensures.version))
