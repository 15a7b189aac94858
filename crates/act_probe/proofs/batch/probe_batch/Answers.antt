use Rattle.act_probe.proofs.batch.probe_batch.Goals as goal

pub finish-requires-clause-gathers : goal.finish-requires-clause-gathers
finish-requires-clause-gathers g c =
    let r = c.requires.stands in
    rw c.gather.ensures.same (r.0, r.1, c.args.layers, c.args.points.now, c.in_ok-gather.ensures.ok r.0 r.1 r.2)

pub returns-clause-hits : goal.returns-clause-hits
returns-clause-hits g c = λ settings state s.
    (rw c.gather.ensures.same at c.in_ok-finish.ensures.hits) settings state c.args.layers c.args.points.now (c.in_ok-gather.ensures.ok settings state s)

pub returns-clause-few : goal.returns-clause-few
returns-clause-few g c = λ settings state s.
    (rw c.gather.ensures.same at c.finish.ensures.few) settings state c.args.layers c.args.points.now (c.in_ok-gather.ensures.ok settings state s)

pub returns-in_err-finish-clause-few : goal.returns-in_err-finish-clause-few
returns-in_err-finish-clause-few g c = λ settings state s.
    (rw c.gather.ensures.same at c.finish.ensures.few) settings state c.args.layers c.args.points.now (c.in_ok-gather.ensures.ok settings state s)
