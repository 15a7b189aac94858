use Rattle.std.proofs.Common.{◌≡◌, ap, ◌∙◌}
use Rattle.act_index.proofs.Answering.{joins_are}
use Rattle.act_index.proofs.reader.ask_all.Goals as goal

pub returns-clause-ok : goal.returns-clause-ok
returns-clause-ok g c =
    let pin = c.pin-pin.result in
    let seen : c.leave.result.ticket.seen ≡ pin.history = ap (λ t. t.seen) c.leave.ensures.1 ∙ ap (λ z. z.pin.history) c.join_held-found.ensures.same in
    joins_are pin.history c.leave.result.ticket.seen pin.version.root pin.version.image c.args.layers c.args.points.now c.join_held-found.result c.pin-pin.ensures.fits seen c.join_held-found.ensures.pairs c.join_held-found.ensures.reads
