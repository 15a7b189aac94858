use Rattle.std.proofs.Common.{◌≡◌, ap, ◌∙◌}
use Rattle.act_index.proofs.Answering.{answer_is, means_stands}
use Rattle.act_index.proofs.reader.ask.Goals as goal

pub probe-reads-requires : goal.probe-reads-requires
probe-reads-requires g c =
    let pin = c.pin-pin.result in
    record { stands = means_stands pin.history pin.version.root c.root-root.result pin.version.image c.pin-pin.ensures.fits c.root-root.ensures }

pub returns-clause-answer : goal.returns-clause-answer
returns-clause-answer g c =
    let pin = c.pin-pin.result in
    let seen : c.leave.result.ticket.seen ≡ pin.history = ap (λ t. t.seen) c.leave.ensures.1 ∙ ap (λ z. z.pin.history) c.probe-reads.ensures.same in
    answer_is pin.history c.leave.result.ticket.seen pin.version.root c.root-root.result pin.version.image c.args.layers c.args.p c.probe-reads.new.out c.probe-reads.result c.pin-pin.ensures.fits c.root-root.ensures seen
    c.probe-reads.ensures.keys c.probe-reads.ensures.few
