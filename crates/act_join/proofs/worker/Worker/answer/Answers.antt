use Rattle.std.proofs.Common.{◌∙◌, ap, refl, sym, subst}
use Rattle.act_rows.specs.History.{Begins}
use Rattle.act_rows.specs.Tokens.{Guested}
use Rattle.act_join.specs.Working.{IsFound}
use Rattle.act_join.proofs.WorkerFacts.{read_at, work_kept, work_same}
use Rattle.act_join.proofs.worker.Worker.answer.Goals as goal

pub returns-in-Ok-clause-works : goal.returns-in-Ok-clause-works
returns-in-Ok-clause-works g c = λ table before works.
    let batches = c.args.batches.now in
    let item = c.index-batches-place.result in
    let same = c.keep.ensures.same.0 in
    work_kept table before batches c.args.self.now c.keep.new.self (record { place = c.args.place; answer = c.in-Ok.answer }) item c.keep.result works
    (ap (λ (r : Guested). r.table) same ∙ c.in-Ok.ensures.table)
    (subst (λ (r : Guested). Begins c.args.self.now.reader.ticket.seen r.ticket.seen) (sym same) c.in-Ok.ensures.later)
    c.keep.ensures.found
    (read_at batches c.args.place item c.requires c.index-batches-place.is)
    (subst (λ (r : Guested). IsFound before r.ticket.seen item c.in-Ok.answer) (sym same) (c.in-Ok.ensures.found before works.low))

pub returns-in-Err-clause-works : goal.returns-in-Err-clause-works
returns-in-Err-clause-works g c = λ table before works.
    work_same table before c.args.batches.now c.args.self.now _ works c.in-Err.ensures.table c.in-Err.ensures.later refl
