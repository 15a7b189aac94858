use Rattle.std.proofs.Common.{[], ap, refl, subst, sym}
use Rattle.act_rows.specs.History.{Begins, History}
use Rattle.act_rows.specs.declared.views.Ticket.{Ticket}
use Rattle.act_join.proofs.SolveFacts.{lent_makes, returned_makes}
use Rattle.act_join.proofs.UpdatingFacts.{makes_more}
use Rattle.act_join.proofs.WorkerFacts.{collected, same_history}
use Rattle.act_join.proofs.updating.Updating.collect.Goals as goal

pub returns-in-Ok-answer_rest-clause-made : goal.returns-in-Ok-answer_rest-clause-made
returns-in-Ok-answer_rest-clause-made g c =
    let old = c.args.self.now.writer in
    let mid = c.settle.new.writer in
    let lent = c.lend.new.self in
    let back = c.give_back.new.self in
    makes_more old mid back [] [] c.in-Ok.ensures.made
    (makes_more mid lent back [] [] (lent_makes mid lent c.in-Ok-lend.ensures.ok.1) (returned_makes lent back c.answer_rest.new.reader.ticket c.give_back.ensures.same))

pub returns-in-Ok-answer_rest-clause-found : goal.returns-in-Ok-answer_rest-clause-found
returns-in-Ok-answer_rest-clause-found g c = λ table before low works.
    let old = c.args.self.now.writer in
    let mid = c.settle.new.writer in
    let lent = c.lend.new.self in
    let back = c.give_back.new.self in
    let batches = c.args.batches.now in
    collected before mid lent back c.in-Ok-lend.reader.ticket.seen c.answer_rest.new.reader.ticket.seen batches c.in-Ok.slots.items c.in-Ok-answer_rest.answers.items
    (ap (λ (t : Ticket). t.seen) c.in-Ok-lend.ensures.ok.2)
    (subst (λ (h : History). Begins before h) (sym (same_history old mid c.in-Ok.ensures.made)) low)
    (c.in-Ok.ensures.settled table before batches refl works)
    (c.in-Ok-answer_rest.ensures.found before)
    c.give_back.ensures.begins
    (returned_makes lent back c.answer_rest.new.reader.ticket c.give_back.ensures.same)
