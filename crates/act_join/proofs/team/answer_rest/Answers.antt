use Rattle.std.proofs.Common.{◌∙◌, subst, sym}
use Rattle.act_script.specs.declared.segment.Batch.{Batch}
use Rattle.act_join.specs.Working.{IsFound}
use Rattle.act_join.proofs.FoundFacts.{begins_on, found_more}
use Rattle.act_join.proofs.WorkerFacts.{rest_after, settled_here}
use Rattle.act_join.proofs.team.answer_rest.Goals as goal

pub loop-batch-preserved : goal.loop-batch-preserved
loop-batch-preserved g c =
    let inv = c.loop-batch.invariant in
    let first = c.args.reader.now.ticket.seen in
    let seen = c.loop-batch.reader.ticket.seen in
    let now = c.answer_or.new.reader.ticket.seen in
    let later = c.in-Ok.ensures.later in
    let i = c.loop-batch.batch-index in
    let batches = c.args.batches.now in
    let slots = c.args.slots.items in
    let next = sym inv.left ∙ c.in-Some.ensures.items in
    record {
      found = λ before low s.
          rw c.in_ok-push-in-Ok.ensures.items
          (found_more before seen now batches i c.batch-item.result c.loop-batch.answers.items c.in-Ok.answer c.loop-batch-test.true
          (inv.found before low s) later
          (subst (λ (z : Batch). IsFound before now z c.in-Ok.answer) c.batch-item.is
          (c.in-Ok.ensures.found before (begins_on before first seen low inv.later)
          (settled_here before first seen batches slots i c.batch-item.result c.in-Some.slot c.pop_front.new.self.items c.loop-batch-test.true c.batch-item.is s inv.later next))));
      left = rest_after slots i c.in-Some.slot c.pop_front.new.self.items next;
      later = begins_on first seen now inv.later later;
      table = c.in-Ok.ensures.table ∙ inv.table;
    }
