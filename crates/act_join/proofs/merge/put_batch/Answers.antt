use Rattle.act_join.proofs.MergeFacts.{merging_batch}
use Rattle.act_join.proofs.merge.put_batch.Goals as goal

pub returns-in_ok-push-in-Some-clause-merges : goal.returns-in_ok-push-in-Some-clause-merges
returns-in_ok-push-in-Some-clause-merges c = λ held made turns order says m.
    rw c.in_ok-push-in-Some.ensures.items
    (merging_batch held made turns order c.args.counts.now c.args.first c.args.replies.now.items says c.args.pieces.now.batches.items c.next_batch.new.batches.items
    c.args.pieces.now.answers.items c.next_batch.new.answers.items c.in-Some.reply m c.in-Some.ensures)
