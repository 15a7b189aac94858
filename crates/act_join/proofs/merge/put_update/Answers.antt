use Rattle.act_join.proofs.MergeFacts.{merging_update}
use Rattle.act_join.proofs.merge.put_update.Goals as goal

pub returns-in_ok-push-in-Some : goal.returns-in_ok-push-in-Some
returns-in_ok-push-in-Some c = λ held made turns order batches answers counts first m.
    rw c.in_ok-push-in-Some.ensures.items
    (merging_update held made turns order counts first c.args.replies.now.items c.args.decided.now.items c.next_update.new.decided.items batches answers c.in-Some.reply m c.in-Some.ensures)
