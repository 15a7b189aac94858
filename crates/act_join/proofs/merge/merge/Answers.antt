use Rattle.std.proofs.Common.{◌≡◌, [], arith}
use Rattle.act_join.proofs.MergeFacts.{merging_done}
use Rattle.act_join.proofs.PartsFacts.{none_there}
use Rattle.act_join.proofs.merge.merge.Goals as goal

pub returns : goal.returns
returns c = λ held made turns m.
    let order = c.loop.pieces.order in
    let none : order.items ≡ [] = none_there order.items order.len c.is_empty.result (omega arith) c.is_empty.ensures c.if-not-is_empty.false in
    rw c.from_vec.ensures
    (merging_done held made turns c.loop.decided.items c.loop.pieces.batches.items c.loop.pieces.answers.items c.args.counts.now c.args.first c.loop.replies.items
    (rw none at (c.loop.invariant held made turns m)))
