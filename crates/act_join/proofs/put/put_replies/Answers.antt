use Rattle.std.proofs.Common.{◌++◌, arith, ap, ◌∙◌, length}
use Rattle.std.specs.Vec.Iter.{into_iter_items}
use Rattle.act_join.specs.Replies.{one_text, replies_text}
use Rattle.act_join.proofs.PartsFacts.{nothing_left}
use Rattle.act_join.proofs.PutFacts.{at_more, puts_stops}
use Rattle.act_join.proofs.put.put_replies.Goals as goal

pub loop-reply-preserved : goal.loop-reply-preserved
loop-reply-preserved g c =
    let items = c.in-Some.ensures.items in
    let next = into_iter_items c.next.new.self in
    let left = c.loop-reply.invariant.left ∙ ap length items in
    record {
      put = at_more _ _ _ _ _ _ c.loop-reply.text.items c.put_reply.new.text.items (one_text c.in-Some.reply) (replies_text next)
          (c.args.text.now.items ++ replies_text c.args.replies.items) (rw items at c.loop-reply.invariant.put) c.in_ok-put_reply.ensures;
      left = omega (arith, c.in-Some.ensures.len, left);
    }

pub returns-in_err-put_reply : goal.returns-in_err-put_reply
returns-in_err-put_reply g c =
    puts_stops _ _ _ _ _ _ c.loop-reply.text.items (one_text c.in-Some.reply) (replies_text (into_iter_items c.next.new.self))
    c.args.text.now.items (replies_text c.args.replies.items) c.put_reply.new.text.items c.in_err-put_reply.field-0.0 c.from_residual.result c.from_residual.ensures.1
    (rw c.in-Some.ensures.items at c.loop-reply.invariant.put) c.in_err-put_reply.ensures

pub returns : goal.returns
returns g c =
    let none = nothing_left (into_iter_items c.loop-reply.rest) _ c.loop-reply.invariant.left c.in_default.ensures.variant.1 in
    rw none at c.loop-reply.invariant.put
