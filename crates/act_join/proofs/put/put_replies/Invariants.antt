use Rattle.std.proofs.Common.{◌≡◌, ◌++◌, length}
use Rattle.std.specs.Vec.Iter.{into_iter_items, into_iter_len}
use Rattle.act_io.specs.Streams.{stream}
use Rattle.act_join.specs.Puts.{IsAt}
use Rattle.act_join.specs.Replies.{replies_text}
use Rattle.act_join.proofs.put.put_replies.Given as goal

abbrev pub invariant-loop-reply : goal.invariant-loop-reply
invariant-loop-reply g l = record {
  put : IsAt (stream g.K.Sink.written g.K.Sink.faults l.initial.out l.out) l.text.items (replies_text (into_iter_items l.rest)) (l.initial.text.items ++ replies_text l.fn.replies.items);
  left : into_iter_len l.rest ≡ length (into_iter_items l.rest);
}

abbrev pub decreases-loop-reply : goal.decreases-loop-reply
decreases-loop-reply g l = into_iter_len l.rest
