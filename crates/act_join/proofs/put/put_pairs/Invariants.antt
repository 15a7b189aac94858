use Rattle.std.proofs.Common.{◌++◌, drop}
use Rattle.act_io.specs.Streams.{stream}
use Rattle.act_join.specs.Puts.{IsAt}
use Rattle.act_join.specs.Replies.{pairs_text}
use Rattle.act_join.proofs.put.put_pairs.Given as goal

abbrev pub invariant-loop-pair : goal.invariant-loop-pair
invariant-loop-pair g l =
    IsAt (stream g.K.Sink.written g.K.Sink.faults l.initial.out l.out) l.text.items (pairs_text l.ids (drop l.pair-index l.pairs))
    (l.initial.text.items ++ pairs_text l.ids l.pairs)
