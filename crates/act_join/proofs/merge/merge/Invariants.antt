use Rattle.std.proofs.Common.{List, []}
use Rattle.act_super.specs.declared.entry.Entry.{Entry}
use Rattle.act_script.specs.Turns.{Turn}
use Rattle.act_join.specs.Held.{Held}
use Rattle.act_join.specs.Merging.{IsMerging}
use Rattle.act_join.proofs.merge.merge.Given as goal

abbrev pub invariant-loop : goal.invariant-loop
invariant-loop l =
    (held : Held) (made : List Entry) (turns : List Turn)
    → IsMerging held made turns l.fn.pieces.order.items l.initial.decided.items l.fn.pieces.batches.items l.fn.pieces.answers.items l.counts l.first []
    → IsMerging held made turns l.pieces.order.items l.decided.items l.pieces.batches.items l.pieces.answers.items l.counts l.first l.replies.items
