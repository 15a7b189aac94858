use Rattle.std.proofs.Common.{drop, ◌+◌, ◌++◌, get_or}
use Rattle.std.specs.Prelude.{slice_index}
use Rattle.act_index.specs.declared.pairs.Pair.{Pair}
use Rattle.act_join.specs.Replies.{key_text, pairs_text}
use Rattle.act_join.proofs.PairFacts.{pairs_step}
use Rattle.act_join.proofs.PutFacts.{at_more, puts_stops}
use Rattle.act_join.proofs.put.put_pairs.Goals as goal

pub returns-in_err-put_pair : goal.returns-in_err-put_pair
returns-in_err-put_pair g c =
    let pairs = c.args.pairs.now in
    let ids = c.args.ids.now in
    let i = c.loop-pair.pair-index in
    let none : Pair = record { point = 0; key = 0 } in
    let pair = get_or pairs i none in
    puts_stops _ _ _ _ _ _ c.loop-pair.text.items (key_text (slice_index ids pair.point) pair.key) (pairs_text ids (drop (i + 1) pairs))
    c.args.text.now.items (pairs_text ids pairs) c.put_pair.new.text.items c.in_err-put_pair.field-0.0 c.from_residual.result c.from_residual.ensures.1
    (rw (← pairs_step ids pairs i none c.loop-pair-test.true) c.loop-pair.invariant) (rw c.id_at.ensures at c.in_err-put_pair.ensures)

pub loop-pair-preserved : goal.loop-pair-preserved
loop-pair-preserved g c =
    let pairs = c.args.pairs.now in
    let ids = c.args.ids.now in
    let i = c.loop-pair.pair-index in
    let none : Pair = record { point = 0; key = 0 } in
    let pair = get_or pairs i none in
    at_more _ _ _ _ _ _ c.loop-pair.text.items c.put_pair.new.text.items (key_text (slice_index ids pair.point) pair.key) (pairs_text ids (drop (i + 1) pairs))
    (c.args.text.now.items ++ pairs_text ids pairs)
    (rw (← pairs_step ids pairs i none c.loop-pair-test.true) c.loop-pair.invariant) (rw c.id_at.ensures at c.in_ok-put_pair.ensures)
