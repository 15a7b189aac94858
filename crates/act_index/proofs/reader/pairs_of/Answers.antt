use Rattle.std.proofs.Common.{◌<◌, ◌∙◌, get_or, length, refl, arith}
use Rattle.act_probe.specs.declared.buffers.Hit.{Hit}
use Rattle.act_index.specs.declared.pairs.Pair.{Pair}
use Rattle.std.proofs.lemmas.List.{length_push, map_push, take_more}
use Rattle.act_index.specs.Answers.{own_pair}
use Rattle.act_index.proofs.reader.pairs_of.Goals as goal

pub loop-hit-preserved : goal.loop-hit-preserved
loop-hit-preserved c =
    let within : c.loop-hit.hit-index < length c.args.hits.now = omega (arith, c.loop-hit-test.true) in
    let inv = c.loop-hit.invariant in
    let hit : Hit = get_or c.args.hits.now c.loop-hit.hit-index (record { point = 0; key = 0 }) in
    let pair : Pair = record { point = hit.point; key = hit.key } in
    record {
      pairs = rw (c.push_reserved.ensures.items, inv.pairs, take_more c.args.hits.now c.loop-hit.hit-index (record { point = 0; key = 0 }) within, map_push own_pair) refl;
      long = rw c.push_reserved.ensures.items (omega (arith, length_push c.loop-hit.pairs.items pair, inv.long));
      room = c.push_reserved.ensures.capacity ∙ inv.room;
    }
