use Rattle.std.proofs.Common.{◌++◌, ◌∷◌, [], ap, ◌∙◌, codes, append_assoc, ◌+◌, drop, flat_map}
use Rattle.act_wkt.specs.Spelling.{ring_text, spelling}
use Rattle.act_wkt.proofs.Written.{one_item}
use Rattle.act_wkt.proofs.writer.write.Goals as goal

pub loop-k-preserved : goal.loop-k-preserved
loop-k-preserved c =
    let ring = c.ring-in-loop-k.result.now in
    let text = ring_text c.args.digits ring in
    ap (λ l. l ++ (flat_map (λ other. 44 ∷ ring_text c.args.digits other) (drop (c.loop-k.k + 1) c.args.shape.now) ++ codes ")"))
    (c.in_ok-put_ring-2.ensures ∙ ap (λ l. l ++ text) c.in_ok-push.ensures.items ∙ append_assoc c.loop-k.bytes.items (44 ∷ []) text)
    ∙ one_item (λ other. 44 ∷ ring_text c.args.digits other) c.loop-k.bytes.items (spelling c.args.digits c.args.shape.now) (codes ")") c.args.shape.now c.loop-k.k ring c.ring-in-loop-k.ensures.item c.loop-k.invariant
