use Rattle.std.proofs.Common.{sym, ◌∙◌}
use Rattle.act_super.proofs.Sameness.{not_false, not_true, ring_differs, ring_same}
use Rattle.act_super.proofs.same.same.Goals as goal

pub returns-then-ne : goal.returns-then-ne
returns-then-ne c =
    sym (c.loop-k.invariant
    ∙ ring_differs c.args.a.now c.args.b.now c.loop-k.k c.ring.result.now c.ring-in-loop-k.result.now c.ring.ensures.item c.ring-in-loop-k.ensures.item
    (not_true _ (sym c.ne.ensures ∙ c.if-ne.true)))

pub loop-k-preserved : goal.loop-k-preserved
loop-k-preserved c =
    c.loop-k.invariant
    ∙ ring_same c.args.a.now c.args.b.now c.loop-k.k c.ring.result.now c.ring-in-loop-k.result.now c.ring.ensures.item c.ring-in-loop-k.ensures.item
    (not_false _ (sym c.ne.ensures ∙ c.if-ne.false))
