use Rattle.std.proofs.Common.{◌∙◌, ap, arith}
use Rattle.std.proofs.lemmas.List.{take_all}
use Rattle.act_geom.specs.Inside.{differ, is_above, is_odd_by}
use Rattle.act_super.proofs.BoundFacts.{odd_up}
use Rattle.act_super.proofs.ends.Ends.odd_above.Goals as goal

pub loop-end-preserved : goal.loop-end-preserved
loop-end-preserved c =
    odd_up (λ v. is_above v c.args.p) _ c.loop-end.end-index _ c.loop-end.odd c.differs-odd.result c.loop-end-test.true (c.differs-odd.ensures ∙ ap (differ c.loop-end.odd) c.is_above.ensures)
    c.loop-end.invariant

pub returns : goal.returns
returns c = λ ends told.
    c.loop-end.invariant ∙ (ap (is_odd_by (λ v. is_above v c.args.p)) (take_all c.loop-end.end-index _ (omega (arith, c.loop-end-test.false))) ∙ told c.if-not-self.false c.args.p)
