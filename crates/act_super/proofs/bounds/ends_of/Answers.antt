use Rattle.std.proofs.Common.{arith, ap, subst}
use Rattle.std.proofs.lemmas.List.{take_all}
use Rattle.act_super.specs.Bounds.{TellEnds, ends_of}
use Rattle.act_super.proofs.BoundFacts.{ends_more}
use Rattle.act_super.proofs.bounds.ends_of.Goals as goal

pub loop-side-preserved : goal.loop-side-preserved
loop-side-preserved c =
    subst (TellEnds c.put_side.new.ends) (ends_more c.args.sides.now c.loop-side.side-index _ c.loop-side-test.true) (c.put_side.ensures (ends_of _) c.loop-side.invariant)

pub returns : goal.returns
returns c = subst (TellEnds c.loop-side.ends) (ap ends_of (take_all c.loop-side.side-index c.args.sides.now (omega (arith, c.loop-side-test.false)))) c.loop-side.invariant
