use Rattle.std.proofs.Common.{◌∙◌, ap, arith, refl}
use Rattle.std.proofs.lemmas.List.{take_all}
use Rattle.std.specs.Prelude.{sum_by}
use Rattle.act_super.specs.declared.standing.Standing.{Standing}
use Rattle.act_super.specs.Sizes.{chain_rows}
use Rattle.act_super.specs.Standings.{values}
use Rattle.act_super.proofs.NarrowFacts.{sum_more}
use Rattle.act_super.proofs.StandingFacts.{length_values}
use Rattle.act_super.proofs.room.chains.Goals as goal

pub loop-zone-init : goal.loop-zone-init
loop-zone-init c = (refl, omega arith)

pub overflow_add-rows : goal.overflow_add-rows
overflow_add-rows c = omega (arith, c.loop-zone.invariant.1, c.chain_rows-rows.ensures.fits, c.loop-zone-test.true, c.requires)

pub loop-zone-preserved : goal.loop-zone-preserved
loop-zone-preserved c = (
  sum_more (λ (s : Standing). chain_rows s.shape) c.args.zones.now c.loop-zone.zone-index c.zone-item.result c.loop-zone.rows c.chain_rows-rows.result c.loop-zone-test.true c.zone-item.is c.loop-zone.invariant.0 c.chain_rows-rows.ensures.is,
  omega (arith, c.loop-zone.invariant.1, c.chain_rows-rows.ensures.fits),
)

pub returns-clause-sum : goal.returns-clause-sum
returns-clause-sum c =
    c.loop-zone.invariant.0
    ∙ ap (sum_by (λ (s : Standing). chain_rows s.shape)) (take_all c.loop-zone.zone-index (values c.args.zones.now) (omega (arith, c.loop-zone-test.false, length_values c.args.zones.now)))

pub returns-clause-fits : goal.returns-clause-fits
returns-clause-fits c = omega (arith, c.loop-zone.invariant.1, c.requires, c.loop-zone.auto)
