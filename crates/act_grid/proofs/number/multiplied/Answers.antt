use Rattle.std.proofs.Common.{◌*◌, ◌^◌, ◌-◌, arith, min, ap, ◌∙◌}
use Rattle.act_grid.proofs.Accumulator.{tenfold}
use Rattle.act_grid.proofs.number.multiplied.Goals as goal

pub loop-power-preserved : goal.loop-power-preserved
loop-power-preserved c = record {
  capped = omega arith;
  rest = ap (λ v. min (v * 10 ^ (c.loop-power.power - 1)) 4294967296) c.min-value.ensures ∙ tenfold c.loop-power.value c.loop-power.power 4294967296 c.loop-power-test.true ∙ c.loop-power.invariant.rest;
}
