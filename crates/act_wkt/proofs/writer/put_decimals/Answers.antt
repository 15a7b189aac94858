use Rattle.std.proofs.Common.{arith, ◌/◌, ◌%◌, ap}
use Rattle.act_wkt.proofs.Written.{one_decimal}
use Rattle.act_wkt.proofs.writer.put_decimals.Goals as goal

pub loop-left-preserved : goal.loop-left-preserved
loop-left-preserved c = record {
  few = omega (arith, c.loop-left.invariant.few);
  rest = rw c.in_ok-push-2.ensures.items
      (one_decimal c.loop-left.bytes.items _ c.loop-left.left c.args.magnitude (c.args.magnitude / c.power_of_ten.result % 10) c.loop-left-test.true c.loop-left.invariant.rest (ap (λ p. c.args.magnitude / p % 10) c.power_of_ten.ensures.value));
}
