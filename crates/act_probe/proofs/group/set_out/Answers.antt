use Rattle.std.proofs.Common.{arith}
use Rattle.act_probe.proofs.GroupFacts.{led_more, no_way}
use Rattle.act_probe.proofs.group.set_out.Goals as goal

pub loop-way-preserved : goal.loop-way-preserved
loop-way-preserved c = record {
  out = rw c.from-way.ensures (led_more c.args.trunk c.args.ways.now c.loop-way.ways c.loop-way.way-index no_way (omega (arith, c.loop-way-test.true, c.loop-way.auto.ways)) c.loop-way.invariant.out);
}
