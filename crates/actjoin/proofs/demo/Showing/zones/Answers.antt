use Rattle.std.proofs.Common.{◌*◌, ◌∷◌, [], arith}
use Rattle.actjoin.specs.Demo.{zone_item, zones}
use Rattle.actjoin.specs.Showing.{Leads}
use Rattle.actjoin.proofs.SumFacts.{one_taken}
use Rattle.actjoin.proofs.demo.Showing.zones.Goals as goal

pub loop-key-preserved : goal.loop-key-preserved
loop-key-preserved g c =
    let inv = c.loop-key.invariant in
    let leads : Leads c.loop-key.self (zone_item c.args.side c.loop-key.key ∷ []) c.take.new.self = rw c.in_ok-zone.ensures at c.in_ok-take.ensures.leads in
    record {
      number = omega (arith, inv.number, c.in_ok-take.ensures.number);
      leads = one_taken (zone_item c.args.side) c.args.self.now c.loop-key.self c.take.new.self (zones c.args.side) c.loop-key.key (c.args.side * c.args.side) c.loop-key-test.true inv.leads leads;
    }
