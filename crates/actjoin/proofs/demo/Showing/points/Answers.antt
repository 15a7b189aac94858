use Rattle.std.proofs.Common.{◌*◌, ◌∷◌, [], arith}
use Rattle.actjoin.specs.Demo.{point_item, points}
use Rattle.actjoin.specs.Showing.{Leads}
use Rattle.actjoin.proofs.SumFacts.{one_taken}
use Rattle.actjoin.proofs.demo.Showing.points.Goals as goal

pub loop-id-preserved : goal.loop-id-preserved
loop-id-preserved g c =
    let inv = c.loop-id.invariant in
    let leads : Leads c.loop-id.self (point_item c.args.side c.loop-id.id ∷ []) c.take.new.self = rw c.point.ensures at c.in_ok-take.ensures.leads in
    record {
      number = omega (arith, inv.number, c.in_ok-take.ensures.number);
      leads = one_taken (point_item c.args.side) c.args.self.now c.loop-id.self c.take.new.self (points c.args.side) c.loop-id.id (400 * c.args.side * c.args.side) c.loop-id-test.true inv.leads leads;
    }
