use Rattle.std.proofs.Common.{◌*◌, ◌/◌, ◌∷◌, [], arith}
use Rattle.actjoin.specs.Demo.{drop_item, drops}
use Rattle.actjoin.specs.Showing.{Leads}
use Rattle.actjoin.proofs.SumFacts.{one_taken}
use Rattle.actjoin.proofs.demo.Showing.drops.Goals as goal

pub loop-place-preserved : goal.loop-place-preserved
loop-place-preserved g c =
    let inv = c.loop-place.invariant in
    let leads : Leads c.loop-place.self (drop_item c.loop-place.place ∷ []) c.take.new.self = rw c.drop_odd.ensures at c.in_ok-take.ensures.leads in
    record {
      number = omega (arith, inv.number, c.in_ok-take.ensures.number);
      leads = one_taken drop_item c.args.self.now c.loop-place.self c.take.new.self (drops c.args.side) c.loop-place.place (c.args.side * c.args.side / 2) c.loop-place-test.true inv.leads leads;
    }
