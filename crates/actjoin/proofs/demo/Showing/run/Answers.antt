use Rattle.actjoin.specs.Showing.{Finishes, ShowsAll}
use Rattle.actjoin.proofs.SumFacts.{all_shown, when_done}
use Rattle.actjoin.proofs.demo.Showing.run.Goals as goal

pub returns : goal.returns
returns g c =
    when_done c.finish.result (Finishes c.points-2.new.self c.finish.new.self) (ShowsAll c.args.side c.args.self.now c.finish.new.self)
    (all_shown c.args.side c.args.self.now c.zones.new.self c.take.new.self c.points.new.self c.take-2.new.self c.take-3.new.self c.drops.new.self c.take-4.new.self
    c.points-2.new.self c.finish.new.self c.in_ok-zones.ensures.leads c.in_ok-take.ensures.leads c.in_ok-points.ensures.leads c.in_ok-take-2.ensures.leads
    c.in_ok-take-3.ensures.leads c.in_ok-drops.ensures.leads c.in_ok-take-4.ensures.leads c.in_ok-points-2.ensures.leads) c.finish.ensures
