use Rattle.std.proofs.Common.{◌≤◌, ◌+◌, ◌-◌, ◌*◌, map}
use Rattle.std.specs.List.{range_with_len}
use Rattle.actjoin.specs.Demo.{point_item, points}
use Rattle.actjoin.proofs.SumFacts.{LeadsOn}
use Rattle.actjoin.proofs.demo.Showing.points.Given as goal

abbrev pub invariant-loop-id : goal.invariant-loop-id
invariant-loop-id g l = record {
  number : l.self.segmenter.number ≤ l.fn.self.segmenter.number + l.id;
  leads : LeadsOn l.fn.self (points l.side) (map (point_item l.side) (range_with_len l.id (400 * l.side * l.side - l.id))) l.self;
}
