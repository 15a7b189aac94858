use Rattle.std.proofs.Common.{◌≤◌, ◌+◌, ◌-◌, ◌*◌, ◌/◌, map}
use Rattle.std.specs.List.{range_with_len}
use Rattle.actjoin.specs.Demo.{drop_item, drops}
use Rattle.actjoin.proofs.SumFacts.{LeadsOn}
use Rattle.actjoin.proofs.demo.Showing.drops.Given as goal

abbrev pub invariant-loop-place : goal.invariant-loop-place
invariant-loop-place g l = record {
  number : l.self.segmenter.number ≤ l.fn.self.segmenter.number + l.place;
  leads : LeadsOn l.fn.self (drops l.side) (map drop_item (range_with_len l.place (l.side * l.side / 2 - l.place))) l.self;
}
