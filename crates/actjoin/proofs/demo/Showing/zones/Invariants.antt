use Rattle.std.proofs.Common.{◌≤◌, ◌+◌, ◌-◌, ◌*◌, map}
use Rattle.std.specs.List.{range_with_len}
use Rattle.actjoin.specs.Demo.{zone_item, zones}
use Rattle.actjoin.proofs.SumFacts.{LeadsOn}
use Rattle.actjoin.proofs.demo.Showing.zones.Given as goal

abbrev pub invariant-loop-key : goal.invariant-loop-key
invariant-loop-key g l = record {
  number : l.self.segmenter.number ≤ l.fn.self.segmenter.number + l.key;
  leads : LeadsOn l.fn.self (zones l.side) (map (zone_item l.side) (range_with_len l.key (l.side * l.side - l.key))) l.self;
}
