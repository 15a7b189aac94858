use Rattle.std.proofs.Common.{◌≡◌, All, map, take}
use Rattle.act_probe.specs.declared.group.Way.{Way}
use Rattle.act_probe.specs.Ways.{IsTop}
use Rattle.act_probe.proofs.group.begin.Given as goal

-- the points before the index have their ways
abbrev pub invariant-loop-p : goal.invariant-loop-p
invariant-loop-p l = record {
  points : map (λ (way : Way). way.point) l.ways.items ≡ take l.p-index l.points;
  tops : All (λ (way : Way). IsTop way.id way.point) l.ways.items;
}
