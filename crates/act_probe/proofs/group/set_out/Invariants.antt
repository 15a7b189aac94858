use Rattle.std.proofs.Common.{◌≡◌, ◌++◌, drop, map, take}
use Rattle.act_probe.specs.Groups.{led}
use Rattle.act_probe.proofs.group.set_out.Given as goal

-- the ways before the index were set out
abbrev pub invariant-loop-way : goal.invariant-loop-way
invariant-loop-way l = record {
  out : l.ways ≡ map (led l.fn.trunk) (take l.way-index l.fn.ways) ++ drop l.way-index l.fn.ways;
}
