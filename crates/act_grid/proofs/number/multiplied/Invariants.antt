use Rattle.std.proofs.Common.{◌≡◌, ◌≤◌, ◌*◌, ◌^◌, min}
use Rattle.act_grid.proofs.number.multiplied.Given as goal

abbrev pub invariant-loop-power : goal.invariant-loop-power
invariant-loop-power l = record {
  capped : l.value ≤ 4294967296;
  rest : min (l.value * 10 ^ l.power) 4294967296 ≡ min (l.fn.value * 10 ^ l.fn.power) 4294967296;
}

abbrev pub decreases-loop-power : goal.decreases-loop-power
decreases-loop-power l = l.power
