use Rattle.std.proofs.Common.{◌≡◌, ◌≤◌, ◌++◌}
use Rattle.act_wkt.specs.Spelling.{decimals_of, last_digits}
use Rattle.act_wkt.proofs.writer.put_decimals.Given as goal

abbrev pub invariant-loop-left : goal.invariant-loop-left
invariant-loop-left l = record {
  few : l.left ≤ l.digits;
  rest : l.bytes.items ++ last_digits l.left l.magnitude ≡ l.fn.bytes.items ++ decimals_of l.digits l.magnitude;
}

abbrev pub decreases-loop-left : goal.decreases-loop-left
decreases-loop-left l = l.left
