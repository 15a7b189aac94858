use Rattle.std.proofs.Common.{◌≡◌, ◌≤◌, drop, min, true}
use Rattle.std.specs.Str.{all_ascii_digits}
use Rattle.std.specs.Str.Parse.{digits_value_after}
use Rattle.act_grid.proofs.number.accumulated.Given as goal

abbrev pub invariant-loop-byte : goal.invariant-loop-byte
invariant-loop-byte l = record {
  capped : l.value ≤ 4294967296;
  digits : all_ascii_digits (drop l.byte-index l.digits) ≡ true;
  rest : min (digits_value_after 10 l.value (drop l.byte-index l.digits)) 4294967296 ≡ min (digits_value_after 10 l.fn.value l.digits) 4294967296;
}
