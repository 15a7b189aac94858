use Rattle.std.proofs.Common.{◌≡◌, ◌≤◌, ◌+◌, drop, min, take}
use Rattle.std.specs.Str.Parse.{digits_value_after}
use Rattle.act_grid.specs.Number.{digits_first}
use Rattle.act_grid.proofs.number.leading.Given as goal

abbrev pub invariant-loop-i : goal.invariant-loop-i
invariant-loop-i l = record {
  capped : l.value ≤ 4294967296;
  count : l.i + digits_first (drop l.i l.text) ≡ digits_first l.text;
  rest : min (digits_value_after 10 l.value (take (digits_first (drop l.i l.text)) (drop l.i l.text))) 4294967296
      ≡ min (digits_value_after 10 l.fn.value (take (digits_first l.text) l.text)) 4294967296;
}
