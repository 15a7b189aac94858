use Rattle.std.proofs.Common.{◌<◌, ◌++◌, arith, ap, sym, ◌∙◌, length}
use Rattle.std.proofs.lemmas.Int.{ints}
use Rattle.std.proofs.lemmas.List.{length-append}
use Rattle.std.specs.Str.Parse.{starts_with_minus}
use Rattle.act_grid.proofs.Range.{counted, read_decimal}
use Rattle.act_grid.specs.Number.{value_of, coordinate_of, exponent_of, decimal_of}
use Rattle.act_grid.proofs.number.coord.Goals as goal
use Rattle.act_grid.proofs.number.coord.Goals.{else-is_empty-via-then-is_empty+else-is_empty-2, else-is_empty-via-else-is_empty}

pub returns : goal.returns
unfolding value_of
returns c =
    let d = c.split_decimal-decimal.result in
    let some : 0 < length (d.whole.now ++ d.fraction.now) =
    elim c.else-is_empty.branch [
      | else-is_empty-via-then-is_empty+else-is_empty-2 w ↦ omega (arith, length-append d.whole.now d.fraction.now, counted _ w.if-is_empty-2.ensures)
      | else-is_empty-via-else-is_empty w ↦ omega (arith, length-append d.whole.now d.fraction.now, counted _ w.if-is_empty.ensures)
    ] in
    read_decimal c.has_minus-2.result c.args.digits (decimal_of c.behind_sign-body.result.now) d.whole.now d.fraction.now d.rest.now c.in-Some-exponent.exponent _ c.units-magnitude.result _
    c.split_decimal-decimal.ensures.whole c.split_decimal-decimal.ensures.fraction c.split_decimal-decimal.ensures.rest (sym c.in-Some-exponent.ensures.value) some c.units-magnitude.ensures (omega (arith, ints, c.in-Some-exponent.ensures.small)) c.signed-2.ensures
    ∙ ap (λ n. coordinate_of n c.args.digits (decimal_of c.behind_sign-body.result.now) (exponent_of (decimal_of c.behind_sign-body.result.now).rest)) c.has_minus-2.ensures
    ∙ ap (λ t. coordinate_of (starts_with_minus c.args.text.now) c.args.digits (decimal_of t) (exponent_of (decimal_of t).rest)) c.behind_sign-body.ensures
