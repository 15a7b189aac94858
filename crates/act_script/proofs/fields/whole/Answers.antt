use Rattle.std.proofs.Common.{◌+◌, ◌*◌, ◌<◌, sym, get_or, arith}
use Rattle.std.specs.Char.{digit_value}
use Rattle.std.specs.Int.{IsInRange}
use Rattle.std.proofs.lemmas.Str.{digit_value_digit}
use Rattle.std.proofs.lemmas.Str.Parse.{digit_from_value}
use Rattle.act_script.proofs.NumberFacts.{none_over}
use Rattle.act_script.proofs.fields.whole.Goals as goal
use Rattle.act_script.proofs.fields.whole.Goals.{then-value-tenth-via-then-value-tenth, then-value-tenth-via-else-value-tenth+then-digit-most}

pub returns-then-value-tenth : goal.returns-then-value-tenth
returns-then-value-tenth c =
    let byte = get_or c.args.text.now c.loop-b.b-index 0 in
    let digit : IsInRange 48 57 byte = digit_from_value byte c.if-not-is_ascii_digit.ensures.bound in
    let value = digit_value_digit byte digit in
    let over : c.args.most < c.loop-b.value * 10 + digit_value byte =
    elim c.then-value-tenth.branch [
      | then-value-tenth-via-then-value-tenth w ↦ omega arith
      | then-value-tenth-via-else-value-tenth+then-digit-most w ↦ omega arith
    ] in
    sym (none_over c.args.most c.loop-b.value (c.loop-b.value * 10 + digit_value byte) c.args.text.now c.loop-b.b-index
    c.loop-b-test.true c.loop-b.invariant.value (omega arith) over)
