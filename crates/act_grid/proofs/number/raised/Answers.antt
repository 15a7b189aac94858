use Rattle.std.proofs.Common.{ap, ◌∙◌, arith, min, ◌+◌, ◌-◌, ◌/◌, ◌*◌, ◌^◌, length, take, get_or}
use Rattle.std.specs.Str.Parse.{digits_value_after}
use Rattle.act_grid.proofs.Digits.{all_take, digit_here}
use Rattle.act_grid.proofs.Raised.{joined, raised_cut, raised_whole}
use Rattle.act_grid.proofs.number.raised.Goals as goal

pub accumulated-requires-else-fraction-power-clause-digits : goal.accumulated-requires-else-fraction-power-clause-digits
accumulated-requires-else-fraction-power-clause-digits c = all_take c.args.power c.args.fraction.now c.requires.fraction

pub with_next-requires-clause-digit : goal.with_next-requires-clause-digit
with_next-requires-clause-digit c = digit_here c.args.power c.args.fraction.now (omega arith) c.requires.fraction

pub returns-then-fraction-power : goal.returns-then-fraction-power
returns-then-fraction-power c =
    c.multiplied.ensures
    ∙ ap (λ n. min (n * 10 ^ (c.args.power - length c.args.fraction.now)) 4294967296)
    (c.accumulated.ensures ∙ ap (λ v. min (digits_value_after 10 v c.args.fraction.now) 4294967296) c.accumulated-value.ensures ∙ joined c.args.whole.now c.args.fraction.now 4294967296)
    ∙ raised_whole c.args.whole.now c.args.fraction.now c.args.power 4294967296 c.if-fraction-power.true

pub returns-else-fraction-power : goal.returns-else-fraction-power
returns-else-fraction-power c =
    let kept = take c.args.power c.args.fraction.now in
    c.with_next.ensures
    ∙ ap (λ n. min (n + (get_or c.args.fraction.now c.args.power 0 - 48 + 5) / 10) 4294967296)
    (c.accumulated-else-fraction-power.ensures ∙ ap (λ v. min (digits_value_after 10 v kept) 4294967296) c.accumulated-value.ensures ∙ joined c.args.whole.now kept 4294967296)
    ∙ raised_cut c.args.whole.now c.args.fraction.now c.args.power 4294967296 c.if-fraction-power.false c.requires.whole c.requires.fraction
