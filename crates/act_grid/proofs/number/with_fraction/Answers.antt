use Rattle.std.proofs.Common.{arith}
use Rattle.act_grid.proofs.Digits.{all_first}
use Rattle.act_grid.proofs.Plain.{both_digits, long_fraction, short_fraction}
use Rattle.act_grid.proofs.number.with_fraction.Goals as goal

pub returns-then-fraction-digits-clause-digits : goal.returns-then-fraction-digits-clause-digits
returns-then-fraction-digits-clause-digits c = all_first c.args.fraction.now (omega (arith, c.leading-value.ensures.count))

pub returns-then-fraction-digits-clause-value : goal.returns-then-fraction-digits-clause-value
returns-then-fraction-digits-clause-value c =
    short_fraction c.args.fraction.now c.args.digits 4294967296 c.args.value c.leading-value.result.0 c.multiplied.result c.if-fraction-digits.true (omega (arith, c.leading-value.ensures.count))
    c.leading-value.ensures.value c.multiplied.ensures

pub returns-clause-digits : goal.returns-clause-digits
returns-clause-digits c =
    both_digits c.args.fraction.now c.split_at.result.0.now c.split_at.result.1.now c.args.digits c.split_at.ensures.front c.split_at.ensures.back
    (omega (arith, c.leading-value-2.ensures.count)) (omega (arith, c.digits_len.ensures.value))

pub returns-clause-value : goal.returns-clause-value
returns-clause-value c =
    long_fraction c.args.fraction.now c.split_at.result.0.now c.split_at.result.1.now c.args.digits 4294967296 c.args.value c.leading-value-2.result.0 c.with_next.result c.if-fraction-digits.false
    c.split_at.ensures.front c.split_at.ensures.back (omega (arith, c.leading-value-2.ensures.count)) (omega (arith, c.digits_len.ensures.value))
    c.leading-value-2.ensures.value c.with_next.ensures
