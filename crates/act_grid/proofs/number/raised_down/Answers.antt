use Rattle.std.proofs.Common.{ap, ◌∙◌, arith, min, ◌+◌, ◌-◌, ◌/◌, length, get_or}
use Rattle.act_grid.proofs.Digits.{all_take, digit_here}
use Rattle.act_grid.proofs.Raised.{lowered_cut, lowered_to_zero}
use Rattle.act_grid.proofs.number.raised_down.Goals as goal

pub returns-then-whole-power : goal.returns-then-whole-power
returns-then-whole-power c =
    let none = lowered_to_zero c.args.whole.now c.args.fraction.now c.args.power (omega arith) c.requires.whole c.requires.fraction in
    omega (arith, none)

pub accumulated-requires-clause-digits : goal.accumulated-requires-clause-digits
accumulated-requires-clause-digits c = all_take (length c.args.whole.now - c.args.power) c.args.whole.now c.requires.whole

pub with_next-requires-clause-digit : goal.with_next-requires-clause-digit
with_next-requires-clause-digit c = digit_here (length c.args.whole.now - c.args.power) c.args.whole.now (omega arith) c.requires.whole

pub returns : goal.returns
returns c =
    c.with_next.ensures
    ∙ ap (λ n. min (n + (get_or c.args.whole.now (length c.args.whole.now - c.args.power) 0 - 48 + 5) / 10) 4294967296) c.accumulated.ensures
    ∙ lowered_cut c.args.whole.now c.args.fraction.now c.args.power 4294967296 c.requires.power c.if-whole-power.false c.requires.whole c.requires.fraction
