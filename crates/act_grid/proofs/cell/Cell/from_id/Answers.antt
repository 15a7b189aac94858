use Rattle.std.proofs.Common.{refl, arith}
use Rattle.act_grid.proofs.CellFacts.{id_below, id_above}
use Rattle.act_grid.proofs.IdFacts.{no_odd, from_zeros, zeros_few}
use Rattle.act_grid.proofs.cell.Cell.from_id.Goals as goal
use Rattle.act_grid.proofs.cell.Cell.from_id.Goals.{then-id-eq0-via-then-id-eq0, then-id-eq0-via-else-id-eq0+then-id}

pub returns-then-id-eq0-clause-none : goal.returns-then-id-eq0-clause-none
returns-then-id-eq0-clause-none c = λ cell h e.
    elim c.then-id-eq0.branch [
      | then-id-eq0-via-then-id-eq0 w ↦ absurd (omega (arith, id_above cell, e, w.if-id-eq0.true))
      | then-id-eq0-via-else-id-eq0+then-id w ↦ absurd (omega (arith, id_below cell h, e, w.if-id.true))
    ]

pub returns-then-zeros-eq1-clause-none : goal.returns-then-zeros-eq1-clause-none
returns-then-zeros-eq1-clause-none c = no_odd c.args.id _ refl (omega arith) c.if-id.false c.if-zeros-eq1.true

pub overflow_sub-result : goal.overflow_sub-result
overflow_sub-result c = zeros_few c.args.id (omega arith) c.if-id.false

pub invariant_of-result : goal.invariant_of-result
invariant_of-result c = (from_zeros c.args.id _ refl (omega arith) c.if-id.false c.if-zeros-eq1.false).0

pub returns-clause-some : goal.returns-clause-some
returns-clause-some c = (from_zeros c.args.id _ refl (omega arith) c.if-id.false c.if-zeros-eq1.false).1
