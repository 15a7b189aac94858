use Rattle.std.proofs.Common.{◌≤◌, ap, length, arith, subst}
use Rattle.act_super.specs.Sound.{IsLevelled}
use Rattle.act_super.proofs.next.Next.split.Goals as goal

pub overflow_sub-result : goal.overflow_sub-result
overflow_sub-result c =
    let within : c.in-Train.from ≤ length c.self.inside.marks = subst (λ change. IsLevelled c.self.inside.cells c.self.inside.marks change) c.in-Train.is c.self.invariant.0 in
    omega (arith, within, ap (λ xs. length xs) c.as_slice.ensures)
