use Rattle.std.proofs.Common.{◌<◌, length, arith, subst, sym}
use Rattle.act_join.specs.Workers.{IsWorking}
use Rattle.act_join.proofs.team.work_each.Goals as goal

pub returns : goal.returns
returns g c = record {
  works = λ table before all k d within.
      let lt : k < length c.args.team.now = omega (arith, within, c.for_each_mut.auto.s) in
      let at = c.for_each_mut.ensures k d lt in
      subst (IsWorking table before c.args.batches.now) at.1.left
      (at.1.call table before (subst (IsWorking table before c.args.batches.now) (sym at.1.argument_is) (all k d lt)));
}
