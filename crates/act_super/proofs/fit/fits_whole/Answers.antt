use Rattle.std.proofs.Common.{◌≤◌, arith, ap, length}
use Rattle.act_super.specs.Standings.{values}
use Rattle.act_super.specs.Training.{most_trained}
use Rattle.act_super.proofs.StepFacts.{fit_all}
use Rattle.act_super.proofs.fit.fits_whole.Goals as goal

pub returns : goal.returns
returns c = λ e.
    let few : length c.args.marks.now ≤ most_trained = omega (arith, ap (λ xs. length xs) c.as_slice-count.ensures, c.if-count-gt-MOST_TRAINED.false) in
    fit_all c.args.limit (values c.args.zones.now) c.new-none.result c.args.marks.now c.new-none.ensures few (c.in_ok-fit.ensures e)
