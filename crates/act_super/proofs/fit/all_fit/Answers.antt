use Rattle.std.proofs.Common.{◌≡◌, ◌+◌, ◌∙◌, ap, sym, true}
use Rattle.std.specs.Prelude.{nat_le}
use Rattle.act_super.specs.Standings.{values}
use Rattle.act_super.proofs.LossFacts.{rows_within}
use Rattle.act_super.proofs.fit.all_fit.Goals as goal

pub returns : goal.returns
returns c = λ e.
    let test : nat_le (c.args.rows + c.in_ok-lost.lost) c.args.limit ≡ true = ap (nat_le (c.args.rows + c.in_ok-lost.lost)) (sym c.from-limit.ensures) ∙ e in
    rows_within c.args.limit c.args.old.now c.args.marks.now (values c.args.zones.now) c.args.rows c.in_ok-lost.lost c.requires.rows c.in_ok-lost.ensures.is test
