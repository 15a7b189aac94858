use Rattle.std.proofs.Common.{ap, sym, ◌∙◌}
use Rattle.act_cover.specs.Covering.{is_on}
use Rattle.act_cover.proofs.PutFacts.{outside_put, on_put}
use Rattle.act_cover.proofs.refine.put.Goals as goal

pub returns-then-not-is_on : goal.returns-then-not-is_on
returns-then-not-is_on g c =
    outside_put (g.S.Classes.rings c.args.shape.now) c.args.most c.args.next.now c.args.cell (ap is_on (sym c.class_at-class.ensures) ∙ sym c.is_on.ensures ∙ c.if-not-is_on.true) c.requires.held

pub returns : goal.returns
returns g c =
    on_put (g.S.Classes.rings c.args.shape.now) c.args.most c.args.next.now c.put_held.new.next c.args.cell c.put_held.result
    (ap is_on (sym c.class_at-class.ensures) ∙ sym c.is_on.ensures ∙ c.if-not-is_on.false) c.put_held.ensures
