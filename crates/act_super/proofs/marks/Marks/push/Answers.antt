use Rattle.std.proofs.Common.{◌++◌, ◌∷◌, [], ◌∙◌, ap}
use Rattle.std.specs.Prelude.{insert}
use Rattle.act_super.proofs.MarkFacts.{indexed_pushed}
use Rattle.act_super.proofs.marks.Marks.push.Goals as goal

pub invariant_of-self-2 : goal.invariant_of-self-2
invariant_of-self-2 c =
    indexed_pushed c.self.inside.cells.items c.push.new.self.items c.self.inside.ids.items c.deref.result.now c.insert.new.self.items c.args.cell c.id_in-id.result c.spot_in-at.result c.self.invariant
    (c.deref.ensures.value ∙ c.in_ok-reserve-2.ensures.items)
    (c.in-Ok.ensures.items ∙ ap (λ xs. xs ++ (c.args.cell ∷ [])) c.in_ok-reserve.ensures.items)
    (c.in-Ok-insert.ensures.items ∙ ap (λ xs. insert xs c.spot_in-at.result c.id_in-id.result) c.in_ok-reserve-2.ensures.items)
    c.id_in-id.ensures.cell c.id_in-id.ensures.is c.spot_in-at.ensures.within c.spot_in-at.ensures.below c.spot_in-at.ensures.above
