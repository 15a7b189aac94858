use Rattle.std.proofs.Common.{[], ◌∷◌, List, subst}
use Rattle.act_grid.specs.Cell.{Address, root_cell}
use Rattle.act_cover.specs.declared.held.Held.{Held}
use Rattle.act_cover.specs.Covering.{cells_on}
use Rattle.act_cover.specs.Held.{Puts}
use Rattle.act_cover.proofs.PutFacts.{root_reached}
use Rattle.act_cover.proofs.refine.put_root.Goals as goal

pub returns : goal.returns
returns g c =
    let rings = g.S.Classes.rings c.args.shape.now in
    root_reached rings c.put.new.next c.put.result
    (subst (λ (old : List Held). Puts rings 1 old c.put.new.next (cells_on rings (root_cell ∷ [])) c.put.result) c.requires.empty
    (subst (λ (d : Address). Puts rings 1 c.args.cells.now c.put.new.next (cells_on rings (d ∷ [])) c.put.result) c.root.ensures c.put.ensures))
