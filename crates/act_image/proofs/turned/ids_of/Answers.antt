use Rattle.std.proofs.Common.{◌+◌, List, ℕ, subst, sym, take}
use Rattle.act_grid.specs.declared.hull.Hull.{Hull}
use Rattle.act_grid.specs.Hull.{IsIn}
use Rattle.act_grid.specs.Cell.{hull_of}
use Rattle.act_super.specs.Choices.{StandFor}
use Rattle.act_super.proofs.SpanFacts.{stand_none}
use Rattle.act_image.proofs.KeyFacts.{all_ids, first_points, one_more}
use Rattle.act_image.proofs.turned.ids_of.Goals as goal

pub loop-cell-init : goal.loop-cell-init
loop-cell-init c = subst (λ (ids : List ℕ). StandFor ids (take 0 (first_points c.args.cells.now))) (sym c.in_ok-ids.ensures.items) stand_none

pub loop-cell-preserved : goal.loop-cell-preserved
loop-cell-preserved c =
    subst (λ (ids : List ℕ). StandFor ids (take (c.loop-cell.cell-index + 1) (first_points c.args.cells.now))) (sym c.in_ok-push.ensures.items)
    (one_more c.args.cells.now c.loop-cell.ids.items c.loop-cell.cell-index c.id.result c.cell-item.result c.leaf.result c.loop-cell-test.true c.cell-item.is c.loop-cell.invariant c.leaf.ensures.cell c.leaf.ensures.level
    (subst (λ (h : Hull). IsIn (hull_of c.leaf.result) h.lo) c.hull.ensures c.leaf.ensures.holds) c.id.ensures)

pub returns : goal.returns
returns c = all_ids c.args.cells.now c.loop-cell.ids.items c.loop-cell.cell-index c.loop-cell-test.false c.loop-cell.invariant
