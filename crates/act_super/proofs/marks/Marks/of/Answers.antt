use Rattle.std.proofs.lemmas.List.Sorted.{IsNonDecreasingBy-from_sort}
use Rattle.act_super.proofs.MarkFacts.{cells_more, copied_more, ids_more, indexed_all}
use Rattle.act_super.proofs.marks.Marks.of.Goals as goal

pub loop-cell-preserved : goal.loop-cell-preserved
loop-cell-preserved c = record {
  all = copied_more c.args.cells.now c.loop-cell.cell-index c.cell-item.result c.loop-cell.all.items c.push.new.self.items c.loop-cell-test.true c.cell-item.is c.loop-cell.invariant.all c.in_ok-push.ensures.items;
  ids = ids_more c.args.cells.now c.loop-cell.cell-index c.cell-item.result c.id_in-id.result c.loop-cell.ids.items c.push-in-loop-cell.new.self.items c.loop-cell-test.true c.cell-item.is c.id_in-id.ensures.is c.loop-cell.invariant.ids c.in_ok-push-2.ensures.items;
  cells = cells_more c.args.cells.now c.loop-cell.cell-index c.cell-item.result c.loop-cell-test.true c.cell-item.is c.id_in-id.ensures.cell c.loop-cell.invariant.cells;
}

pub invariant_of-result : goal.invariant_of-result
invariant_of-result c =
    indexed_all c.args.cells.now c.loop-cell.cell-index c.loop-cell.all.items c.loop-cell.ids.items c.sort.new.self.items c.loop-cell-test.false
    c.loop-cell.invariant.all c.loop-cell.invariant.ids c.loop-cell.invariant.cells c.in_ok-sort.ensures.permutation
    (IsNonDecreasingBy-from_sort (λ x. x) c.sort.new.self.items c.in_ok-sort.ensures.sorted)
