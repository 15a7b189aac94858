use Rattle.std.proofs.Common.{◌≡◌, ◌+◌, ◌<◌, ◌&&◌, true, false, arith, ap, drop, length, sym, ◌∙◌}
use Rattle.std.proofs.lemmas.List.{get_or_read}
use Rattle.act_grid.specs.Cell.{root_cell}
use Rattle.act_super.specs.Grounds.{same_cell}
use Rattle.act_image.specs.Fresh.{same_cells}
use Rattle.act_image.proofs.BranchFacts.{not_is}
use Rattle.act_image.proofs.LoopFacts.{cells_differ, cells_end, cells_step, not_not}
use Rattle.act_image.proofs.turned.same_cells.Goals as goal

pub returns-then-cells-others : goal.returns-then-cells-others
returns-then-cells-others c = sym (cells_differ c.args.cells.now c.args.others.now c.if-cells-others.true)

pub loop-i-preserved : goal.loop-i-preserved
loop-i-preserved c =
    let low : c.loop-i.i < length c.args.others.now = omega arith in
    let one = get_or_read c.args.cells.now c.loop-i.i c.index-cells-i.result c.loop-i-test.true c.index-cells-i.is root_cell in
    let other = get_or_read c.args.others.now c.loop-i.i c.index-others-i.result low c.index-others-i.is root_cell in
    let same : same_cell c.index-cells-i.result c.index-others-i.result ≡ true = not_not (same_cell c.index-cells-i.result c.index-others-i.result) (sym c.ne.ensures ∙ c.if-ne.false) in
    c.loop-i.invariant ∙ cells_step c.args.cells.now c.args.others.now c.loop-i.i c.loop-i-test.true low
    ∙ ap (λ b. b && same_cells (drop (c.loop-i.i + 1) c.args.cells.now) (drop (c.loop-i.i + 1) c.args.others.now)) ((λ j. same_cell (sym one j) (sym other j)) ∙ same)

pub returns-then-ne : goal.returns-then-ne
returns-then-ne c =
    let low : c.loop-i.i < length c.args.others.now = omega arith in
    let one = get_or_read c.args.cells.now c.loop-i.i c.index-cells-i.result c.loop-i-test.true c.index-cells-i.is root_cell in
    let other = get_or_read c.args.others.now c.loop-i.i c.index-others-i.result low c.index-others-i.is root_cell in
    let same : same_cell c.index-cells-i.result c.index-others-i.result ≡ false = not_is (same_cell c.index-cells-i.result c.index-others-i.result) (sym c.ne.ensures ∙ c.if-ne.true) in
    sym (c.loop-i.invariant ∙ cells_step c.args.cells.now c.args.others.now c.loop-i.i c.loop-i-test.true low
    ∙ ap (λ b. b && same_cells (drop (c.loop-i.i + 1) c.args.cells.now) (drop (c.loop-i.i + 1) c.args.others.now)) ((λ j. same_cell (sym one j) (sym other j)) ∙ same))

pub returns : goal.returns
returns c = sym (c.loop-i.invariant ∙ cells_end c.args.cells.now c.args.others.now c.loop-i.i c.loop-i-test.false (omega arith))
