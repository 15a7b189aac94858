use Rattle.std.proofs.Common.{◌≡◌, ◌+◌, ◌&&◌, true, false, ap, drop, sym, ◌∙◌}
use Rattle.std.specs.List.{list_all}
use Rattle.act_image.specs.Turned.{is_free}
use Rattle.act_image.proofs.LoopFacts.{all_end, all_step}
use Rattle.act_image.proofs.turned.are_free.Goals as goal

pub loop-cell-preserved : goal.loop-cell-preserved
loop-cell-preserved c =
    let test = is_free c.args.next.now.entry c.args.state.now.state.zones in
    let free : test c.cell-item.result ≡ true = sym c.is_free.ensures ∙ c.if-not-is_free.false in
    c.loop-cell.invariant ∙ all_step test c.args.cells.now c.loop-cell.cell-index c.cell-item.result c.loop-cell-test.true
    ∙ ap (λ b. b && list_all test (drop (c.loop-cell.cell-index + 1) c.args.cells.now)) (ap test (sym c.cell-item.is) ∙ free)

pub returns-then-not-is_free : goal.returns-then-not-is_free
returns-then-not-is_free c =
    let test = is_free c.args.next.now.entry c.args.state.now.state.zones in
    let met : test c.cell-item.result ≡ false = sym c.is_free.ensures ∙ c.if-not-is_free.true in
    sym (c.loop-cell.invariant ∙ all_step test c.args.cells.now c.loop-cell.cell-index c.cell-item.result c.loop-cell-test.true
    ∙ ap (λ b. b && list_all test (drop (c.loop-cell.cell-index + 1) c.args.cells.now)) (ap test (sym c.cell-item.is) ∙ met))

pub returns : goal.returns
returns c = sym (c.loop-cell.invariant ∙ all_end (is_free c.args.next.now.entry c.args.state.now.state.zones) c.args.cells.now c.loop-cell.cell-index Rattle.act_grid.specs.Cell.root_cell c.loop-cell-test.false)
