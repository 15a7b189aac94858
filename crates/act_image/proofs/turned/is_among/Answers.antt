use Rattle.std.proofs.Common.{◌≡◌, ◌+◌, ◌||◌, true, false, ap, drop, sym, ◌∙◌}
use Rattle.act_super.specs.Grounds.{is_among, same_cell}
use Rattle.act_image.proofs.LoopFacts.{any_end, any_step}
use Rattle.act_image.proofs.turned.is_among.Goals as goal

pub returns-then-eq : goal.returns-then-eq
returns-then-eq c =
    let yes : same_cell c.other-item.result c.args.cell ≡ true = sym c.eq.ensures ∙ c.if-eq.true in
    sym (c.loop-other.invariant ∙ any_step (λ d. same_cell d c.args.cell) c.args.cells.now c.loop-other.other-index c.other-item.result c.loop-other-test.true
    ∙ ap (λ d. same_cell d c.args.cell || is_among (drop (c.loop-other.other-index + 1) c.args.cells.now) c.args.cell) (sym c.other-item.is)
    ∙ ap (λ b. b || is_among (drop (c.loop-other.other-index + 1) c.args.cells.now) c.args.cell) yes)

pub loop-other-preserved : goal.loop-other-preserved
loop-other-preserved c =
    let no : same_cell c.other-item.result c.args.cell ≡ false = sym c.eq.ensures ∙ c.if-eq.false in
    c.loop-other.invariant ∙ any_step (λ d. same_cell d c.args.cell) c.args.cells.now c.loop-other.other-index c.other-item.result c.loop-other-test.true
    ∙ ap (λ d. same_cell d c.args.cell || is_among (drop (c.loop-other.other-index + 1) c.args.cells.now) c.args.cell) (sym c.other-item.is)
    ∙ ap (λ b. b || is_among (drop (c.loop-other.other-index + 1) c.args.cells.now) c.args.cell) no

pub returns : goal.returns
returns c = sym (c.loop-other.invariant ∙ any_end (λ d. same_cell d c.args.cell) c.args.cells.now c.loop-other.other-index c.args.cell c.loop-other-test.false)
