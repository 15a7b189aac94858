use Rattle.std.proofs.Common.{◌∙◌, ap, sym, arith}
use Rattle.act_grid.specs.Cell.{child_of}
use Rattle.act_super.specs.Sound.{spliced}
use Rattle.act_super.specs.Standings.{standing_ground}
use Rattle.act_super.proofs.LeafFacts.{way_begins, way_ends, way_goes_on, way_is_deepest}
use Rattle.act_super.proofs.leaf.leaf_in.Goals as goal

pub loop-init : goal.loop-init
loop-init c = way_begins (standing_ground c.args.marks.now) (spliced c.args.standings.now c.args.from c.args.new c.args.to) c.args.p c.root-cell.result c.root-cell.ensures

pub returns-then-not-asked_in : goal.returns-then-not-asked_in
returns-then-not-asked_in c =
    way_ends (standing_ground c.args.marks.now) (spliced c.args.standings.now c.args.from c.args.new c.args.to) c.args.p c.loop.counter c.loop.cell (sym c.asked_in.ensures ∙ c.if-not-asked_in.true) c.loop.invariant

pub quarter-requires : goal.quarter-requires
quarter-requires c = omega (arith, c.loop.invariant.1, c.loop-test.true)

pub child-cell-requires-clause-level : goal.child-cell-requires-clause-level
child-cell-requires-clause-level c = omega (arith, c.loop.invariant.1, c.loop-test.true)

pub loop-preserved : goal.loop-preserved
loop-preserved c =
    way_goes_on (standing_ground c.args.marks.now) (spliced c.args.standings.now c.args.from c.args.new c.args.to) c.args.p c.loop.counter c.loop.cell c.child-cell.result c.loop-test.true
    (sym c.asked_in.ensures ∙ c.if-not-asked_in.false) c.loop.invariant (c.child-cell.ensures ∙ ap (child_of c.loop.cell) c.quarter.ensures.is)

pub returns : goal.returns
returns c =
    way_is_deepest (standing_ground c.args.marks.now) (spliced c.args.standings.now c.args.from c.args.new c.args.to) c.args.p c.loop.counter c.loop.cell c.loop-test.false c.loop.invariant
