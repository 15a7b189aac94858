use Rattle.std.proofs.Common.{◌+◌, arith}
use Rattle.act_super.specs.Standings.{values}
use Rattle.act_super.proofs.StepFacts.{length_taken, portion_fits, rows_taken, start_of}
use Rattle.act_super.proofs.fit.by_portions.Goals as goal

pub returns-clause-start : goal.returns-clause-start
returns-clause-start c =
    start_of c.args.limit (values c.args.zones.now) c.args.cells.now c.loop-round.fitted.marks c.loop-round.count c.loop-round.invariant.marks
    (omega (arith, c.loop-round.invariant.within, c.min-last.ensures)) (omega (arith, c.loop-round.invariant.within, c.min-last.ensures)) c.loop-round.invariant.each

pub returns-clause-from : goal.returns-clause-from
returns-clause-from c =
    omega (
      arith,
      length_taken c.args.cells.now c.loop-round.fitted.marks c.loop-round.count c.loop-round.invariant.marks (omega (arith, c.loop-round.invariant.within, c.min-last.ensures)),
      c.loop-round.invariant.from,
    )

pub returns-clause-rows : goal.returns-clause-rows
returns-clause-rows c = rows_taken (values c.args.zones.now) c.args.cells.now c.loop-round.fitted.marks c.loop-round.count c.loop-round.fitted.rows c.loop-round.invariant.marks c.loop-round.invariant.rows

pub loop-round-preserved : goal.loop-round-preserved
loop-round-preserved c =
    let found = rw c.in-Some.is at c.in_ok-found.ensures in
    record {
      marks = found.marks;
      rows = found.rows;
      each = portion_fits c.args.limit (values c.args.zones.now) c.args.cells.now c.loop-round.fitted.marks c.loop-round.count (c.loop-round.count + c.loop-round.portion) (omega arith)
          c.loop-round.invariant.marks c.loop-round.invariant.each found.each;
      from = omega (arith, c.loop-round.invariant.from);
      within = omega (arith, c.loop-round.invariant.within, c.min-portion.ensures);
    }
