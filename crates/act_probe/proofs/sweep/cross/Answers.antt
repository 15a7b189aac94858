use Rattle.std.proofs.Common.{sym, subst, arith}
use Rattle.std.proofs.lemmas.Int.{ints}
use Rattle.act_probe.specs.Sweeps.{Ascends, IsPlacedAt}
use Rattle.act_probe.proofs.SettleFacts.{no_candidate}
use Rattle.act_probe.proofs.SweepFacts.{crossed_rest, none_crossed, still_ascends}
use Rattle.act_probe.proofs.sweep.cross.Goals as goal

pub rise-requires-clause-up : goal.rise-requires-clause-up
rise-requires-clause-up c =
    let next = c.is_next_under.ensures.yes c.if-is_next_under.true in
    omega (arith, ints, c.requires.placed.above c.args.at no_candidate (omega arith) next.0, next.1 no_candidate)

pub returns-then-is_next_under-clause-ascends : goal.returns-then-is_next_under-clause-ascends
returns-then-is_next_under-clause-ascends c = subst Ascends (sym c.rise.ensures.crossed) (still_ascends c.args.a c.args.b c.args.run.now c.requires.ascends)

pub returns-then-is_next_under-clause-rest : goal.returns-then-is_next_under-clause-rest
returns-then-is_next_under-clause-rest c = crossed_rest c.args.a c.args.b c.args.run.now c.rise.new.run c.rise.ensures.crossed

pub fall-requires-clause-down : goal.fall-requires-clause-down
fall-requires-clause-down c =
    let last = c.is_last_above.ensures.yes c.if-is_last_above.true in
    omega (arith, ints, c.requires.placed.below last.0 no_candidate (omega (arith, last.1)), last.2 no_candidate)

pub returns-then-is_last_above-clause-ascends : goal.returns-then-is_last_above-clause-ascends
returns-then-is_last_above-clause-ascends c = subst Ascends (sym c.fall.ensures.crossed) (still_ascends c.args.a c.args.b c.args.run.now c.requires.ascends)

pub returns-then-is_last_above-clause-rest : goal.returns-then-is_last_above-clause-rest
returns-then-is_last_above-clause-rest c = crossed_rest c.args.a c.args.b c.args.run.now c.fall.new.run c.fall.ensures.crossed

pub returns-clause-placed : goal.returns-clause-placed
returns-clause-placed c =
    let above = c.is_next_under.ensures.no c.if-is_next_under.false in
    record { within = above.within; below = c.is_last_above.ensures.no c.if-is_last_above.false; above = above.above }

pub returns-clause-crossed : goal.returns-clause-crossed
returns-clause-crossed c =
    let above = c.is_next_under.ensures.no c.if-is_next_under.false in
    let placed : IsPlacedAt c.args.b.y c.args.at c.args.run.now = record { within = above.within; below = c.is_last_above.ensures.no c.if-is_last_above.false; above = above.above } in
    none_crossed c.args.a c.args.b c.args.run.now c.args.at c.requires.placed placed
