use Rattle.std.proofs.Common.{◌≡◌, ◌+◌, ◌-◌, ◌∙◌, refl, sym, arith}
use Rattle.std.proofs.lemmas.Int.{ints}
use Rattle.act_probe.proofs.SettleFacts.{no_candidate}
use Rattle.act_probe.proofs.SweepFacts.{fall_above, fall_all, fall_begin, fall_more, fall_placed, fall_stop, is_high, is_low}
use Rattle.act_probe.proofs.sweep.fall.Goals as goal

pub loop-at-init : goal.loop-at-init
loop-at-init c = record {
  before = omega arith;
  state = fall_begin c.args.a c.args.b c.args.run.now c.args.run.now c.args.from c.args.from c.requires.down c.requires.ascends c.requires.placed refl;
  above = λ k d past inside. omega (arith, ints, c.requires.placed.above k d past inside, c.requires.down);
}

pub loop-at-preserved : goal.loop-at-preserved
loop-at-preserved c =
    let i = c.loop-at.invariant in
    let one : c.loop-at.at ≡ c.loop-at.at - 1 + 1 = omega (arith, c.loop-at-test.true) in
    record {
      before = omega (arith, i.before);
      state = fall_more c.args.a c.args.b c.args.run.now c.loop-at.run c.args.from c.loop-at.at c.requires.down c.requires.ascends c.requires.placed i.before i.state i.above (c.loop-at.at - 1) no_candidate c.flip_down.new.candidate one c.flip_down.ensures;
      above = fall_above c.args.a c.args.b c.args.run.now c.loop-at.run c.args.from c.loop-at.at c.requires.down c.requires.ascends c.requires.placed i.before i.state i.above (c.loop-at.at - 1) no_candidate one
          (is_high _ _ (sym c.is_under.ensures ∙ c.if-not-is_under.true));
    }

pub returns-else-not-is_under-clause-crossed : goal.returns-else-not-is_under-clause-crossed
returns-else-not-is_under-clause-crossed c =
    let i = c.loop-at.invariant in
    let one : c.loop-at.at ≡ c.loop-at.at - 1 + 1 = omega (arith, c.loop-at-test.true) in
    fall_all c.args.a c.args.b c.args.run.now c.loop-at.run c.args.from c.loop-at.at c.requires.down c.requires.ascends c.requires.placed i.before i.state i.above
    (fall_stop c.args.a c.args.b c.args.run.now c.loop-at.run c.args.from c.loop-at.at c.requires.down c.requires.ascends c.requires.placed i.before i.state i.above (c.loop-at.at - 1) no_candidate one (is_low _ _ (sym c.is_under.ensures ∙ c.if-not-is_under.false)))

pub returns-else-not-is_under-clause-placed : goal.returns-else-not-is_under-clause-placed
returns-else-not-is_under-clause-placed c =
    let i = c.loop-at.invariant in
    let one : c.loop-at.at ≡ c.loop-at.at - 1 + 1 = omega (arith, c.loop-at-test.true) in
    fall_placed c.args.a c.args.b c.args.run.now c.loop-at.run c.args.from c.loop-at.at c.requires.down c.requires.ascends c.requires.placed i.before i.state i.above
    (fall_stop c.args.a c.args.b c.args.run.now c.loop-at.run c.args.from c.loop-at.at c.requires.down c.requires.ascends c.requires.placed i.before i.state i.above (c.loop-at.at - 1) no_candidate one (is_low _ _ (sym c.is_under.ensures ∙ c.if-not-is_under.false)))

pub returns-after-loop-at-clause-placed : goal.returns-after-loop-at-clause-placed
returns-after-loop-at-clause-placed c =
    let i = c.loop-at.invariant in
    fall_placed c.args.a c.args.b c.args.run.now c.loop-at.run c.args.from c.loop-at.at c.requires.down c.requires.ascends c.requires.placed i.before i.state i.above
    (λ k d past. absurd (omega (arith, past, c.loop-at-test.false)))
