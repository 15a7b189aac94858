use Rattle.std.proofs.Common.{◌<◌, ◌∙◌, refl, sym, arith, length}
use Rattle.std.proofs.lemmas.Int.{ints}
use Rattle.act_probe.proofs.SettleFacts.{no_candidate}
use Rattle.act_probe.proofs.SweepFacts.{is_high, is_low, rise_all, rise_begin, rise_below, rise_more, rise_placed, rise_stop}
use Rattle.act_probe.proofs.sweep.rise.Goals as goal

pub loop-at-init : goal.loop-at-init
loop-at-init c = record {
  within = c.requires.placed.within;
  after = omega arith;
  state = rise_begin c.args.a c.args.b c.args.run.now c.args.run.now c.args.from c.args.from c.requires.up c.requires.ascends c.requires.placed refl;
  below = λ k d before. omega (arith, ints, c.requires.placed.below k d before, c.requires.up);
}

pub loop-at-preserved : goal.loop-at-preserved
loop-at-preserved c =
    let i = c.loop-at.invariant in
    let inside : c.loop-at.at < length c.args.run.now = omega (arith, c.loop-at-test.true) in
    record {
      within = omega (arith, inside);
      after = omega (arith, i.after);
      state = rise_more c.args.a c.args.b c.args.run.now c.loop-at.run c.args.from c.loop-at.at c.requires.up c.requires.ascends c.requires.placed i.within i.after i.state i.below no_candidate c.flip_up.new.candidate inside c.flip_up.ensures;
      below = rise_below c.args.a c.args.b c.args.run.now c.loop-at.run c.args.from c.loop-at.at c.requires.up c.requires.ascends c.requires.placed i.within i.after i.state i.below no_candidate inside (is_low _ _ (sym c.is_under.ensures ∙ c.if-is_under.true));
    }

pub returns-else-is_under-clause-crossed : goal.returns-else-is_under-clause-crossed
returns-else-is_under-clause-crossed c =
    let i = c.loop-at.invariant in
    rise_all c.args.a c.args.b c.args.run.now c.loop-at.run c.args.from c.loop-at.at c.requires.up c.requires.ascends c.requires.placed i.within i.after i.state i.below
    (rise_stop c.args.a c.args.b c.args.run.now c.loop-at.run c.args.from c.loop-at.at c.requires.up c.requires.ascends c.requires.placed i.within i.after i.state i.below no_candidate (is_high _ _ (sym c.is_under.ensures ∙ c.if-is_under.false)))

pub returns-else-is_under-clause-placed : goal.returns-else-is_under-clause-placed
returns-else-is_under-clause-placed c =
    let i = c.loop-at.invariant in
    rise_placed c.args.a c.args.b c.args.run.now c.loop-at.run c.args.from c.loop-at.at c.requires.up c.requires.ascends c.requires.placed i.within i.after i.state i.below
    (rise_stop c.args.a c.args.b c.args.run.now c.loop-at.run c.args.from c.loop-at.at c.requires.up c.requires.ascends c.requires.placed i.within i.after i.state i.below no_candidate (is_high _ _ (sym c.is_under.ensures ∙ c.if-is_under.false)))

pub returns-after-loop-at-clause-placed : goal.returns-after-loop-at-clause-placed
returns-after-loop-at-clause-placed c =
    let i = c.loop-at.invariant in
    rise_placed c.args.a c.args.b c.args.run.now c.loop-at.run c.args.from c.loop-at.at c.requires.up c.requires.ascends c.requires.placed i.within i.after i.state i.below
    (λ k d past inside. absurd (omega (arith, past, inside, c.loop-at-test.false)))
