use Rattle.std.proofs.Common.{◌≡◌, ◌∙◌, refl, get_or, arith}
use Rattle.act_probe.proofs.PassFacts.{passes_more, passes_none}
use Rattle.act_probe.proofs.TraceFacts.{rest_long}
use Rattle.act_probe.proofs.zones.pass_row.Goals as goal

pub loop-i-init : goal.loop-i-init
loop-i-init g c = record {
  same = refl;
  ticks = omega arith;
  stage = c.requires.stage;
  left = omega arith;
  ascends = c.requires.ascends;
  set = c.requires.set;
  rest = refl;
  passes = λ j d within. passes_none (g.W.Words.image c.args.words.now) c.args.row c.args.place c.args.trace.now (get_or c.args.run.now j d);
}

pub loop-i-preserved : goal.loop-i-preserved
loop-i-preserved g c =
    let i = c.loop-i.invariant in
    record {
      same = c.word-word.ensures.same ∙ i.same;
      ticks = omega (arith, c.word-word.ensures.ticks, i.ticks);
      stage = c.feed_inner.ensures.stage;
      left = omega (arith, c.feed_inner.ensures.left, i.left);
      ascends = c.feed_inner.ensures.ascends;
      set = c.feed_inner.ensures.set;
      rest = c.feed_inner.ensures.rest ∙ i.rest;
      passes = λ j d within.
          passes_more (g.W.Words.image c.args.words.now) c.args.row c.args.place c.loop-i.i c.args.trace.now c.loop-i.now c.feed_inner.new.self (get_or c.args.run.now j d) (get_or c.loop-i.run j d) (get_or c.feed_inner.new.run j d) c.word-word.result
          (rw i.same at c.word-word.ensures.word) (i.passes j d within) (c.feed_inner.ensures.follows j d (omega (arith, within, rest_long c.loop-i.run c.args.run.now i.rest)));
    }

pub returns-clause-passes : goal.returns-clause-passes
returns-clause-passes g c =
    let end : c.loop-i.i ≡ c.args.count = omega (arith, c.loop-i-test.false, c.loop-i.auto.i-end) in
    rw end at c.loop-i.invariant.passes
