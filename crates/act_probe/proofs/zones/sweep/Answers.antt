use Rattle.std.proofs.Common.{◌+◌, ◌∙◌, refl, sym, ap, arith, drop, get_or}
use Rattle.act_geom.specs.Body.{body_of}
use Rattle.act_geom.specs.Inside.{is_inside}
use Rattle.act_probe.specs.declared.buffers.Candidate.{Candidate}
use Rattle.act_probe.specs.Sweeps.{walk_of}
use Rattle.act_probe.proofs.ChainFacts.{going, next_word, over, reads_few, second_row}
use Rattle.act_probe.proofs.PassFacts.{on_fed}
use Rattle.act_probe.proofs.SettleFacts.{no_candidate}
use Rattle.act_probe.proofs.TraceFacts.{at_end, begun, rest_answered, rest_long}
use Rattle.act_probe.proofs.zones.sweep.Goals as goal

pub loop-k-init : goal.loop-k-init
loop-k-init g c = record {
  same = refl;
  ticks = omega (arith, c.begin-chain.ensures.passed);
  reads = refl;
  few = omega (arith, c.begin-chain.ensures.passed);
  even = λ is. c.requires.even;
  ascends = c.requires.ascends;
  set = record { within = omega (arith, c.start-trace.ensures.at); placed = λ is. absurd (let no = sym c.start-trace.ensures.stage ∙ is in cc) };
  rest = refl;
  on = λ zones all i d inside. (
    record {
      row_is = c.begin-chain.ensures.row ∙ sym (all i d inside).first ∙ ap (λ n. get_or (all i d inside).rows n 0) (sym c.begin-chain.ensures.passed);
      next_is = c.begin-chain.ensures.next ∙ c.requires.next ∙ second_row (all i d inside) _ refl ∙ ap (λ n. get_or (all i d inside).rows (n + 1) 0) (sym c.begin-chain.ensures.passed);
      read = omega (arith, c.begin-chain.ensures.passed, c.begin-chain.ensures.place);
      within = omega (arith, c.begin-chain.ensures.place);
    },
    begun c.start-trace.result (get_or c.args.run.now i d) _ c.start-trace.ensures.stage (all i d inside).full,
  );
}

pub take-word-requires : goal.take-word-requires
take-word-requires g c =
    let r = c.requires.chains in
    let first : Candidate = get_or c.args.run.now 0 no_candidate in
    let chain = r.1 0 no_candidate c.requires.some in
    let on = c.loop-k.invariant.on r.0 r.1 0 no_candidate c.requires.some in
    rw c.loop-k.invariant.same (r.0 first.slot, chain, c.loop-k.k, going _ (r.0 first.slot) c.args.row chain (walk_of c.loop-k.trace (get_or c.loop-k.run 0 no_candidate)) c.loop-k.k (is_inside (r.0 first.slot).shape first.point) on.1, on.0)

pub returns-then-feed-clause-odd : goal.returns-then-feed-clause-odd
returns-then-feed-clause-odd g c = λ zones all.
    rest_answered zones c.feed.new.run c.args.run.now (c.feed.ensures.rest ∙ c.loop-k.invariant.rest) (λ i d inside.
    let chain = all i d inside in
    let zone = zones (get_or c.args.run.now i d).slot in
    let point = (get_or c.args.run.now i d).point in
    let on = c.loop-k.invariant.on zones all i d inside in
    let walk = walk_of c.loop-k.trace (get_or c.loop-k.run i d) in
    let before = going _ zone c.args.row chain walk c.loop-k.k (is_inside zone.shape point) on.1 in
    let word = (rw c.loop-k.invariant.same at c.take-word.ensures.word) zone chain c.loop-k.k before on.0 in
    at_end c.feed.result (walk_of c.feed.new.self (get_or c.feed.new.run i d)) (drop (c.loop-k.k + 1) (body_of zone.shape)) (is_inside zone.shape point) c.if-feed.true
    (c.feed.ensures.follows i d (omega (arith, inside, rest_long c.loop-k.run c.args.run.now c.loop-k.invariant.rest)) (drop (c.loop-k.k + 1) (body_of zone.shape)) (is_inside zone.shape point)
    (next_word _ zone c.args.row chain walk c.loop-k.k c.take-word.result (is_inside zone.shape point) before word.0 on.1)))

pub returns-then-feed-clause-few : goal.returns-then-feed-clause-few
returns-then-feed-clause-few g c = λ zones all i d inside.
    let chain = all i d inside in
    let zone = zones (get_or c.args.run.now i d).slot in
    let on = c.loop-k.invariant.on zones all i d inside in
    let before = going _ zone c.args.row chain (walk_of c.loop-k.trace (get_or c.loop-k.run i d)) c.loop-k.k (is_inside zone.shape (get_or c.args.run.now i d).point) on.1 in
    let word = (rw c.loop-k.invariant.same at c.take-word.ensures.word) zone chain c.loop-k.k before on.0 in
    omega (arith, c.loop-k.invariant.reads, reads_few _ zone c.args.row chain _ _ _ _ c.loop-k.k before c.take-word.ensures.place word.1)

pub returns-then-feed-clause-ticks : goal.returns-then-feed-clause-ticks
returns-then-feed-clause-ticks g c = omega (arith, c.loop-k.invariant.reads, c.loop-k.invariant.ticks, c.take-word.ensures.ticks)

pub returns-then-feed-clause-bound : goal.returns-then-feed-clause-bound
returns-then-feed-clause-bound g c = omega (arith, c.loop-k.invariant.reads, c.loop-k.invariant.few, c.take-word.ensures.passed, c.loop-k-test.true)

pub pass-k-requires-clause-on : goal.pass-k-requires-clause-on
pass-k-requires-clause-on g c =
    let r = c.requires.chains in
    rw (c.take-word.ensures.same, c.loop-k.invariant.same) (
      r.0,
      c.args.run.now,
      r.1,
      c.loop-k.k + 1,
      c.requires.some,
      on_fed _ c.args.row r.0 c.args.run.now r.1 c.loop-k.chain c.take-word.new.chain c.loop-k.trace c.feed.new.self c.loop-k.run c.feed.new.run c.loop-k.k c.take-word.result c.feed.result c.if-feed.false
          (rest_long c.loop-k.run c.args.run.now c.loop-k.invariant.rest) (c.loop-k.invariant.on r.0 r.1) (rw c.loop-k.invariant.same at c.take-word.ensures.word) c.feed.ensures.follows,
    )

pub loop-k-preserved : goal.loop-k-preserved
loop-k-preserved g c =
    let long = rest_long c.loop-k.run c.args.run.now c.loop-k.invariant.rest in
    record {
      same = c.pass-k.ensures.same ∙ c.take-word.ensures.same ∙ c.loop-k.invariant.same;
      ticks = omega (arith, c.pass-k.ensures.ticks, c.pass-k.ensures.passed, c.take-word.ensures.ticks, c.loop-k.invariant.ticks);
      reads = c.loop-k.invariant.reads;
      few = omega (arith, c.pass-k.ensures.passed, c.take-word.ensures.passed, c.loop-k.invariant.few);
      even = λ is. absurd (c.feed.ensures.stage (sym c.pass-k.ensures.stage ∙ is));
      ascends = c.pass-k.ensures.ascends;
      set = c.pass-k.ensures.set;
      rest = c.pass-k.ensures.rest ∙ c.feed.ensures.rest ∙ c.loop-k.invariant.rest;
      on = λ zones all.
          (rw (c.take-word.ensures.same, c.loop-k.invariant.same) at c.pass-k.ensures.on) zones c.args.run.now all (c.loop-k.k + 1) (rest_long c.feed.new.run c.loop-k.run c.feed.ensures.rest ∙ long)
          (on_fed _ c.args.row zones c.args.run.now all c.loop-k.chain c.take-word.new.chain c.loop-k.trace c.feed.new.self c.loop-k.run c.feed.new.run c.loop-k.k c.take-word.result c.feed.result c.if-feed.false
          long (c.loop-k.invariant.on zones all) (rw c.loop-k.invariant.same at c.take-word.ensures.word) c.feed.ensures.follows);
    }

pub overflow_add-reads-2 : goal.overflow_add-reads-2
overflow_add-reads-2 g c =
    let r = c.requires.chains in
    let on = c.loop-k.invariant.on r.0 r.1 0 no_candidate c.requires.some in
    let none = over _ (r.0 (get_or c.args.run.now 0 no_candidate).slot) c.args.row (r.1 0 no_candidate c.requires.some) (walk_of c.loop-k.trace (get_or c.loop-k.run 0 no_candidate)) c.loop-k.k
    (is_inside (r.0 (get_or c.args.run.now 0 no_candidate).slot).shape (get_or c.args.run.now 0 no_candidate).point) c.loop-k-test.false on.1 in absurd none

pub overflow_add-reads-3 : goal.overflow_add-reads-3
overflow_add-reads-3 g c =
    let r = c.requires.chains in
    let on = c.loop-k.invariant.on r.0 r.1 0 no_candidate c.requires.some in
    let none = over _ (r.0 (get_or c.args.run.now 0 no_candidate).slot) c.args.row (r.1 0 no_candidate c.requires.some) (walk_of c.loop-k.trace (get_or c.loop-k.run 0 no_candidate)) c.loop-k.k
    (is_inside (r.0 (get_or c.args.run.now 0 no_candidate).slot).shape (get_or c.args.run.now 0 no_candidate).point) c.loop-k-test.false on.1 in absurd none

pub returns-clause-odd : goal.returns-clause-odd
returns-clause-odd g c = λ zones all.
    let on = c.loop-k.invariant.on zones all 0 no_candidate c.requires.some in
    let none = over _ (zones (get_or c.args.run.now 0 no_candidate).slot) c.args.row (all 0 no_candidate c.requires.some) (walk_of c.loop-k.trace (get_or c.loop-k.run 0 no_candidate)) c.loop-k.k
    (is_inside (zones (get_or c.args.run.now 0 no_candidate).slot).shape (get_or c.args.run.now 0 no_candidate).point) c.loop-k-test.false on.1 in absurd none

pub returns-clause-few : goal.returns-clause-few
returns-clause-few g c = λ zones all i d inside.
    let on = c.loop-k.invariant.on zones all 0 no_candidate c.requires.some in
    let none = over _ (zones (get_or c.args.run.now 0 no_candidate).slot) c.args.row (all 0 no_candidate c.requires.some) (walk_of c.loop-k.trace (get_or c.loop-k.run 0 no_candidate)) c.loop-k.k
    (is_inside (zones (get_or c.args.run.now 0 no_candidate).slot).shape (get_or c.args.run.now 0 no_candidate).point) c.loop-k-test.false on.1 in absurd none

pub returns-clause-ticks : goal.returns-clause-ticks
returns-clause-ticks g c = omega (arith, c.loop-k.invariant.reads, c.loop-k.invariant.ticks)

pub returns-clause-bound : goal.returns-clause-bound
returns-clause-bound g c =
    let r = c.requires.chains in
    let on = c.loop-k.invariant.on r.0 r.1 0 no_candidate c.requires.some in
    let none = over _ (r.0 (get_or c.args.run.now 0 no_candidate).slot) c.args.row (r.1 0 no_candidate c.requires.some) (walk_of c.loop-k.trace (get_or c.loop-k.run 0 no_candidate)) c.loop-k.k
    (is_inside (r.0 (get_or c.args.run.now 0 no_candidate).slot).shape (get_or c.args.run.now 0 no_candidate).point) c.loop-k-test.false on.1 in absurd none
