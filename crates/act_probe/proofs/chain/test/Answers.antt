use Rattle.std.proofs.Common.{arith, refl, ◌∙◌, ◌+◌, drop, sym}
use Rattle.act_geom.specs.Body.{body_of}
use Rattle.act_geom.specs.Inside.{is_inside}
use Rattle.act_geom.proofs.WalkFacts.{going_on}
use Rattle.act_probe.proofs.ChainFacts.{going, next_word, reads_few, second_row, short}
use Rattle.act_probe.proofs.chain.test.Goals as goal

pub loop-k-init : goal.loop-k-init
loop-k-init g c = record {
  same = refl;
  ticks = omega arith;
  few = omega arith;
  at = λ zone chain. (
    record { row_is = sym chain.first; next_is = c.chain_next.ensures ∙ second_row chain c.args.head c.requires.head; read = refl; within = omega arith },
    c.start-walk.ensures zone.shape chain.full,
  );
}

pub take-word-requires : goal.take-word-requires
take-word-requires g c =
    let r = c.requires.chain in
    let at = c.loop-k.invariant.at r.0 r.1 in
    rw c.loop-k.invariant.same (r.0, r.1, c.loop-k.k, going _ r.0 c.args.row r.1 c.loop-k.walk c.loop-k.k (is_inside r.0.shape c.args.p) at.1, at.0)

pub returns-in-Some-clause-inside : goal.returns-in-Some-clause-inside
returns-in-Some-clause-inside g c = λ zone chain.
    let at = c.loop-k.invariant.at zone chain in
    let before = going _ zone c.args.row chain c.loop-k.walk c.loop-k.k (is_inside zone.shape c.args.p) at.1 in
    let word = (rw c.loop-k.invariant.same at c.take-word.ensures.word) zone chain c.loop-k.k before at.0 in
    (c.in-Some.ensures (drop (c.loop-k.k + 1) (body_of zone.shape)) (is_inside zone.shape c.args.p) (next_word _ zone c.args.row chain c.loop-k.walk c.loop-k.k c.take-word.result (is_inside zone.shape c.args.p) before word.0 at.1)).1

pub returns-in-Some-clause-few : goal.returns-in-Some-clause-few
returns-in-Some-clause-few g c = λ zone chain.
    let at = c.loop-k.invariant.at zone chain in
    let before = going _ zone c.args.row chain c.loop-k.walk c.loop-k.k (is_inside zone.shape c.args.p) at.1 in
    let word = (rw c.loop-k.invariant.same at c.take-word.ensures.word) zone chain c.loop-k.k before at.0 in
    reads_few _ zone c.args.row chain _ _ _ _ c.loop-k.k before c.take-word.ensures.place word.1

pub loop-k-preserved : goal.loop-k-preserved
loop-k-preserved g c = record {
  same = c.take-word.ensures.same ∙ c.loop-k.invariant.same;
  ticks = omega (arith, c.take-word.ensures.ticks, c.loop-k.invariant.ticks);
  few = omega (arith, c.take-word.ensures.passed, c.loop-k.invariant.few);
  at = λ zone chain.
      let at = c.loop-k.invariant.at zone chain in
      let before = going _ zone c.args.row chain c.loop-k.walk c.loop-k.k (is_inside zone.shape c.args.p) at.1 in
      let word = (rw c.loop-k.invariant.same at c.take-word.ensures.word) zone chain c.loop-k.k before at.0 in (
        word.1,
        going_on c.feed.result c.feed.new.self _ _
            (c.feed.ensures (drop (c.loop-k.k + 1) (body_of zone.shape)) (is_inside zone.shape c.args.p) (next_word _ zone c.args.row chain c.loop-k.walk c.loop-k.k c.take-word.result (is_inside zone.shape c.args.p) before word.0 at.1))
            (grind arith),
      );
}

pub returns-clause-inside : goal.returns-clause-inside
returns-clause-inside g c = λ zone chain.
    let at = c.loop-k.invariant.at zone chain in
    let before = going _ zone c.args.row chain c.loop-k.walk c.loop-k.k (is_inside zone.shape c.args.p) at.1 in
    let few = short _ zone c.args.row chain in
    let no : ⊥ = omega (arith, before, few, c.loop-k-test.false) in absurd no

pub returns-clause-few : goal.returns-clause-few
returns-clause-few g c = λ zone chain.
    let at = c.loop-k.invariant.at zone chain in
    let before = going _ zone c.args.row chain c.loop-k.walk c.loop-k.k (is_inside zone.shape c.args.p) at.1 in
    let few = short _ zone c.args.row chain in
    let no : ⊥ = omega (arith, before, few, c.loop-k-test.false) in absurd no
