use Rattle.std.proofs.Common.{◌<◌, ◌≤◌, ◌++◌, ◌∙◌, List, ap, append-nil, arith, drop, get_or, length, map, take}
use Rattle.std.proofs.Math.ListN.{set}
use Rattle.std.proofs.lemmas.List.{drop_all, take_all}
use Rattle.act_probe.specs.declared.buffers.Named.{Named}
use Rattle.act_probe.specs.Names.{headed}
use Rattle.act_probe.proofs.MetFacts.{no_name}
use Rattle.act_probe.proofs.SweepFacts.{front_here, front_more}
use Rattle.act_probe.proofs.meet.read_heads.Goals as goal

pub word-n-requires : goal.word-n-requires
word-n-requires g c =
    let x = g.W.Words.image c.args.words.now in
    let i = c.loop-n.n-index in
    let within : i < length c.args.named.now = omega (arith, c.loop-n-test.true, c.loop-n.auto.named) in
    let here = ap (λ (l : List Named). get_or l i no_name) c.loop-n.invariant.out ∙ front_here (headed x) c.args.named.now i no_name in
    rw (here, c.loop-n.invariant.same) (c.requires.held i no_name within)

pub loop-n-preserved : goal.loop-n-preserved
loop-n-preserved g c =
    let x = g.W.Words.image c.args.words.now in
    let i = c.loop-n.n-index in
    let within : i < length c.args.named.now = omega (arith, c.loop-n-test.true, c.loop-n.auto.named) in
    let here = ap (λ (l : List Named). get_or l i no_name) c.loop-n.invariant.out ∙ front_here (headed x) c.args.named.now i no_name in
    record {
      same = c.word-n.ensures.same ∙ c.loop-n.invariant.same;
      ticks = omega (arith, c.word-n.ensures.ticks, c.loop-n.invariant.ticks);
      out = rw (c.word-n.ensures.word, c.loop-n.invariant.same) (
          ap (λ (l : List Named). set l i (headed x (get_or l i no_name))) c.loop-n.invariant.out
          ∙ ap (λ (m : Named). set (map (headed x) (take i c.args.named.now) ++ drop i c.args.named.now) i (headed x m)) (front_here (headed x) c.args.named.now i no_name)
          ∙ front_more (headed x) c.args.named.now i no_name within);
    }

pub returns-clause-heads : goal.returns-clause-heads
returns-clause-heads g c =
    let past : length c.args.named.now ≤ c.loop-n.n-index = omega (arith, c.loop-n-test.false, c.loop-n.auto.named) in
    let x = g.W.Words.image c.args.words.now in
    c.loop-n.invariant.out
    ∙ ap (λ (l : List Named). map (headed x) l ++ drop c.loop-n.n-index c.args.named.now) (take_all c.loop-n.n-index c.args.named.now past)
    ∙ ap (λ (l : List Named). map (headed x) c.args.named.now ++ l) (drop_all c.loop-n.n-index c.args.named.now past)
    ∙ append-nil (map (headed x) c.args.named.now)
