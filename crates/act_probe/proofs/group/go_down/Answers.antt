use Rattle.std.proofs.Common.{◌≡◌, ◌*◌, ◌∙◌, All, subst, sym, ap, arith, length}
use Rattle.act_probe.specs.Groups.{Goes}
use Rattle.act_probe.proofs.GroupFacts.{ended, stayed}
use Rattle.act_probe.proofs.group.go_down.Goals as goal

pub level-more-requires-clause-go : goal.level-more-requires-clause-go
level-more-requires-clause-go g c =
    let r = c.requires.go in
    rw c.loop-depth.invariant.same (r.0, r.1, r.2, r.3, c.loop-depth.invariant.at r.0 r.1 r.2 r.3 r.4)

pub returns-then-more-eq0-clause-down : goal.returns-then-more-eq0-clause-down
returns-then-more-eq0-clause-down g c = λ root settings state s all k d within.
    let before = c.loop-depth.invariant.at root settings state s all in
    let after = (rw c.loop-depth.invariant.same at c.level-more.ensures.go) root settings state s before in
    let same = c.level-more.ensures.none c.if-more-eq0.true in
    stayed s c.loop-depth.depth _ (subst (All (Goes settings state s.layout c.loop-depth.depth)) (sym same) before k d within) (after k d within)

pub loop-depth-preserved : goal.loop-depth-preserved
loop-depth-preserved g c = record {
  same = c.level-more.ensures.same ∙ c.loop-depth.invariant.same;
  ticks = omega (arith, c.level-more.ensures.ticks, c.loop-depth.invariant.ticks);
  bound = omega (arith, c.level-more.ensures.bound, c.loop-depth.invariant.bound, c.loop-depth.auto.ways);
  count = omega (arith, c.level-more.ensures.count, c.loop-depth.invariant.count);
  points = c.level-more.ensures.points ∙ c.loop-depth.invariant.points;
  at = λ root settings state s all.
      (rw c.loop-depth.invariant.same at c.level-more.ensures.go) root settings state s (c.loop-depth.invariant.at root settings state s all);
}

pub returns-clause-down : goal.returns-clause-down
returns-clause-down g c = λ root settings state s all k d within.
    let eighth : 4 * c.loop-depth.depth ≡ 28 = omega (arith, c.loop-depth-test.false, c.loop-depth.auto.depth-end) in
    ended s c.loop-depth.depth _ eighth (c.loop-depth.invariant.at root settings state s all k d within)

pub returns-clause-bound : goal.returns-clause-bound
returns-clause-bound g c =
    let seventh : c.loop-depth.depth ≡ 7 = omega (arith, c.loop-depth-test.false, c.loop-depth.auto.depth-end) in
    omega (arith, c.loop-depth.invariant.bound, ap (λ n. n * length c.args.ways.now) seventh)
