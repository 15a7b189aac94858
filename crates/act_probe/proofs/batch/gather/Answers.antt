use Rattle.std.proofs.Common.{◌<◌, ◌+◌, ◌*◌, ◌-◌, ◌∙◌, ℕ, List, ap, arith, length, take, drop}
use Rattle.std.specs.Prelude.{sum_by}
use Rattle.std.proofs.lemmas.List.{length-take-le}
use Rattle.std.proofs.lemmas.List.Sums.{sum_by-append, sum_by-take-le}
use Rattle.act_grid.specs.declared.Point.{Point}
use Rattle.act_probe.specs.Reads.{reads_of}
use Rattle.act_probe.proofs.SumFacts.{group_long, next_group}
use Rattle.act_probe.proofs.batch.gather.Goals as goal

pub meet_group-requires-clause-stands : goal.meet_group-requires-clause-stands
meet_group-requires-clause-stands g c = rw c.loop-k.invariant.same c.requires.stands

pub returns-in_err-meet_group-clause-few : goal.returns-in_err-meet_group-clause-few
returns-in_err-meet_group-clause-few g c = λ settings state s.
    let more : c.loop-k.k * 64 < length c.args.points.now = omega (arith, c.loop-k-test.true) in
    let group : List Point = take (c.min-end.result - c.loop-k.k * 64) (drop (c.loop-k.k * 64) c.args.points.now) in
    let f : Point → ℕ = λ p. reads_of settings state p c.args.layers.now in
    let parts = ap (sum_by f) (next_group c.args.points.now c.loop-k.k c.min-end.result more c.min-end.ensures) ∙ sum_by-append f (take (c.loop-k.k * 64) c.args.points.now) group in
    omega (arith, parts, c.loop-k.invariant.few settings state s, (rw c.loop-k.invariant.same at c.meet_group.ensures.few) settings state s, sum_by-take-le f c.args.points.now ((c.loop-k.k + 1) * 64))

pub loop-k-preserved : goal.loop-k-preserved
loop-k-preserved g c =
    let more : c.loop-k.k * 64 < length c.args.points.now = omega (arith, c.loop-k-test.true) in
    let group : List Point = take (c.min-end.result - c.loop-k.k * 64) (drop (c.loop-k.k * 64) c.args.points.now) in
    let next = next_group c.args.points.now c.loop-k.k c.min-end.result more c.min-end.ensures in
    let long = group_long c.args.points.now c.loop-k.k c.min-end.result more c.min-end.ensures in
    record {
      same = c.meet_group.ensures.same ∙ c.loop-k.invariant.same;
      ticks = omega (arith, c.meet_group.ensures.ticks, c.loop-k.invariant.ticks);
      room = omega (arith, c.in_ok-meet_group.ensures.room, c.loop-k.invariant.room, long);
      bound = omega (arith, c.meet_group.ensures.bound, c.loop-k.invariant.bound, long);
      few = λ settings state s.
          let f : Point → ℕ = λ p. reads_of settings state p c.args.layers.now in
          omega (
            arith,
            ap (sum_by f) next ∙ sum_by-append f (take (c.loop-k.k * 64) c.args.points.now) group,
            c.loop-k.invariant.few settings state s,
            (rw c.loop-k.invariant.same at c.meet_group.ensures.few) settings state s,
          );
      at = λ settings state s.
          rw next ((rw c.loop-k.invariant.same at c.in_ok-meet_group.ensures.ok) settings state s (take (c.loop-k.k * 64) c.args.points.now)
          (length-take-le (c.loop-k.k * 64) c.args.points.now (omega (arith, more))) (c.loop-k.invariant.at settings state s));
    }

pub returns-clause-few : goal.returns-clause-few
returns-clause-few g c = λ settings state s.
    omega (arith, c.loop-k.invariant.few settings state s, sum_by-take-le (λ p. reads_of settings state p c.args.layers.now) c.args.points.now (c.loop-k.k * 64))
