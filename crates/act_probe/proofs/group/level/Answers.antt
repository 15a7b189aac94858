use Rattle.std.proofs.Common.{◌≡◌, ◌<◌, ◌+◌, ◌∙◌, ap, arith, length}
use Rattle.std.proofs.Math.ListN.{length-set, set}
use Rattle.std.proofs.lemmas.List.{set-get_or}
use Rattle.std.proofs.lemmas.List.Sums.{sum_by-set}
use Rattle.act_probe.specs.declared.group.Way.{Way}
use Rattle.act_probe.specs.Groups.{Goes}
use Rattle.act_probe.proofs.GroupFacts.{no_way}
use Rattle.act_probe.proofs.HalfFacts.{half_all, half_more, map_kept}
use Rattle.act_probe.proofs.group.level.Goals as goal

pub go-reads-requires-clause-goes : goal.go-reads-requires-clause-goes
go-reads-requires-clause-goes g c =
    let r = c.requires.go in
    let within : c.loop-way.way-index < length c.loop-way.ways = omega (arith, c.loop-way-test.true) in
    let half = c.loop-way.invariant.at r.0 r.1 r.2 r.3 r.4 in
    rw c.loop-way.invariant.same (r.0, r.1, r.2, r.3, half.left c.loop-way.way-index _ (omega arith) within)

pub loop-way-preserved : goal.loop-way-preserved
loop-way-preserved g c =
    let within : c.loop-way.way-index < length c.loop-way.ways = omega (arith, c.loop-way-test.true) in
    record {
      same = c.go-reads.ensures.same ∙ c.loop-way.invariant.same;
      long = length-set c.loop-way.ways c.loop-way.way-index c.go-reads.new.way ∙ c.loop-way.invariant.long;
      none = λ e.
          let still : c.go-reads.result ≡ 0 = omega (arith, e) in
          let before : c.loop-way.reads ≡ 0 = omega (arith, e) in
          ap (set c.loop-way.ways c.loop-way.way-index) (c.go-reads.ensures.none still) ∙ set-get_or c.loop-way.ways c.loop-way.way-index _ ∙ c.loop-way.invariant.none before;
      ticks = omega (arith, c.go-reads.ensures.ticks, c.loop-way.invariant.ticks);
      bound = omega (arith, c.go-reads.ensures.bound, c.loop-way.invariant.bound);
      count = omega (arith, c.go-reads.ensures.count, c.loop-way.invariant.count, sum_by-set (λ (way : Way). way.nodes) c.loop-way.ways c.loop-way.way-index c.go-reads.new.way no_way within);
      points = map_kept (λ (way : Way). way.point) c.loop-way.ways c.loop-way.way-index c.go-reads.new.way no_way c.go-reads.ensures.point ∙ c.loop-way.invariant.points;
      at = λ root settings state s all.
          let half = c.loop-way.invariant.at root settings state s all in
          let gone = rw c.loop-way.invariant.same at c.go-reads.ensures.goes in
          half_more (Goes settings state s.layout c.args.depth) (Goes settings state s.layout (c.args.depth + 1)) c.loop-way.ways c.loop-way.way-index c.go-reads.new.way half within
          (gone root settings state s (half.left c.loop-way.way-index _ (omega arith) within));
    }

pub returns-clause-go : goal.returns-clause-go
returns-clause-go g c = λ root settings state s all.
    half_all (Goes settings state s.layout c.args.depth) (Goes settings state s.layout (c.args.depth + 1)) c.loop-way.ways c.loop-way.way-index
    (c.loop-way.invariant.at root settings state s all) (omega (arith, c.loop-way-test.false))
