use Rattle.std.proofs.Common.{◌∙◌, List, ap, arith, length, map}
use Rattle.std.specs.Prelude.{sum_by}
use Rattle.std.proofs.lemmas.List.{length-map}
use Rattle.std.proofs.lemmas.Simd.{map-map}
use Rattle.act_probe.specs.declared.group.Way.{Way}
use Rattle.act_probe.specs.Groups.{Goes, led}
use Rattle.act_probe.proofs.GroupFacts.{led_all, led_nodes, led_sum}
use Rattle.act_probe.proofs.group.go_all.Goals as goal

pub go_down-requires-clause-go : goal.go_down-requires-clause-go
go_down-requires-clause-go g c =
    let r = c.requires.stands in
    rw (c.go_together-trunk.ensures.same, c.set_out.ensures) (
      c.args.root,
      r.0,
      r.1,
      r.2,
      led_all c.go_together-trunk.result (Goes r.0 r.1 r.2.layout c.go_together-trunk.result.nodes) c.args.ways.now (c.go_together-trunk.ensures.goes r.0 r.1 r.2),
    )

pub returns-clause-points : goal.returns-clause-points
returns-clause-points g c = c.go_down.ensures.points ∙ ap (map (λ (way : Way). way.point)) c.set_out.ensures ∙ map-map (λ (way : Way). way.point) (led c.go_together-trunk.result) c.args.ways.now

pub returns-clause-down : goal.returns-clause-down
returns-clause-down g c = λ settings state s.
    (rw (c.go_together-trunk.ensures.same, c.set_out.ensures) at c.go_down.ensures.down) c.args.root settings state s
    (led_all c.go_together-trunk.result (Goes settings state s.layout c.go_together-trunk.result.nodes) c.args.ways.now (c.go_together-trunk.ensures.goes settings state s))

pub returns-clause-count : goal.returns-clause-count
returns-clause-count g c =
    let led_by = led_sum c.go_together-trunk.result c.args.ways.now c.go_together-trunk.ensures.some in
    omega (arith, c.go_together-trunk.ensures.count, c.go_down.ensures.count, ap (sum_by (λ (way : Way). way.nodes)) c.set_out.ensures, led_by)

pub returns-clause-bound : goal.returns-clause-bound
returns-clause-bound g c =
    let few = led_nodes c.go_together-trunk.result.nodes (length c.args.ways.now) c.go_together-trunk.ensures.bound c.go_together-trunk.ensures.some in
    omega (arith, c.go_together-trunk.ensures.count, c.go_down.ensures.bound, ap (λ (l : List Way). length l) c.set_out.ensures, length-map c.args.ways.now (led c.go_together-trunk.result), few)
