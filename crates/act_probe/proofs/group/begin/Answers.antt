use Rattle.std.proofs.Common.{◌<◌, sym, arith, pos, length}
use Rattle.std.proofs.lemmas.List.{map_push, take_more}
use Rattle.std.proofs.lemmas.List.Elements.{All-push}
use Rattle.act_probe.specs.declared.group.Way.{Way}
use Rattle.act_probe.specs.Ways.{IsTop}
use Rattle.act_probe.proofs.group.begin.Goals as goal

pub loop-p-preserved : goal.loop-p-preserved
loop-p-preserved c =
    let within : c.loop-p.p-index < length c.args.points.now = omega (arith, c.loop-p-test.true) in
    record {
      points = rw (c.in_ok-push.ensures.items, map_push (λ (way : Way). way.point), c.loop-p.invariant.points) (sym (take_more c.args.points.now c.loop-p.p-index (record { x = pos 0; y = pos 0 }) within));
      tops = rw c.in_ok-push.ensures.items (All-push (λ (way : Way). IsTop way.id way.point) c.loop-p.ways.items _ c.loop-p.invariant.tops c.top.ensures);
    }
