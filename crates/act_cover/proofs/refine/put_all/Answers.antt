use Rattle.std.proofs.Common.{◌+◌, [], arith}
use Rattle.act_cover.proofs.PutFacts.{refined_put, refined_no_room, room_left, no_room_left}
use Rattle.act_cover.proofs.refine.put_all.Goals as goal

pub loop-held-preserved : goal.loop-held-preserved
loop-held-preserved g c =
    room_left _ _ _ _ _ _
    (refined_put (g.S.Classes.rings c.args.shape.now) c.args.most c.args.now.now [] c.loop-held.next c.put_refined.new.next c.loop-held.held-index c.held-item.result c.put_refined.result (omega arith) c.held-item.is
    c.loop-held.invariant c.put_refined.ensures)
    c.if-not-put_refined.false

pub returns-then-not-put_refined : goal.returns-then-not-put_refined
returns-then-not-put_refined g c =
    refined_no_room (g.S.Classes.rings c.args.shape.now) c.args.most [] c.args.now.now (c.loop-held.held-index + 1)
    (no_room_left (g.S.Classes.rings c.args.shape.now) c.args.most [] c.put_refined.new.next _ c.put_refined.result
    (refined_put (g.S.Classes.rings c.args.shape.now) c.args.most c.args.now.now [] c.loop-held.next c.put_refined.new.next c.loop-held.held-index c.held-item.result c.put_refined.result (omega arith) c.held-item.is
    c.loop-held.invariant c.put_refined.ensures)
    c.if-not-put_refined.true)
