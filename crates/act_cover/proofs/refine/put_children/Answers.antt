use Rattle.std.proofs.Common.{◌+◌, arith}
use Rattle.act_cover.proofs.PutFacts.{child_put, children_no_room, room_left, no_room_left}
use Rattle.act_cover.proofs.refine.put_children.Goals as goal

pub loop-q-preserved : goal.loop-q-preserved
loop-q-preserved g c =
    room_left _ _ _ _ _ _
    (child_put (g.S.Classes.rings c.args.shape.now) c.args.most c.args.next.now c.loop-q.next c.put.new.next c.args.parent c.child.result c.loop-q.q c.put.result (omega arith) c.child.ensures c.loop-q.invariant c.put.ensures)
    c.if-not-put.false

pub returns-then-not-put : goal.returns-then-not-put
returns-then-not-put g c =
    children_no_room (g.S.Classes.rings c.args.shape.now) c.args.most c.args.next.now c.args.parent (c.loop-q.q + 1)
    (no_room_left (g.S.Classes.rings c.args.shape.now) c.args.most c.args.next.now c.put.new.next _ c.put.result
    (child_put (g.S.Classes.rings c.args.shape.now) c.args.most c.args.next.now c.loop-q.next c.put.new.next c.args.parent c.child.result c.loop-q.q c.put.result (omega arith) c.child.ensures c.loop-q.invariant c.put.ensures)
    c.if-not-put.true)
