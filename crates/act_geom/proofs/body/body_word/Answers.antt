use Rattle.std.proofs.Common.{◌+◌, ◌∙◌, arith}
use Rattle.act_geom.proofs.BodyFacts.{StandsIn, within_ring, count_word, vertex_at}
use Rattle.act_geom.proofs.body.body_word.Goals as goal
use Rattle.act_geom.proofs.body.body_word.Goals.{Else-k-start, After-word_of}

pub returns-then-k-start : goal.returns-then-k-start
returns-then-k-start c =
    count_word c.args.shape.now c.ring_at-ring.result c.args.k (1 + c.ring_at-ring.result + c.vertices_before.result) c.ring-vertices.result.now
    (record { get = c.ring-vertices.ensures.item; begin = omega arith; after = omega arith; before = omega arith }) c.if-k-start.true

pub bounds-vertices-k : goal.bounds-vertices-k
bounds-vertices-k c =
    let s : StandsIn c.args.shape.now c.ring_at-ring.result c.args.k (1 + c.ring_at-ring.result + c.vertices_before.result) c.ring-vertices.result.now =
    record { get = c.ring-vertices.ensures.item; begin = omega arith; after = omega arith; before = omega arith } in
    omega (arith, within_ring c.args.shape.now c.ring_at-ring.result c.args.k (1 + c.ring_at-ring.result + c.vertices_before.result) c.ring-vertices.result.now s)

pub returns : goal.returns
returns c =
    let s : StandsIn c.args.shape.now c.ring_at-ring.result c.args.k (1 + c.ring_at-ring.result + c.vertices_before.result) c.ring-vertices.result.now =
    record { get = c.ring-vertices.ensures.item; begin = omega arith; after = omega arith; before = omega arith } in
    c.word_of.ensures ∙ vertex_at c.args.shape.now c.ring_at-ring.result c.args.k (1 + c.ring_at-ring.result + c.vertices_before.result) c.ring-vertices.result.now _ s c.if-k-start.false
