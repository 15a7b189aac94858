use Rattle.std.proofs.Common.{◌≡◌, length, ap, ◌∙◌, arith}
use Rattle.act_geom.specs.Laid.{begin_of}
use Rattle.act_geom.proofs.LaidFacts.{rings_seen, LiesAt, lies_at, ring_is, ring_is_full}
use Rattle.act_geom.proofs.shape.Shape.ring.Goals as goal
use Rattle.act_geom.proofs.shape.Shape.ring.Goals.{After-deref-2, After-part}

pub begin-start-requires : goal.begin-start-requires
begin-start-requires c =
    let n : length c.args.self.now ≡ length c.self.inside.ends.items = rings_seen _ _ _ c.self.view_is in
    grind arith

pub index-requires : goal.index-requires
index-requires c =
    let n : length c.args.self.now ≡ length c.self.inside.ends.items = rings_seen _ _ _ c.self.view_is in
    grind arith

pub part-requires : goal.part-requires
part-requires c =
    let n : length c.args.self.now ≡ length c.self.inside.ends.items = rings_seen _ _ _ c.self.view_is in
    let l : LiesAt c.self.inside.ends.items c.self.inside.points.items c.args.k c.begin-start.result c.index.result.now =
    lies_at _ _ _ _ _ c.self.invariant (grind arith) (c.begin-start.ensures ∙ ap (λ v. begin_of 0 v c.args.k) c.deref.ensures.value) c.index.ensures in
    record { order = omega (arith, l.three); within = omega (arith, l.within) }

place : (c : After-part) → LiesAt c.self.inside.ends.items c.self.inside.points.items c.args.k c.begin-start.result c.index.result.now
place c =
    let n : length c.args.self.now ≡ length c.self.inside.ends.items = rings_seen _ _ _ c.self.view_is in
    lies_at _ _ _ _ _ c.self.invariant (grind arith) (c.begin-start.ensures ∙ ap (λ v. begin_of 0 v c.args.k) c.deref.ensures.value) c.index.ensures

pub returns-clause-item : goal.returns-clause-item
returns-clause-item c =
    let n : length c.args.self.now ≡ length c.self.inside.ends.items = rings_seen _ _ _ c.self.view_is in
    rw (c.part.ensures, c.deref-2.ensures.value) (ring_is _ _ _ _ _ _ c.self.view_is (grind arith) (place c))

pub returns-clause-full : goal.returns-clause-full
returns-clause-full c = rw (c.part.ensures, c.deref-2.ensures.value) (ring_is_full _ _ _ _ _ (place c))
