use Rattle.std.proofs.Common.{◌≡◌, length, ap, ◌∙◌, arith}
use Rattle.act_geom.specs.Laid.{begin_of}
use Rattle.act_geom.proofs.LaidFacts.{rings_seen}
use Rattle.act_geom.proofs.BodyFacts.{vertices_before_is, begin_within}
use Rattle.act_geom.proofs.shape.Shape.vertices_before.Goals as goal

pub begin-requires : goal.begin-requires
begin-requires c =
    let n : length c.args.self.now ≡ length c.self.inside.ends.items = rings_seen _ _ _ c.self.view_is in
    grind arith

pub overflow_cast-result : goal.overflow_cast-result
overflow_cast-result c =
    let n : length c.args.self.now ≡ length c.self.inside.ends.items = rings_seen _ _ _ c.self.view_is in
    let e : c.begin.result ≡ begin_of 0 c.self.inside.ends.items c.args.k = c.begin.ensures ∙ ap (λ v. begin_of 0 v c.args.k) c.deref.ensures.value in
    omega (arith, begin_within 0 c.self.inside.ends.items (length c.self.inside.points.items) c.args.k c.self.invariant.fits (omega arith))

pub returns : goal.returns
returns c =
    let n : length c.args.self.now ≡ length c.self.inside.ends.items = rings_seen _ _ _ c.self.view_is in
    c.begin.ensures ∙ ap (λ v. begin_of 0 v c.args.k) c.deref.ensures.value
    ∙ vertices_before_is c.self.inside.ends.items c.self.inside.points.items c.args.self.now c.args.k c.self.invariant.fits c.self.view_is (omega arith)
