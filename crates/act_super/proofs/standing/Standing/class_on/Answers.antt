use Rattle.std.proofs.Common.{◌∙◌, sym, ap, arith, ◌<◌}
use Rattle.act_geom.specs.Rings.{vertices_of}
use Rattle.act_super.specs.Bounds.{class_by}
use Rattle.act_super.specs.Frames.{is_apart, is_around}
use Rattle.act_super.proofs.AroundFacts.{around_mixed}
use Rattle.act_super.proofs.FrameFacts.{frame_outside, class_is}
use Rattle.act_super.proofs.standing.Standing.class_on.Goals as goal

pub returns-then-is_apart : goal.returns-then-is_apart
returns-then-is_apart c =
    sym (frame_outside c.args.self.now.frame c.args.self.now.shape c.args.cell c.args.self.now.framed
    (ap (is_apart c.args.self.now.frame) (sym c.requires) ∙ sym c.is_apart.ensures ∙ c.if-is_apart.true))

pub returns : goal.returns
returns c = c.class_on.ensures ∙ (λ i. class_by (c.args.self.now.parted i) (c.requires i)) ∙ class_is c.args.self.now.shape c.args.cell

pub returns-then-vertices-gt0 : goal.returns-then-vertices-gt0
returns-then-vertices-gt0 c =
    let some : 0 < vertices_of c.args.self.now.shape = omega (arith, c.vertices.ensures.value, c.if-vertices-gt0.true) in
    sym (around_mixed c.args.self.now.frame c.args.self.now.shape c.args.cell c.args.self.now.framed
    (ap (λ h. is_around h c.args.self.now.frame) (sym c.requires) ∙ sym c.is_around.ensures ∙ c.if-is_around.true) some)
