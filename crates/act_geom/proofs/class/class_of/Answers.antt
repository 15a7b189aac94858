use Rattle.std.proofs.Common.{◌≡◌, Bool, true, false, ◌||◌, cond, sym, ap, subst, ◌∙◌, arith}
use Rattle.std.specs.List.{list_any}
use Rattle.act_grid.specs.declared.Hull.{Hull}
use Rattle.act_geom.specs.Class.{class_on}
use Rattle.act_geom.specs.Edges.{edges_of}
use Rattle.act_geom.specs.Inside.{is_inside}
use Rattle.act_geom.specs.Touch.{touches_hull}
use Rattle.act_geom.specs.declared.class.Class.TheVariants.{Inside, Outside, Mixed}
use Rattle.act_geom.proofs.Parity.{any_more}
use Rattle.act_geom.proofs.class.class_of.Goals as goal

one_true : (w a b l : Bool) → l ≡ w → l ≡ (a || b) → a ≡ true → w ≡ true
one_true w a b l e f g = grind arith

none_yet : (w a b l : Bool) → l ≡ w → l ≡ (a || b) → a ≡ false → b ≡ w
none_yet w a b l e f g = grind arith

pub returns-then-ring_touches : goal.returns-then-ring_touches
returns-then-ring_touches c =
    let touched : list_any (touches_hull c.hull-hull.result) (edges_of c.args.shape.now) ≡ true =
    one_true _ _ _ _ c.loop-k.invariant (any_more (touches_hull c.hull-hull.result) c.args.shape.now c.loop-k.k c.ring.result.now c.ring.ensures.item) (sym c.ring_touches.ensures ∙ c.if-ring_touches.true) in
    subst (λ (h : Hull). Mixed ≡ class_on c.args.shape.now h) c.hull-hull.ensures (sym (ap (λ b. cond b Mixed (cond (is_inside c.args.shape.now c.hull-hull.result.lo) Inside Outside)) touched))

pub loop-k-preserved : goal.loop-k-preserved
loop-k-preserved c =
    none_yet _ _ _ _ c.loop-k.invariant (any_more (touches_hull c.hull-hull.result) c.args.shape.now c.loop-k.k c.ring.result.now c.ring.ensures.item) (sym c.ring_touches.ensures ∙ c.if-ring_touches.false)
