use Rattle.std.proofs.Common.{◌≡◌, ◌∷◌, [], sym, arith}
use Rattle.std.proofs.lemmas.List.{length-append, take_rest}
use Rattle.act_wkt.specs.Wkt.{points_at}
use Rattle.act_wkt.proofs.Points.{bad_point, last_point, more_points, no_close_at, none_left}
use Rattle.act_wkt.proofs.Stopped.{handed_on}
use Rattle.act_wkt.proofs.number.read_points.Goals as goal

pub returns-in_err-point-clause-points : goal.returns-in_err-point-clause-points
returns-in_err-point-clause-points c = handed_on _ _ _ _ _ c.in_err-point.ensures c.from_residual.ensures.1
    (λ m. bad_point c.args.digits c.loop-left.left c.loop-left.rest.now c.loop-left.points.items (points_at c.args.digits c.args.room c.args.text.now) m c.loop-left.invariant.rest c.loop-left-test.true)

pub loop-left-preserved : goal.loop-left-preserved
loop-left-preserved c = record {
  few = rw c.in_ok-push.ensures.items (omega (arith, c.loop-left.invariant.few, length-append c.loop-left.points.items (c.in_ok-point.point ∷ [])));
  rest = rw (c.in_ok-push.ensures.items, take_rest)
      (more_points c.args.digits c.loop-left.left c.loop-left.rest.now c.in_ok-point.behind.now c.skipped-behind.result.now c.in_ok-point.point c.loop-left.points.items (points_at c.args.digits c.args.room c.args.text.now)
      c.loop-left.invariant.rest c.loop-left-test.true c.in_ok-point.ensures c.skipped-behind.ensures (sym c.if-is_first.ensures));
}

pub returns-then-is_first-2-clause-points : goal.returns-then-is_first-2-clause-points
returns-then-is_first-2-clause-points c = rw c.in_ok-push.ensures.items
    (last_point c.args.digits c.loop-left.left c.loop-left.rest.now c.in_ok-point.behind.now c.skipped-behind.result.now c.in_ok-point.point c.loop-left.points.items _
    c.loop-left.invariant.rest c.loop-left-test.true c.in_ok-point.ensures c.skipped-behind.ensures (sym c.if-is_first.ensures) (sym c.if-is_first-2.ensures))

pub returns-else-is_first-2-clause-points : goal.returns-else-is_first-2-clause-points
returns-else-is_first-2-clause-points c = rw c.no_close.ensures
    (no_close_at c.args.digits c.loop-left.left c.loop-left.rest.now c.in_ok-point.behind.now c.skipped-behind.result.now c.in_ok-point.point c.loop-left.points.items _
    c.loop-left.invariant.rest c.loop-left-test.true c.in_ok-point.ensures c.skipped-behind.ensures (sym c.if-is_first.ensures) (sym c.if-is_first-2.ensures))

pub returns-clause-points : goal.returns-clause-points
returns-clause-points c =
    let none : c.loop-left.left ≡ 0 = omega (arith, c.loop-left-test.false) in
    rw (c.at.ensures, c.skipped.ensures) (none_left c.args.digits c.loop-left.rest.now c.loop-left.points.items _ (rw none at c.loop-left.invariant.rest))
