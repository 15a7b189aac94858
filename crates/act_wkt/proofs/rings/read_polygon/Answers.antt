use Rattle.std.proofs.Common.{sym, arith, ◌≡◌}
use Rattle.std.proofs.lemmas.List.{take_rest}
use Rattle.act_wkt.specs.Wkt.{ring_at}
use Rattle.act_wkt.proofs.Joined.{bad_item, last_item, next_item, none_due, unclosed_item}
use Rattle.act_wkt.proofs.Stopped.{handed_on}
use Rattle.act_wkt.proofs.rings.read_polygon.Goals as goal

pub returns-in_err-after-clause-found : goal.returns-in_err-after-clause-found
returns-in_err-after-clause-found c = handed_on _ _ _ _ _ c.in_err-after.ensures.found c.from_residual-in_err-after.ensures.1
    (λ m. bad_item (ring_at c.args.digits) c.loop-turns.turns c.loop-turns.left c.loop-turns.rest.now c.loop-turns.shape _ m c.loop-turns.invariant.rest c.loop-turns-test.true)

pub loop-turns-preserved : goal.loop-turns-preserved
loop-turns-preserved c = record {
  few = c.in_ok-after.ensures.few;
  rest = rw take_rest
      (next_item (ring_at c.args.digits) c.loop-turns.turns c.loop-turns.left c.in_ok-after.after c.loop-turns.rest.now c.in_ok-after.behind.now c.skipped-behind.result.now c.loop-turns.shape c.read_ring.new.shape _
      c.loop-turns.invariant.rest c.loop-turns-test.true c.in_ok-after.ensures.found c.skipped-behind.ensures (sym c.if-is_first.ensures));
}

pub returns-then-is_first-2-clause-found : goal.returns-then-is_first-2-clause-found
returns-then-is_first-2-clause-found c = rw take_rest
    (last_item (ring_at c.args.digits) c.loop-turns.turns c.loop-turns.left c.in_ok-after.after c.loop-turns.rest.now c.in_ok-after.behind.now c.skipped-behind.result.now c.loop-turns.shape c.read_ring.new.shape _
    c.loop-turns.invariant.rest c.loop-turns-test.true c.in_ok-after.ensures.found c.skipped-behind.ensures (sym c.if-is_first.ensures) (sym c.if-is_first-2.ensures))

pub returns-else-is_first-2-clause-found : goal.returns-else-is_first-2-clause-found
returns-else-is_first-2-clause-found c = rw c.at.ensures
    (unclosed_item (ring_at c.args.digits) c.loop-turns.turns c.loop-turns.left c.in_ok-after.after c.loop-turns.rest.now c.in_ok-after.behind.now c.skipped-behind.result.now c.loop-turns.shape c.read_ring.new.shape _
    c.loop-turns.invariant.rest c.loop-turns-test.true c.in_ok-after.ensures.found c.skipped-behind.ensures (sym c.if-is_first.ensures) (sym c.if-is_first-2.ensures))

pub returns-clause-found : goal.returns-clause-found
returns-clause-found c =
    let none : c.loop-turns.turns ≡ 0 = omega (arith, c.loop-turns-test.false) in
    rw c.at-2.ensures (none_due (ring_at c.args.digits) c.loop-turns.left c.loop-turns.rest.now c.loop-turns.shape _ (rw none at c.loop-turns.invariant.rest))
