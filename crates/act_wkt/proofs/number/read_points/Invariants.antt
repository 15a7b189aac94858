use Rattle.std.proofs.Common.{◌≡◌, ◌+◌, ◌≤◌, length}
use Rattle.act_wkt.specs.Wkt.{points_at}
use Rattle.act_wkt.proofs.Points.{with_points}
use Rattle.act_wkt.proofs.number.read_points.Given as goal

abbrev pub invariant-loop-left : goal.invariant-loop-left
invariant-loop-left l = record {
  few : length l.points.items + l.left ≤ l.room;
  rest : with_points l.points.items (points_at l.digits l.left l.rest) ≡ points_at l.digits l.room l.text;
}

abbrev pub decreases-loop-left : goal.decreases-loop-left
decreases-loop-left l = l.left
