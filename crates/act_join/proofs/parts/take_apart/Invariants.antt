use Rattle.std.proofs.Common.{◌≡◌, ◌++◌, length, map}
use Rattle.std.specs.Vec.Iter.{into_iter_items, into_iter_len}
use Rattle.act_script.specs.Segments.{is_batch}
use Rattle.act_join.specs.Working.{batches_among, updates_among}
use Rattle.act_join.proofs.parts.take_apart.Given as goal

abbrev pub invariant-loop-step : goal.invariant-loop-step
invariant-loop-step l = record {
  waiting : l.waiting.items ++ updates_among (into_iter_items l.rest) ≡ l.initial.waiting.items ++ updates_among l.fn.steps.items;
  batches : l.parts.batches.items ++ batches_among (into_iter_items l.rest) ≡ batches_among l.fn.steps.items;
  order : l.parts.order.items ++ map is_batch (into_iter_items l.rest) ≡ map is_batch l.fn.steps.items;
  left : into_iter_len l.rest ≡ length (into_iter_items l.rest);
}

abbrev pub decreases-loop-step : goal.decreases-loop-step
decreases-loop-step l = into_iter_len l.rest
