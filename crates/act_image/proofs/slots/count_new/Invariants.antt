use Rattle.std.proofs.Common.{◌≡◌, ◌+◌, ◌≤◌, drop, length}
use Rattle.act_image.specs.Slots.{new_places}
use Rattle.act_image.proofs.slots.count_new.Given as goal

abbrev pub invariant-loop-k : goal.invariant-loop-k
invariant-loop-k l = record {
  counted : l.count + length (new_places l.k (drop l.k l.slots)) ≡ length (new_places 0 l.slots);
  few : l.count ≤ l.k;
}
