use Rattle.std.proofs.Common.{◌≡◌, ℕ, ◌<◌, ◌*◌, ◌/◌, ◌%◌, ◌-◌, ◌^◌, get_or}
use Rattle.act_probe.specs.declared.group.Way.{Way}
use Rattle.act_probe.proofs.group.is_shared.Given as goal

-- the ways before the index lead to the place
abbrev pub invariant-loop-way : goal.invariant-loop-way
invariant-loop-way l = record {
  shared : (k : ℕ) (d : Way) → k < l.way-index → l.place ≡ (get_or l.ways k d).id / 2 ^ (53 - 2 * (4 * l.depth)) % 256;
}
