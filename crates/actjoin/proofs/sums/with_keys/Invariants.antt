use Rattle.std.proofs.Common.{◌≡◌, ◌+◌, drop}
use Rattle.actjoin.specs.Demo.{keys_of}
use Rattle.actjoin.proofs.sums.with_keys.Given as goal

abbrev pub invariant-loop-pair : goal.invariant-loop-pair
invariant-loop-pair l = l.sum + keys_of (drop l.pair-index l.pairs) ≡ l.keys + keys_of l.pairs
