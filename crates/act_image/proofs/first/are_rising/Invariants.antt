use Rattle.std.proofs.Common.{ℕ, ◌<◌, get_or}
use Rattle.act_image.specs.Words.{no_chain}
use Rattle.act_image.proofs.first.are_rising.Given as goal

abbrev pub invariant-loop-i : goal.invariant-loop-i
invariant-loop-i l = (a b : ℕ) → a < b → b < l.i → (get_or l.places a no_chain).key < (get_or l.places b no_chain).key
