use Rattle.std.proofs.Common.{◌≡◌, length, take}
use Rattle.act_super.specs.Choices.{StandFor}
use Rattle.act_super.proofs.chosen.ids_of.Given as goal

abbrev pub invariant-loop-p : goal.invariant-loop-p
invariant-loop-p l = StandFor l.ids.items (take l.p-index l.sample) × (length l.ids.items ≡ l.p-index)
