use Rattle.act_image.proofs.SlotFacts.{IsPut}
use Rattle.act_image.proofs.slots.put_rows.Given as goal

abbrev pub invariant-loop-k : goal.invariant-loop-k
invariant-loop-k l = IsPut l.slots l.rows l.all.items l.k l.taken
