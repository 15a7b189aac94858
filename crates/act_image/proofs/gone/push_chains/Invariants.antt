use Rattle.std.proofs.Common.{◌≡◌, ◌++◌, take}
use Rattle.std.specs.List.{flat_map}
use Rattle.act_image.specs.Gone.{gone_chain}
use Rattle.act_image.proofs.gone.push_chains.Given as goal

abbrev pub invariant-loop-i : goal.invariant-loop-i
invariant-loop-i l = l.gone.items ≡ l.fn.gone.items ++ flat_map (gone_chain l.next.entry l.chains.rows.now l.chains.from) (take l.i l.chains.places.now)
