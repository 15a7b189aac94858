use Rattle.std.proofs.Common.{◌≡◌, ◌++◌, drop}
use Rattle.act_image.specs.Paths.{starts_from}
use Rattle.act_image.proofs.old.child_starts.Given as goal

abbrev pub invariant-loop-i : goal.invariant-loop-i
invariant-loop-i l = starts_from 1 l.under ≡ l.starts.items ++ starts_from l.next (drop l.i l.under)
