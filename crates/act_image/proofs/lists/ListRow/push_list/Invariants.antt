use Rattle.std.proofs.Common.{◌≡◌, ◌++◌, ◌-◌, drop, length}
use Rattle.act_image.specs.Plans.{pairs_in, words_in}
use Rattle.act_image.proofs.lists.ListRow.push_list.Given as goal

abbrev pub invariant-loop-i : goal.invariant-loop-i
invariant-loop-i l = l.self ++ pairs_in (drop l.i l.refs) ≡ l.fn.self ++ words_in l.refs

abbrev pub decreases-loop-i : goal.decreases-loop-i
decreases-loop-i l = length l.refs - l.i
