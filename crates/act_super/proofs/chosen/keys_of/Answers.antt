use Rattle.std.proofs.lemmas.List.Sorted.{IsNonDecreasingBy-from_sort}
use Rattle.act_super.proofs.SpanFacts.{stand_moved}
use Rattle.act_super.proofs.chosen.keys_of.Goals as goal

pub returns-clause-stand : goal.returns-clause-stand
returns-clause-stand c = stand_moved _ _ _ c.sort_unstable.ensures.permutation c.in_ok-keys.ensures.stand

pub returns-clause-rising : goal.returns-clause-rising
returns-clause-rising c = IsNonDecreasingBy-from_sort (λ k. k) _ c.sort_unstable.ensures.sorted
