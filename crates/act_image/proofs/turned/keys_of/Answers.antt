use Rattle.std.proofs.Common.{◌∙◌}
use Rattle.std.proofs.lemmas.List.Sorted.{IsNonDecreasingBy-from_sort}
use Rattle.act_image.proofs.KeyFacts.{keys_tell}
use Rattle.act_image.proofs.turned.keys_of.Goals as goal

pub returns-clause-tell : goal.returns-clause-tell
returns-clause-tell c =
    keys_tell c.args.state.now.settings c.args.state.now.state c.args.next.now.entry c.trained.result.now c.trained-2.result.now c.rest_of.result.now c.in_ok-keys.keys.items c.sort_unstable.new.self.items
    c.trained.ensures (c.trained-2.ensures ∙ c.requires.trained) c.rest_of.ensures c.in_ok-keys.ensures c.sort_unstable.ensures.permutation

pub returns-clause-rising : goal.returns-clause-rising
returns-clause-rising c = IsNonDecreasingBy-from_sort (λ k. k) _ c.sort_unstable.ensures.sorted
