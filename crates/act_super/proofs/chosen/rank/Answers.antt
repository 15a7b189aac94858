use Rattle.std.proofs.Common.{rules, ℕ}
use Rattle.std.specs.declared.cmp.Reverse.{Reverse}
use Rattle.std.proofs.lemmas.List.Sorted.{answers_always}
use Rattle.act_grid.specs.Cell.{id_of}
use Rattle.act_super.specs.declared.chosen.Choice.{Choice}
use Rattle.act_super.proofs.OrderFacts.{ranked_from_keys}
use Rattle.act_super.proofs.chosen.rank.Goals as goal

abbrev key : Choice → Reverse ℕ × ℕ
key choice = (record { 0 = choice.cost }, id_of choice.cell)

pub returns-clause-ranked : goal.returns-clause-ranked
returns-clause-ranked c =
    ranked_from_keys c.sort_unstable_by_key.new.self.items
    (c.sort_unstable_by_key.ensures.sorted key (answers_always _ _ _ (λ f a r g h. search rules)))
