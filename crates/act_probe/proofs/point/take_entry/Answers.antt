use Rattle.std.proofs.Common.{◌∙◌, inl, inr, sym}
use Rattle.act_probe.proofs.TellFacts.{list_few, list_there, never_child, no_keys}
use Rattle.act_probe.proofs.point.take_entry.Goals as goal

pub returns-in-Table-clause-few : goal.returns-in-Table-clause-few
returns-in-Table-clause-few g c = λ hit zones refs tells.
    list_few (g.W.Words.image c.args.words.now) hit zones refs c.args.entry c.args.layers.now c.in-Table.row c.in-Table.place c.take_list.result tells c.in-Table.is
    (c.take_list.ensures.few hit zones refs tells.are (list_there _ hit zones refs c.args.entry c.in-Table.row c.in-Table.place tells c.in-Table.is))

pub returns-in-Empty-clause-keys : goal.returns-in-Empty-clause-keys
returns-in-Empty-clause-keys g c = λ hit zones refs tells. elim c.in-Empty.is [
  | inl is ↦ c.requires.empty ∙ no_keys (g.W.Words.image c.args.words.now) hit zones refs c.args.layers.now c.args.p tells.row tells.place tells.are (sym is ∙ tells.is)
  | inr is ↦ absurd (never_child refs tells.row tells.place is.0 (sym is.1 ∙ tells.is))
]
