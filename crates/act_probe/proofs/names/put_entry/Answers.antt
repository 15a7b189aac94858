use Rattle.std.proofs.Common.{◌≡◌, ◌++◌, ◌∙◌, List, append-nil, arith, inl, inr, map, subst, sym}
use Rattle.act_entry.specs.declared.reference.Ref.{Ref}
use Rattle.act_probe.specs.Names.{named_by}
use Rattle.act_probe.proofs.TellFacts.{list_there, never_child, refs_none, refs_one, refs_two, table_long}
use Rattle.act_probe.proofs.names.put_entry.Goals as goal

pub returns-in-One-clause-named : goal.returns-in-One-clause-named
returns-in-One-clause-named g c = λ hit zones all tells.
    subst (λ (rs : List Ref). c.put_pair.new.named.items ≡ c.args.named.now.items ++ map (named_by c.args.place c.args.point) rs) (sym (refs_one all tells.row tells.place c.in-One.a (sym c.in-One.is ∙ tells.is))) c.put_pair.ensures.named

pub returns-in-Two-clause-named : goal.returns-in-Two-clause-named
returns-in-Two-clause-named g c = λ hit zones all tells.
    subst (λ (rs : List Ref). c.put_pair-in-Two.new.named.items ≡ c.args.named.now.items ++ map (named_by c.args.place c.args.point) rs) (sym (refs_two all tells.row tells.place c.in-Two.a c.in-Two.b (sym c.in-Two.is ∙ tells.is))) c.put_pair-in-Two.ensures.named

pub returns-in-Table-clause-named : goal.returns-in-Table-clause-named
returns-in-Table-clause-named g c = λ hit zones all tells.
    c.put_list.ensures.named hit zones all tells.are (list_there _ hit zones all c.args.entry c.in-Table.row c.in-Table.start tells c.in-Table.is)

pub returns-in-Table-clause-few : goal.returns-in-Table-clause-few
returns-in-Table-clause-few g c = λ hit zones all tells.
    omega (
      arith,
      table_long _ hit zones all c.args.entry c.in-Table.row c.in-Table.start tells c.in-Table.is,
      c.put_list.ensures.few hit zones all tells.are (list_there _ hit zones all c.args.entry c.in-Table.row c.in-Table.start tells c.in-Table.is),
    )

pub returns-in-Empty-clause-named : goal.returns-in-Empty-clause-named
returns-in-Empty-clause-named g c = λ hit zones all tells. elim c.in-Empty.is [
  | inl is ↦ subst (λ (rs : List Ref). c.args.named.now.items ≡ c.args.named.now.items ++ map (named_by c.args.place c.args.point) rs) (sym (refs_none all tells.row tells.place (sym is ∙ tells.is))) (sym (append-nil c.args.named.now.items))
  | inr is ↦ absurd (never_child all tells.row tells.place is.0 (sym is.1 ∙ tells.is))
]
