use Rattle.std.proofs.Common.{◌≡◌, ◌++◌, ◌∙◌, List, map, subst, sym}
use Rattle.act_entry.specs.declared.reference.Ref.{Ref}
use Rattle.act_probe.specs.Names.{named_by}
use Rattle.act_probe.proofs.ListFacts.{never_none, told_of}
use Rattle.act_probe.proofs.names.put_word.Goals as goal

pub returns-in-Some-clause-named : goal.returns-in-Some-clause-named
returns-in-Some-clause-named c = λ x hit zones all h at.
    let t = told_of x hit zones all c.args.word c.in-Some.a c.in-Some.b h at (sym c.unpack.ensures ∙ c.in-Some.is) in
    subst (λ (rs : List Ref). c.put_pair.new.named.items ≡ c.args.named.now.items ++ map (named_by c.args.place c.args.point) rs) (sym t.are) c.put_pair.ensures.named

pub returns-in-None-clause-named : goal.returns-in-None-clause-named
returns-in-None-clause-named c = λ x hit zones all h at. absurd (never_none x hit zones all c.args.word h at (sym c.unpack.ensures ∙ c.in-None.is))
