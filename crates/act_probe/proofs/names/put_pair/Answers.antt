use Rattle.std.proofs.Common.{◌++◌, ◌∷◌, ◌∙◌, [], List, ap, append_assoc}
use Rattle.act_probe.specs.declared.buffers.Named.{Named}
use Rattle.act_probe.specs.Names.{named_by}
use Rattle.act_probe.proofs.names.put_pair.Goals as goal

pub returns-in-Some-clause-named : goal.returns-in-Some-clause-named
returns-in-Some-clause-named c =
    rw c.in-Some.is (c.put-in-Some.ensures.named ∙ ap (λ (ns : List Named). ns ++ named_by c.args.place c.args.point c.in-Some.b ∷ []) c.put.ensures.named
    ∙ append_assoc c.args.named.now.items (named_by c.args.place c.args.point c.args.a ∷ []) (named_by c.args.place c.args.point c.in-Some.b ∷ []))

pub returns-in-None-clause-named : goal.returns-in-None-clause-named
returns-in-None-clause-named c = rw c.in-None.is c.put.ensures.named
