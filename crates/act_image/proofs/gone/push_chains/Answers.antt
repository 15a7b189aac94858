use Rattle.std.proofs.Common.{◌++◌, ◌∙◌, ap, sym}
use Rattle.std.proofs.lemmas.List.{append-nil}
use Rattle.act_image.proofs.GoneFacts.{none_gone}
use Rattle.act_image.proofs.gone.push_chains.Goals as goal

pub returns-in_default : goal.returns-in_default
returns-in_default c =
    sym (ap (λ v. c.args.gone.now.items ++ v) (none_gone c.args.next.now.entry c.args.chains.rows.now c.args.chains.from c.args.chains.places.now (sym c.key.ensures ∙ c.in_default.is)) ∙ append-nil c.args.gone.now.items)
