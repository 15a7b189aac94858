use Rattle.std.proofs.Common.{ap, sym, ◌∙◌, ◌+◌, ◌==◌}
use Rattle.std.proofs.lemmas.List.Splits.{length-slice_split}
use Rattle.act_script.proofs.row.count_split.Goals as goal

pub returns-clause-value : goal.returns-clause-value
returns-clause-value c = ap (λ n. n + 1) c.commas_in.ensures ∙ sym (length-slice_split (λ b. b == 44) c.args.text.now)
