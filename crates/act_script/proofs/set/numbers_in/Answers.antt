use Rattle.std.proofs.Common.{ap, sym, ◌∙◌, ◌+◌, ◌==◌}
use Rattle.std.proofs.lemmas.List.Splits.{length-slice_split}
use Rattle.act_script.proofs.set.numbers_in.Goals as goal

pub returns : goal.returns
returns c = ap (λ n. n + 1) c.separators_in.ensures ∙ sym (length-slice_split (λ b. b == 59) c.args.text.now)
