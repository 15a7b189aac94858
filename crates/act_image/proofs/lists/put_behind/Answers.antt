use Rattle.std.proofs.Common.{◌≡◌, ◌+◌, ◌-◌, ◌++◌, ap, arith, length, set, ◌∙◌}
use Rattle.act_image.specs.Plans.{words_in}
use Rattle.act_image.proofs.BuildFacts.{behind_set}
use Rattle.act_image.proofs.lists.put_behind.Goals as goal

pub returns : goal.returns
returns c =
    let last : c.len-count_rows.result - 1 + 1 ≡ length c.args.rows.now.items = omega arith in
    ap (set c.args.rows.now.items (c.len-count_rows.result - 1)) (c.in_ok-push_list.ensures ∙ ap (λ v. v ++ words_in c.args.refs.now) c.index_mut.ensures.value)
    ∙ behind_set c.args.rows.now.items (words_in c.args.refs.now) (c.len-count_rows.result - 1) c.index_mut.result.now last
