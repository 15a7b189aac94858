use Rattle.std.proofs.Common.{◌∙◌, ap, ◌++◌}
use Rattle.act_super.specs.Choices.{choices_under}
use Rattle.act_super.specs.Standings.{standing_ground, values}
use Rattle.act_super.proofs.ChoiceFacts.{all_choices}
use Rattle.act_super.proofs.chosen.found_in.Goals as goal

pub returns : goal.returns
returns c =
    let g = standing_ground c.args.marks.now in
    c.in_ok-choose.ensures
    ∙ ap (λ r. r ++ choices_under g (values c.args.zones.now) c.as_slice.result.now c.args.threshold c.root.result) c.new-found.ensures.items
    ∙ ap (λ r. choices_under g (values c.args.zones.now) r c.args.threshold c.root.result) c.as_slice.ensures.value
    ∙ ap (λ r. choices_under g (values c.args.zones.now) c.in_ok-keys.keys.items c.args.threshold r) c.root.ensures
    ∙ all_choices g (values c.args.zones.now) c.in_ok-keys.keys.items c.args.sample.now c.args.threshold c.in_ok-keys.ensures.stand
