use Rattle.std.proofs.Common.{◌≡◌, ◌∙◌, ap, refl, length}
use Rattle.act_super.specs.Choices.{cells_in, choices_for}
use Rattle.act_super.specs.Standings.{standing_ground, values}
use Rattle.act_super.proofs.ChosenFacts.{chosen_from_ranked}
use Rattle.act_super.proofs.LeafFacts.{joined_all}
use Rattle.act_super.proofs.chosen.chosen_in.Goals as goal

pub returns : goal.returns
returns c =
    let g = standing_ground c.args.marks.now in
    let all = joined_all c.args.standings.now (length c.args.standings.now) refl in
    let zones : values c.as_slice.result.now ≡ c.args.standings.now = ap values c.as_slice.ensures.value ∙ c.in_ok-zones.ensures ∙ all in
    let found : c.in_ok-found.found.items ≡ choices_for g c.args.standings.now c.args.sample.now c.args.threshold =
    c.in_ok-found.ensures ∙ ap (λ r. choices_for g r c.args.sample.now c.args.threshold) zones in
    c.in_ok-cells.ensures ∙ ap cells_in c.deref.ensures.value ∙ chosen_from_ranked g c.args.standings.now c.args.sample.now c.args.threshold c.in_ok-found.found.items c.rank.new.found.items found c.rank.ensures.same c.rank.ensures.ranked
