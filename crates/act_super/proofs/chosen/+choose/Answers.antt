use Rattle.std.proofs.Common.{rules, ◌≡◌, ◌^◌, ◌++◌, [], ◌<◌, ◌≤◌, ◌∙◌, ap, sym, arith, append-nil, filter, length, false}
use Rattle.std.proofs.lemmas.List.{nil_from_length}
use Rattle.std.proofs.lemmas.List.Sums.{count_by-le-length, length-filter}
use Rattle.act_super.specs.Choices.{choices_of_four, spans}
use Rattle.act_super.specs.Grounds.{is_split, on}
use Rattle.act_super.specs.Standings.{standing_ground, values}
use Rattle.act_super.proofs.ChoiceFacts.{leaf_by_length, no_choices, split_choices, too_deep}
use Rattle.act_super.proofs.StandingFacts.{length_values, standings_go_down}
use Rattle.act_super.proofs.UnderFacts.{length_on, split_low}
use Rattle.act_super.proofs.chosen.+choose.Goals as goal

pub choose-returns-then-level-ge-DEEPEST : goal.choose-returns-then-level-ge-DEEPEST
choose-returns-then-level-ge-DEEPEST t c =
    let g = standing_ground c.args.marks.now in
    let deep : 28 ≤ c.args.cell.level = omega (arith, c.level.ensures.value) in
    sym (ap (λ r. c.args.found.now.items ++ r) (too_deep g (standings_go_down c.args.marks.now) c.args.threshold (values c.args.zones.now) c.args.keys.now c.args.cell deep) ∙ append-nil c.args.found.now.items)

pub choose-returns-then-is_empty : goal.choose-returns-then-is_empty
choose-returns-then-is_empty t c =
    let g = standing_ground c.args.marks.now in
    let none : filter (spans c.args.cell) c.args.keys.now ≡ [] = sym c.spanned-here.ensures.spans ∙ nil_from_length c.spanned-here.result.now (search rules) in
    sym (ap (λ r. c.args.found.now.items ++ r) (no_choices g (standings_go_down c.args.marks.now) c.args.threshold c.requires.threshold (values c.args.zones.now) c.args.keys.now c.args.cell c.requires.cell c.requires.level none) ∙ append-nil c.args.found.now.items)

pub choose-choose_four-requires : goal.choose-choose_four-requires
choose-choose_four-requires t c =
    let g = standing_ground c.args.marks.now in
    let low : c.args.cell.level < 28 = split_low g (values c.args.zones.now) c.args.cell (sym c.in_ok-there.ensures.split ∙ c.if-there.true) in
    let few : length c.spanned-here.result.now ≤ 65536 =
    omega (arith, ap (λ r. length r) c.spanned-here.ensures.spans, length-filter (spans c.args.cell) c.args.keys.now, count_by-le-length (spans c.args.cell) c.args.keys.now, c.requires.few) in
    let items : values c.as_slice.result.now ≡ on g (values c.args.zones.now) c.args.cell = ap values c.as_slice.ensures.value ∙ c.in_ok-there.ensures.zones in
    let zones : length c.as_slice.result.now < 2 ^ 32 =
    omega (arith, ap (λ r. length r) items, length_on g (values c.args.zones.now) c.args.cell, length_values c.as_slice.result.now, length_values c.args.zones.now, c.requires.zones) in
    search rules

pub choose-returns-then-there : goal.choose-returns-then-there
choose-returns-then-there t c =
    let g = standing_ground c.args.marks.now in
    let items : values c.as_slice.result.now ≡ on g (values c.args.zones.now) c.args.cell = ap values c.as_slice.ensures.value ∙ c.in_ok-there.ensures.zones in
    let same = ap (λ r. choices_of_four g r c.spanned-here.result.now c.args.threshold c.args.cell) items ∙ ap (λ r. choices_of_four g (on g (values c.args.zones.now) c.args.cell) r c.args.threshold c.args.cell) c.spanned-here.ensures.spans in
    c.in_ok-choose_four.ensures
    ∙ ap (λ r. c.args.found.now.items ++ r)
    (same ∙ split_choices g (standings_go_down c.args.marks.now) c.args.threshold (values c.args.zones.now) c.args.keys.now c.args.cell c.requires.cell (sym c.in_ok-there.ensures.split ∙ c.if-there.true))

pub choose-put-requires-clause-few : goal.choose-put-requires-clause-few
choose-put-requires-clause-few t c =
    omega (arith, ap (λ r. length r) c.spanned-here.ensures.spans, length-filter (spans c.args.cell) c.args.keys.now, count_by-le-length (spans c.args.cell) c.args.keys.now, c.requires.few)

pub choose-put-requires-clause-zones : goal.choose-put-requires-clause-zones
choose-put-requires-clause-zones t c =
    let g = standing_ground c.args.marks.now in
    let items : values c.as_slice-2.result.now ≡ on g (values c.args.zones.now) c.args.cell = ap values c.as_slice-2.ensures.value ∙ c.in_ok-there.ensures.zones in
    omega (arith, ap (λ r. length r) items, length_on g (values c.args.zones.now) c.args.cell, length_values c.as_slice-2.result.now, length_values c.args.zones.now, c.requires.zones)

pub choose-returns : goal.choose-returns
choose-returns t c =
    let g = standing_ground c.args.marks.now in
    let items : values c.as_slice-2.result.now ≡ on g (values c.args.zones.now) c.args.cell = ap values c.as_slice-2.ensures.value ∙ c.in_ok-there.ensures.zones in
    let leaf : is_split g (values c.args.zones.now) c.args.cell ≡ false = sym c.in_ok-there.ensures.split ∙ c.if-there.false in
    c.in_ok-put.ensures
    ∙ ap (λ r. c.args.found.now.items ++ r)
    (leaf_by_length g (standings_go_down c.args.marks.now) c.args.threshold (values c.args.zones.now) c.args.keys.now (values c.as_slice-2.result.now) c.spanned-here.result.now c.args.cell items c.spanned-here.ensures.spans leaf)
