use Rattle.std.proofs.Common.{◌≡◌, ◌∙◌, ap, sym, arith, length}
use Rattle.act_super.specs.Grounds.{is_split, on}
use Rattle.act_super.specs.Packs.{inner, put_tree}
use Rattle.act_super.specs.Standings.{standing_ground, values}
use Rattle.act_super.specs.Trees.{under}
use Rattle.act_super.proofs.StandingFacts.{length_values}
use Rattle.act_super.proofs.grow.part_rows.Goals as goal

pub whole-requires-clause-few : goal.whole-requires-clause-few
whole-requires-clause-few c =
    let items : values c.as_slice.result.now ≡ values c.args.zones.now = ap values c.as_slice.ensures.value ∙ c.in_ok-there.ensures.zones ∙ c.requires.on in
    omega (arith, ap (λ r. length r) items, length_values c.as_slice.result.now, length_values c.args.zones.now, c.requires.few)

pub whole-requires-clause-on : goal.whole-requires-clause-on
whole-requires-clause-on c =
    let items : values c.as_slice.result.now ≡ values c.args.zones.now = ap values c.as_slice.ensures.value ∙ c.in_ok-there.ensures.zones ∙ c.requires.on in
    ap (λ r. on (standing_ground c.args.marks.now) r c.args.cell) items ∙ c.requires.on ∙ sym items

pub whole-requires-clause-split : goal.whole-requires-clause-split
whole-requires-clause-split c =
    let items : values c.as_slice.result.now ≡ values c.args.zones.now = ap values c.as_slice.ensures.value ∙ c.in_ok-there.ensures.zones ∙ c.requires.on in
    c.in_ok-there.ensures.split ∙ ap (λ r. is_split (standing_ground c.args.marks.now) r c.args.cell) (sym items)

pub returns-clause-put : goal.returns-clause-put
returns-clause-put c =
    let items : values c.as_slice.result.now ≡ values c.args.zones.now = ap values c.as_slice.ensures.value ∙ c.in_ok-there.ensures.zones ∙ c.requires.on in
    c.in_ok-found.ensures.put ∙ ap (λ r. put_tree c.args.k c.args.pack.now (under (standing_ground c.args.marks.now) r c.args.cell)) items

pub returns-clause-rows : goal.returns-clause-rows
returns-clause-rows c =
    let items : values c.as_slice.result.now ≡ values c.args.zones.now = ap values c.as_slice.ensures.value ∙ c.in_ok-there.ensures.zones ∙ c.requires.on in
    c.in_ok-found.ensures.rows ∙ ap (λ r. inner c.args.k (under (standing_ground c.args.marks.now) r c.args.cell)) items
