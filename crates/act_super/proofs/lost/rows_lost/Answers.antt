use Rattle.std.proofs.Common.{◌≡◌, arith, sym, ◌∙◌, ap}
use Rattle.act_super.specs.Grounds.{is_among, is_split, on}
use Rattle.act_super.specs.Standings.{standing_ground, values}
use Rattle.act_super.proofs.LossFacts.{losses_fit, top_losses}
use Rattle.act_super.proofs.TreeFacts.{on_again, split_on}
use Rattle.act_super.proofs.lost.rows_lost.Goals as goal

pub lost-requires-clause-on : goal.lost-requires-clause-on
lost-requires-clause-on c =
    let items : values c.as_slice.result.now ≡ on (standing_ground c.args.marks.now) (values c.args.zones.now) c.root-root.result = ap values c.as_slice.ensures.value ∙ c.in_ok-top.ensures.zones in
    ap (λ r. on (standing_ground c.args.marks.now) r c.root-root.result) items ∙ on_again (standing_ground c.args.marks.now) (values c.args.zones.now) c.root-root.result ∙ sym items

pub lost-requires-clause-split : goal.lost-requires-clause-split
lost-requires-clause-split c =
    let items : values c.as_slice.result.now ≡ on (standing_ground c.args.marks.now) (values c.args.zones.now) c.root-root.result = ap values c.as_slice.ensures.value ∙ c.in_ok-top.ensures.zones in
    c.in_ok-top.ensures.split ∙ sym (ap (λ r. is_split (standing_ground c.args.marks.now) r c.root-root.result) items ∙ split_on (standing_ground c.args.marks.now) (values c.args.zones.now) c.root-root.result)

pub returns-clause-is : goal.returns-clause-is
returns-clause-is c =
    let items : values c.as_slice.result.now ≡ on (standing_ground c.args.marks.now) (values c.args.zones.now) c.root-root.result = ap values c.as_slice.ensures.value ∙ c.in_ok-top.ensures.zones in
    c.in_ok-rows.ensures ∙ top_losses c.args.marks.now (is_among c.args.old.now) (values c.args.zones.now) (values c.as_slice.result.now) c.root-root.result c.root-root.ensures items

pub returns-clause-fits : goal.returns-clause-fits
returns-clause-fits c = omega (arith, c.in_ok-rows.ensures, losses_fit (standing_ground c.args.marks.now) (is_among c.args.old.now) (values c.as_slice.result.now) c.root-root.result)
