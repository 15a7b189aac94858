use Rattle.std.proofs.Common.{◌≡◌, ◌^◌, ◌<◌, ◌≤◌, length, arith, sym, ◌∙◌, ap}
use Rattle.act_super.specs.declared.pack.Pack.{Pack}
use Rattle.act_super.specs.Grounds.{is_split, on}
use Rattle.act_super.specs.Standings.{standing_ground, values}
use Rattle.act_super.specs.Trees.{under}
use Rattle.act_super.proofs.LinkFacts.{most_under_within}
use Rattle.act_super.proofs.RowFacts.{inner_fits, rows_more}
use Rattle.act_super.proofs.StandingFacts.{length_values}
use Rattle.act_super.proofs.TopFacts.{top_most, top_rows}
use Rattle.act_super.proofs.TreeFacts.{on_again, split_on}
use Rattle.act_super.proofs.UnderFacts.{length_on}
use Rattle.act_super.proofs.room.measured.Goals as goal

pub whole-requires-clause-few : goal.whole-requires-clause-few
whole-requires-clause-few c =
    let items : values c.as_slice.result.now ≡ on (standing_ground c.args.marks.now) (values c.args.zones.now) c.root-root.result = ap values c.as_slice.ensures.value ∙ c.in_ok-top.ensures.zones in
    omega (arith, ap (λ r. length r) items, length_on (standing_ground c.args.marks.now) (values c.args.zones.now) c.root-root.result, length_values c.as_slice.result.now, length_values c.args.zones.now, c.requires)

pub whole-requires-clause-on : goal.whole-requires-clause-on
whole-requires-clause-on c =
    let items : values c.as_slice.result.now ≡ on (standing_ground c.args.marks.now) (values c.args.zones.now) c.root-root.result = ap values c.as_slice.ensures.value ∙ c.in_ok-top.ensures.zones in
    ap (λ r. on (standing_ground c.args.marks.now) r c.root-root.result) items ∙ on_again (standing_ground c.args.marks.now) (values c.args.zones.now) c.root-root.result ∙ sym items

pub whole-requires-clause-split : goal.whole-requires-clause-split
whole-requires-clause-split c =
    let items : values c.as_slice.result.now ≡ on (standing_ground c.args.marks.now) (values c.args.zones.now) c.root-root.result = ap values c.as_slice.ensures.value ∙ c.in_ok-top.ensures.zones in
    c.in_ok-top.ensures.split ∙ sym (ap (λ r. is_split (standing_ground c.args.marks.now) r c.root-root.result) items ∙ split_on (standing_ground c.args.marks.now) (values c.args.zones.now) c.root-root.result)

pub overflow_add-nodes : goal.overflow_add-nodes
overflow_add-nodes c =
    let rows : c.whole.new.pack.rows ≤ 256 =
    omega (arith, ap (λ (p : Pack). p.rows) c.in_ok-below.ensures.put, ap (λ (p : Pack). p.rows) c.empty-pack.ensures, rows_more 4 c.empty-pack.result (under (standing_ground c.args.marks.now) (values c.as_slice.result.now) c.root-root.result)) in
    let below : c.in_ok-below.below.rows < 2 ^ 57 = omega (arith, c.in_ok-below.ensures.rows, inner_fits (standing_ground c.args.marks.now) (values c.as_slice.result.now) c.root-root.result 4) in
    omega arith

pub overflow_add-nodes-2 : goal.overflow_add-nodes-2
overflow_add-nodes-2 c =
    let rows : c.whole.new.pack.rows ≤ 256 =
    omega (arith, ap (λ (p : Pack). p.rows) c.in_ok-below.ensures.put, ap (λ (p : Pack). p.rows) c.empty-pack.ensures, rows_more 4 c.empty-pack.result (under (standing_ground c.args.marks.now) (values c.as_slice.result.now) c.root-root.result)) in
    let below : c.in_ok-below.below.rows < 2 ^ 57 = omega (arith, c.in_ok-below.ensures.rows, inner_fits (standing_ground c.args.marks.now) (values c.as_slice.result.now) c.root-root.result 4) in
    omega arith

pub overflow_add-rows : goal.overflow_add-rows
overflow_add-rows c =
    let rows : c.whole.new.pack.rows ≤ 256 =
    omega (arith, ap (λ (p : Pack). p.rows) c.in_ok-below.ensures.put, ap (λ (p : Pack). p.rows) c.empty-pack.ensures, rows_more 4 c.empty-pack.result (under (standing_ground c.args.marks.now) (values c.as_slice.result.now) c.root-root.result)) in
    let below : c.in_ok-below.below.rows < 2 ^ 57 = omega (arith, c.in_ok-below.ensures.rows, inner_fits (standing_ground c.args.marks.now) (values c.as_slice.result.now) c.root-root.result 4) in
    omega (arith, c.chains.ensures.fits)

pub returns-clause-rows : goal.returns-clause-rows
returns-clause-rows c =
    let items : values c.as_slice.result.now ≡ on (standing_ground c.args.marks.now) (values c.args.zones.now) c.root-root.result = ap values c.as_slice.ensures.value ∙ c.in_ok-top.ensures.zones in
    top_rows c.args.marks.now (values c.args.zones.now) (values c.as_slice.result.now) c.root-root.result c.empty-pack.result c.whole.new.pack c.in_ok-below.below.rows c.chains.result
    c.root-root.ensures items c.empty-pack.ensures c.in_ok-below.ensures.put c.in_ok-below.ensures.rows c.chains.ensures.sum

pub returns-clause-most : goal.returns-clause-most
returns-clause-most c =
    let items : values c.as_slice.result.now ≡ on (standing_ground c.args.marks.now) (values c.args.zones.now) c.root-root.result = ap values c.as_slice.ensures.value ∙ c.in_ok-top.ensures.zones in
    c.in_ok-below.ensures.most ∙ top_most c.args.marks.now (values c.args.zones.now) (values c.as_slice.result.now) c.root-root.result c.root-root.ensures items

pub returns-clause-few : goal.returns-clause-few
returns-clause-few c =
    let items : values c.as_slice.result.now ≡ on (standing_ground c.args.marks.now) (values c.args.zones.now) c.root-root.result = ap values c.as_slice.ensures.value ∙ c.in_ok-top.ensures.zones in
    omega (
      arith,
      c.in_ok-below.ensures.most ∙ top_most c.args.marks.now (values c.args.zones.now) (values c.as_slice.result.now) c.root-root.result c.root-root.ensures items,
      most_under_within c.args.marks.now (values c.args.zones.now),
      length_values c.args.zones.now,
      c.requires,
    )
