use Rattle.std.proofs.Common.{◌≡◌, ◌^◌, ◌<◌, ◌≤◌, length, arith, sym, ◌∙◌, ap}
use Rattle.act_super.specs.declared.pack.Pack.{Pack}
use Rattle.act_super.specs.Grounds.{is_split, on}
use Rattle.act_super.specs.Standings.{standing_ground, values}
use Rattle.act_super.specs.Trees.{under}
use Rattle.act_super.proofs.GrownFacts.{grown_rows}
use Rattle.act_super.proofs.RowFacts.{inner_fits, rows_more}
use Rattle.act_super.proofs.StandingFacts.{length_values}
use Rattle.act_super.proofs.TreeFacts.{on_again, split_on}
use Rattle.act_super.proofs.UnderFacts.{length_on}
use Rattle.act_super.proofs.grow.rows_grown.Goals as goal

pub grown-requires-clause-few : goal.grown-requires-clause-few
grown-requires-clause-few c =
    let items : values c.as_slice.result.now ≡ on (standing_ground c.args.old.now) (values c.args.zones.now) c.root-root.result = ap values c.as_slice.ensures.value ∙ c.in_ok-top.ensures.zones in
    omega (arith, ap (λ r. length r) items, length_on (standing_ground c.args.old.now) (values c.args.zones.now) c.root-root.result, length_values c.as_slice.result.now, length_values c.args.zones.now, c.requires.few)

pub grown-requires-clause-on : goal.grown-requires-clause-on
grown-requires-clause-on c =
    let items : values c.as_slice.result.now ≡ on (standing_ground c.args.old.now) (values c.args.zones.now) c.root-root.result = ap values c.as_slice.ensures.value ∙ c.in_ok-top.ensures.zones in
    ap (λ r. on (standing_ground c.args.old.now) r c.root-root.result) items ∙ on_again (standing_ground c.args.old.now) (values c.args.zones.now) c.root-root.result ∙ sym items

pub grown-requires-clause-split : goal.grown-requires-clause-split
grown-requires-clause-split c =
    let items : values c.as_slice.result.now ≡ on (standing_ground c.args.old.now) (values c.args.zones.now) c.root-root.result = ap values c.as_slice.ensures.value ∙ c.in_ok-top.ensures.zones in
    c.in_ok-top.ensures.split ∙ sym (ap (λ r. is_split (standing_ground c.args.old.now) r c.root-root.result) items ∙ split_on (standing_ground c.args.old.now) (values c.args.zones.now) c.root-root.result)

pub overflow_add-with : goal.overflow_add-with
overflow_add-with c =
    let one : c.grown.new.without.rows ≤ 256 =
    omega (arith, ap (λ (p : Pack). p.rows) c.in_ok-growth.ensures.without, ap (λ (p : Pack). p.rows) c.empty-first.ensures, rows_more 4 c.empty-first.result (under (standing_ground c.args.old.now) (values c.as_slice.result.now) c.root-root.result)) in
    let two : c.grown.new.with.rows ≤ 256 =
    omega (arith, ap (λ (p : Pack). p.rows) c.in_ok-growth.ensures.with, ap (λ (p : Pack). p.rows) c.empty-second.ensures, rows_more 4 c.empty-second.result (under (standing_ground c.args.new.now) (values c.as_slice.result.now) c.root-root.result)) in
    let less : c.in_ok-growth.growth.less < 2 ^ 57 = omega (arith, c.in_ok-growth.ensures.growth.fewer, inner_fits (standing_ground c.args.old.now) (values c.as_slice.result.now) c.root-root.result 4) in
    let more : c.in_ok-growth.growth.more < 2 ^ 57 = omega (arith, c.in_ok-growth.ensures.growth.newer, inner_fits (standing_ground c.args.new.now) (values c.as_slice.result.now) c.root-root.result 4) in
    omega (arith, c.requires.small)

pub overflow_add-with-2 : goal.overflow_add-with-2
overflow_add-with-2 c =
    let one : c.grown.new.without.rows ≤ 256 =
    omega (arith, ap (λ (p : Pack). p.rows) c.in_ok-growth.ensures.without, ap (λ (p : Pack). p.rows) c.empty-first.ensures, rows_more 4 c.empty-first.result (under (standing_ground c.args.old.now) (values c.as_slice.result.now) c.root-root.result)) in
    let two : c.grown.new.with.rows ≤ 256 =
    omega (arith, ap (λ (p : Pack). p.rows) c.in_ok-growth.ensures.with, ap (λ (p : Pack). p.rows) c.empty-second.ensures, rows_more 4 c.empty-second.result (under (standing_ground c.args.new.now) (values c.as_slice.result.now) c.root-root.result)) in
    let less : c.in_ok-growth.growth.less < 2 ^ 57 = omega (arith, c.in_ok-growth.ensures.growth.fewer, inner_fits (standing_ground c.args.old.now) (values c.as_slice.result.now) c.root-root.result 4) in
    let more : c.in_ok-growth.growth.more < 2 ^ 57 = omega (arith, c.in_ok-growth.ensures.growth.newer, inner_fits (standing_ground c.args.new.now) (values c.as_slice.result.now) c.root-root.result 4) in
    omega (arith, c.requires.small)

pub overflow_sub-found : goal.overflow_sub-found
overflow_sub-found c =
    let items : values c.as_slice.result.now ≡ on (standing_ground c.args.old.now) (values c.args.zones.now) c.root-root.result = ap values c.as_slice.ensures.value ∙ c.in_ok-top.ensures.zones in
    let told = grown_rows c.args.old.now c.args.new.now (values c.args.zones.now) (values c.as_slice.result.now) c.root-root.result c.empty-first.result c.grown.new.without c.empty-second.result c.grown.new.with c.in_ok-growth.growth c.args.rows
    c.root-root.ensures items c.empty-first.ensures c.empty-second.ensures c.in_ok-growth.ensures.without c.in_ok-growth.ensures.with c.in_ok-growth.ensures.growth c.requires.rows in
    omega (arith, told.1)

pub overflow_sub-found-2 : goal.overflow_sub-found-2
overflow_sub-found-2 c =
    let items : values c.as_slice.result.now ≡ on (standing_ground c.args.old.now) (values c.args.zones.now) c.root-root.result = ap values c.as_slice.ensures.value ∙ c.in_ok-top.ensures.zones in
    let told = grown_rows c.args.old.now c.args.new.now (values c.args.zones.now) (values c.as_slice.result.now) c.root-root.result c.empty-first.result c.grown.new.without c.empty-second.result c.grown.new.with c.in_ok-growth.growth c.args.rows
    c.root-root.ensures items c.empty-first.ensures c.empty-second.ensures c.in_ok-growth.ensures.without c.in_ok-growth.ensures.with c.in_ok-growth.ensures.growth c.requires.rows in
    omega (arith, told.1)

pub returns : goal.returns
returns c =
    let items : values c.as_slice.result.now ≡ on (standing_ground c.args.old.now) (values c.args.zones.now) c.root-root.result = ap values c.as_slice.ensures.value ∙ c.in_ok-top.ensures.zones in
    let told = grown_rows c.args.old.now c.args.new.now (values c.args.zones.now) (values c.as_slice.result.now) c.root-root.result c.empty-first.result c.grown.new.without c.empty-second.result c.grown.new.with c.in_ok-growth.growth c.args.rows
    c.root-root.ensures items c.empty-first.ensures c.empty-second.ensures c.in_ok-growth.ensures.without c.in_ok-growth.ensures.with c.in_ok-growth.ensures.growth c.requires.rows in
    omega (arith, told.0, told.1)
