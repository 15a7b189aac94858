use Rattle.std.proofs.Common.{◌≡◌, ◌^◌, ◌<◌, ◌≤◌, length, arith, subst, sym, ◌∙◌, ap, true, false}
use Rattle.act_grid.specs.Cell.{root_cell}
use Rattle.act_cover.specs.Covering.{class_at, is_on}
use Rattle.act_super.specs.declared.pack.Pack.{Pack}
use Rattle.act_super.specs.Boxes.{AreFramed}
use Rattle.act_super.specs.Grounds.{is_split, on}
use Rattle.act_super.specs.Shifts.{added}
use Rattle.act_super.specs.Standings.{standing_ground, values}
use Rattle.act_super.specs.Trees.{under}
use Rattle.act_super.proofs.BoxFacts.{boxed_on}
use Rattle.act_super.proofs.RoomFacts.{top_apart, top_shift}
use Rattle.act_super.proofs.RowFacts.{inner_fits, rows_more}
use Rattle.act_super.proofs.StandingFacts.{length_values}
use Rattle.act_super.proofs.TreeFacts.{on_again, split_on}
use Rattle.act_super.proofs.UnderFacts.{length_on}
use Rattle.act_super.proofs.room.shift_at_root.Goals as goal

pub returns-then-not-is_on-clause-shift : goal.returns-then-not-is_on-clause-shift
returns-then-not-is_on-clause-shift c =
    let off : is_on (class_at c.args.zone.now.shape root_cell) ≡ false =
    ap (λ d. is_on (class_at c.args.zone.now.shape d)) (sym c.root-root.ensures) ∙ ap is_on (sym c.class_on-class.ensures) ∙ sym c.is_on.ensures ∙ c.if-not-is_on.true in
    top_apart c.args.marks.now (values c.args.others.now) c.args.zone.now off

pub both-requires-clause-few : goal.both-requires-clause-few
both-requires-clause-few c =
    let items : values c.as_slice.result.now ≡ on (standing_ground c.args.marks.now) (values c.args.others.now) c.root-root.result = ap values c.as_slice.ensures.value ∙ c.in_ok-top.ensures.zones in
    omega (arith, ap (λ r. length r) items, length_on (standing_ground c.args.marks.now) (values c.args.others.now) c.root-root.result, length_values c.as_slice.result.now, length_values c.args.others.now, c.requires)

pub both-requires-clause-boxed : goal.both-requires-clause-boxed
both-requires-clause-boxed c =
    let items : values c.as_slice.result.now ≡ on (standing_ground c.args.marks.now) (values c.args.others.now) c.root-root.result = ap values c.as_slice.ensures.value ∙ c.in_ok-top.ensures.zones in
    let here : on (standing_ground c.args.marks.now) (values c.as_slice.result.now) c.root-root.result ≡ values c.as_slice.result.now =
    ap (λ r. on (standing_ground c.args.marks.now) r c.root-root.result) items ∙ on_again (standing_ground c.args.marks.now) (values c.args.others.now) c.root-root.result ∙ sym items in
    let framed : AreFramed c.frame_over.result (values c.as_slice.result.now) =
    subst (λ refs. AreFramed c.frame_over.result (values refs)) (c.as_slice-2.ensures.value ∙ sym c.as_slice.ensures.value) c.frame_over.ensures in
    boxed_on c.args.marks.now c.frame_over.result (values c.as_slice.result.now) c.root-root.result framed here

pub both-requires-clause-on : goal.both-requires-clause-on
both-requires-clause-on c =
    let items : values c.as_slice.result.now ≡ on (standing_ground c.args.marks.now) (values c.args.others.now) c.root-root.result = ap values c.as_slice.ensures.value ∙ c.in_ok-top.ensures.zones in
    ap (λ r. on (standing_ground c.args.marks.now) r c.root-root.result) items ∙ on_again (standing_ground c.args.marks.now) (values c.args.others.now) c.root-root.result ∙ sym items

pub both-requires-clause-split : goal.both-requires-clause-split
both-requires-clause-split c =
    let items : values c.as_slice.result.now ≡ on (standing_ground c.args.marks.now) (values c.args.others.now) c.root-root.result = ap values c.as_slice.ensures.value ∙ c.in_ok-top.ensures.zones in
    c.in_ok-top.ensures.split ∙ sym (ap (λ r. is_split (standing_ground c.args.marks.now) r c.root-root.result) items ∙ split_on (standing_ground c.args.marks.now) (values c.args.others.now) c.root-root.result)

pub overflow_add-result : goal.overflow_add-result
overflow_add-result c =
    let rows : c.both.new.without.rows ≤ 256 =
    omega (arith, ap (λ (p : Pack). p.rows) c.in_ok-shift.ensures.without, ap (λ (p : Pack). p.rows) c.empty-old.ensures, rows_more 4 c.empty-old.result (under (standing_ground c.args.marks.now) (values c.as_slice.result.now) c.root-root.result)) in
    let less : c.in_ok-shift.shift.less < 2 ^ 57 = omega (arith, c.in_ok-shift.ensures.shift.fewer, inner_fits (standing_ground c.args.marks.now) (values c.as_slice.result.now) c.root-root.result 4) in
    omega arith

pub overflow_add-result-2 : goal.overflow_add-result-2
overflow_add-result-2 c =
    let rows : c.both.new.with.rows ≤ 256 =
    omega (arith, ap (λ (p : Pack). p.rows) c.in_ok-shift.ensures.with, ap (λ (p : Pack). p.rows) c.empty-new.ensures, rows_more 4 c.empty-new.result (under (standing_ground c.args.marks.now) (added (values c.as_slice.result.now) c.args.zone.now) c.root-root.result)) in
    let more : c.in_ok-shift.shift.more < 2 ^ 57 = omega (arith, c.in_ok-shift.ensures.shift.newer, inner_fits (standing_ground c.args.marks.now) (added (values c.as_slice.result.now) c.args.zone.now) c.root-root.result 4) in
    omega arith

pub returns-clause-shift : goal.returns-clause-shift
returns-clause-shift c =
    let items : values c.as_slice.result.now ≡ on (standing_ground c.args.marks.now) (values c.args.others.now) c.root-root.result = ap values c.as_slice.ensures.value ∙ c.in_ok-top.ensures.zones in
    let z_on : is_on (class_at c.args.zone.now.shape c.root-root.result) ≡ true = ap is_on (sym c.class_on-class.ensures) ∙ sym c.is_on.ensures ∙ c.if-not-is_on.false in
    top_shift c.args.marks.now (values c.args.others.now) (values c.as_slice.result.now) c.args.zone.now c.root-root.result c.empty-old.result c.both.new.without c.empty-new.result c.both.new.with c.in_ok-shift.shift
    c.root-root.ensures items z_on c.empty-old.ensures c.empty-new.ensures c.in_ok-shift.ensures.without c.in_ok-shift.ensures.with c.in_ok-shift.ensures.shift

pub returns-clause-fits : goal.returns-clause-fits
returns-clause-fits c =
    let one : c.both.new.without.rows ≤ 256 =
    omega (arith, ap (λ (p : Pack). p.rows) c.in_ok-shift.ensures.without, ap (λ (p : Pack). p.rows) c.empty-old.ensures, rows_more 4 c.empty-old.result (under (standing_ground c.args.marks.now) (values c.as_slice.result.now) c.root-root.result)) in
    let two : c.both.new.with.rows ≤ 256 =
    omega (arith, ap (λ (p : Pack). p.rows) c.in_ok-shift.ensures.with, ap (λ (p : Pack). p.rows) c.empty-new.ensures, rows_more 4 c.empty-new.result (under (standing_ground c.args.marks.now) (added (values c.as_slice.result.now) c.args.zone.now) c.root-root.result)) in
    let less : c.in_ok-shift.shift.less < 2 ^ 57 = omega (arith, c.in_ok-shift.ensures.shift.fewer, inner_fits (standing_ground c.args.marks.now) (values c.as_slice.result.now) c.root-root.result 4) in
    let more : c.in_ok-shift.shift.more < 2 ^ 57 = omega (arith, c.in_ok-shift.ensures.shift.newer, inner_fits (standing_ground c.args.marks.now) (added (values c.as_slice.result.now) c.args.zone.now) c.root-root.result 4) in
    (omega arith, omega arith)
