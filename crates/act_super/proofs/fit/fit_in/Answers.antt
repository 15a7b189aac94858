use Rattle.std.proofs.Common.{◌≡◌, ◌∙◌, ap, sym, length, []}
use Rattle.act_super.specs.Sound.{spliced}
use Rattle.act_super.specs.Standings.{standing_rows, values}
use Rattle.act_super.proofs.StepFacts.{bound_steps, fit_same, fit_whole}
use Rattle.act_super.proofs.fit.fit_in.Goals as goal

pub returns-then-sure-cells-clause-fit : goal.returns-then-sure-cells-clause-fit
returns-then-sure-cells-clause-fit c =
    fit_whole c.args.limit (spliced c.args.standings.now c.args.from c.args.new c.args.to) c.args.marks.now c.in_ok-of.field-0 c.args.plain c.sure_count-sure.result
    c.requires.plain c.sure_count-sure.ensures.fits c.sure_count-sure.ensures.few (c.if-sure-cells.true ∙ ap (λ xs. length xs) c.as_slice-cells.ensures) (c.in_ok-of.ensures ∙ c.as_slice-cells.ensures)

pub fits_whole-requires : goal.fits_whole-requires
fits_whole-requires c =
    let zones : values c.as_slice.result.now ≡ spliced c.args.standings.now c.args.from c.args.new c.args.to = ap values c.as_slice.ensures.value ∙ c.in_ok-zones.ensures in
    record { rows = c.in_ok-rows.ensures ∙ ap (standing_rows c.args.marks.now) (sym zones) }

pub returns-then-whole-clause-fit : goal.returns-then-whole-clause-fit
returns-then-whole-clause-fit c =
    let zones : values c.as_slice.result.now ≡ spliced c.args.standings.now c.args.from c.args.new c.args.to = ap values c.as_slice.ensures.value ∙ c.in_ok-zones.ensures in
    fit_same c.args.limit (spliced c.args.standings.now c.args.from c.args.new c.args.to) (values c.as_slice.result.now) c.args.marks.now c.in_ok-of-2.field-0 zones (c.in_ok-of-2.ensures ∙ c.as_slice-cells.ensures) (c.in_ok-whole.ensures c.if-whole.true)

pub longest-requires-clause-sure : goal.longest-requires-clause-sure
longest-requires-clause-sure c =
    let zones : values c.as_slice-2.result.now ≡ spliced c.args.standings.now c.args.from c.args.new c.args.to = ap values c.as_slice-2.ensures.value ∙ c.in_ok-zones.ensures in
    bound_steps c.args.limit (values c.as_slice-2.result.now) c.as_slice-cells.result.now c.args.plain c.sure_count-sure.result (c.requires.plain ∙ ap (standing_rows []) (sym zones)) c.sure_count-sure.ensures.fits
