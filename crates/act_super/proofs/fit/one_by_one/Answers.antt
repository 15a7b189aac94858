use Rattle.std.proofs.Common.{◌≡◌, ◌+◌, ◌<◌, ◌≤◌, ◌++◌, ◌∷◌, [], ◌∙◌, ap, sym, arith, take, length, inr}
use Rattle.act_super.specs.Standings.{standing_rows, values}
use Rattle.act_super.proofs.MarkFacts.{copied_more}
use Rattle.act_super.proofs.StepFacts.{ends, fit_found, fits_more, length_taken, rows_taken}
use Rattle.act_super.proofs.fit.one_by_one.Goals as goal

pub rows_grown-requires-clause-longer : goal.rows_grown-requires-clause-longer
rows_grown-requires-clause-longer c = c.in_ok-push.ensures ∙ ap (λ xs. xs ++ (c.index-cells-count.result ∷ [])) (c.loop-count.invariant.more ∙ sym c.loop-count.invariant.marks)

pub rows_grown-requires-clause-rows : goal.rows_grown-requires-clause-rows
rows_grown-requires-clause-rows c = c.loop-count.invariant.rows ∙ ap (λ xs. standing_rows xs (values c.args.zones.now)) (sym c.loop-count.invariant.marks)

pub rows_grown-requires-clause-small : goal.rows_grown-requires-clause-small
rows_grown-requires-clause-small c = omega (arith, c.loop-count.invariant.rows, c.loop-count.invariant.each c.loop-count.count (omega arith), c.ranges.limit.fits)

pub loop-count-init : goal.loop-count-init
loop-count-init c =
    let count : length c.as_slice-first.result.now ≡ length c.args.start.marks = ap (λ xs. length xs) c.as_slice-first.ensures in
    let first : c.args.start.marks ≡ take (length c.as_slice-first.result.now) c.args.cells.now = c.requires.start.first ∙ ap (λ n. take n c.args.cells.now) (sym count) in
    record {
      marks = first;
      more = c.in_ok-more.ensures ∙ c.as_slice.ensures ∙ first;
      rows = c.requires.rows ∙ ap (λ xs. standing_rows xs (values c.args.zones.now)) first;
      each = λ n low. c.requires.start.each n (omega (arith, count, low));
    }

pub loop-count-preserved : goal.loop-count-preserved
loop-count-preserved c =
    let within : c.loop-count.count < length c.args.cells.now = omega (arith, c.loop-count-test.true, c.min-last.ensures) in
    let more : c.push.new.self ≡ take (c.loop-count.count + 1) c.args.cells.now =
    copied_more c.args.cells.now c.loop-count.count c.index-cells-count.result c.loop-count.more c.push.new.self within c.index-cells-count.is c.loop-count.invariant.more c.in_ok-push.ensures in
    let rows : c.in_ok-found.found ≡ standing_rows (take (c.loop-count.count + 1) c.args.cells.now) (values c.args.zones.now) = c.in_ok-found.ensures ∙ ap (λ xs. standing_rows xs (values c.args.zones.now)) more in
    record {
      marks = copied_more c.args.cells.now c.loop-count.count c.index-cells-count.result c.loop-count.marks c.push-in-loop-count.new.self within c.index-cells-count.is c.loop-count.invariant.marks c.in_ok-push-2.ensures;
      more = more;
      rows = rows;
      each = fits_more c.args.limit (values c.args.zones.now) c.args.cells.now c.loop-count.count c.loop-count.invariant.each (omega (arith, rows, c.if-found-from.false, c.from.ensures));
    }

pub returns-then-found-from-clause-fit : goal.returns-then-found-from-clause-fit
returns-then-found-from-clause-fit c =
    let within : c.loop-count.count < length c.args.cells.now = omega (arith, c.loop-count-test.true, c.min-last.ensures) in
    let more : c.push.new.self ≡ take (c.loop-count.count + 1) c.args.cells.now =
    copied_more c.args.cells.now c.loop-count.count c.index-cells-count.result c.loop-count.more c.push.new.self within c.index-cells-count.is c.loop-count.invariant.more c.in_ok-push.ensures in
    let rows : c.in_ok-found.found ≡ standing_rows (take (c.loop-count.count + 1) c.args.cells.now) (values c.args.zones.now) = c.in_ok-found.ensures ∙ ap (λ xs. standing_rows xs (values c.args.zones.now)) more in
    fit_found c.args.limit (values c.args.zones.now) c.args.cells.now c.loop-count.marks c.loop-count.count c.loop-count.invariant.marks
    (omega (arith, within)) (omega (arith, c.loop-count-test.true, c.min-last.ensures)) c.loop-count.invariant.each
    (inr (inr (omega (arith, rows, c.if-found-from.true, c.from.ensures))))

pub returns-then-found-from-clause-from : goal.returns-then-found-from-clause-from
returns-then-found-from-clause-from c =
    omega (
      arith,
      length_taken c.args.cells.now c.loop-count.marks c.loop-count.count c.loop-count.invariant.marks (omega (arith, c.loop-count-test.true, c.min-last.ensures)),
      c.loop-count.auto.count,
      ap (λ xs. length xs) c.as_slice-first.ensures,
    )

pub returns-then-found-from-clause-rows : goal.returns-then-found-from-clause-rows
returns-then-found-from-clause-rows c = rows_taken (values c.args.zones.now) c.args.cells.now c.loop-count.marks c.loop-count.count c.loop-count.rows c.loop-count.invariant.marks c.loop-count.invariant.rows

pub returns-clause-fit : goal.returns-clause-fit
returns-clause-fit c =
    let count : length c.as_slice-first.result.now ≡ length c.args.start.marks = ap (λ xs. length xs) c.as_slice-first.ensures in
    let first : length c.as_slice-first.result.now ≤ c.min-last.result = omega (arith, count, c.requires.start.within, c.requires.start.few, c.min-last.ensures) in
    let last = c.loop-count.auto.count-end first in
    fit_found c.args.limit (values c.args.zones.now) c.args.cells.now c.loop-count.marks c.loop-count.count c.loop-count.invariant.marks
    (omega (arith, last, c.min-last.ensures)) (omega (arith, last, c.min-last.ensures)) c.loop-count.invariant.each
    (ends (length c.args.cells.now) c.min-last.result c.loop-count.count (standing_rows (take (c.loop-count.count + 1) c.args.cells.now) (values c.args.zones.now)) c.args.limit c.min-last.ensures last c.loop-count-test.false)

pub returns-clause-from : goal.returns-clause-from
returns-clause-from c =
    let count : length c.as_slice-first.result.now ≡ length c.args.start.marks = ap (λ xs. length xs) c.as_slice-first.ensures in
    let first : length c.as_slice-first.result.now ≤ c.min-last.result = omega (arith, count, c.requires.start.within, c.requires.start.few, c.min-last.ensures) in
    let last = c.loop-count.auto.count-end first in
    omega (arith, length_taken c.args.cells.now c.loop-count.marks c.loop-count.count c.loop-count.invariant.marks (omega (arith, last, c.min-last.ensures)), c.loop-count.auto.count, count)

pub returns-clause-rows : goal.returns-clause-rows
returns-clause-rows c = rows_taken (values c.args.zones.now) c.args.cells.now c.loop-count.marks c.loop-count.count c.loop-count.rows c.loop-count.invariant.marks c.loop-count.invariant.rows
