use Rattle.std.proofs.Common.{arith, ◌≡◌, ◌+◌, ◌<◌, [], ◌∷◌, ◌++◌, length, sym, ap, ◌∙◌, subst, length-append}
use Rattle.act_rows.specs.declared.views.Desk.{Desk}
use Rattle.act_rows.specs.Versions.{newest}
use Rattle.act_rows_uses.proofs.Filling.{Filled, IsFresh, filled_more, fresh_store, fresh_more, filled_publish}
use Rattle.act_rows_uses.proofs.numbers.advance.Goals as goal

pub store-requires : goal.store-requires
store-requires g c =
    fresh_store c.args.master.now.desk c.loop-place.master.desk c.args.row c.loop-place.place (c.version-version.result + 1) c.loop-place.invariant.filled record { above = c.requires.range.0; below = c.requires.range.1 } c.requires.fresh

pub loop-place-preserved : goal.loop-place-preserved
loop-place-preserved g c =
    let i = c.loop-place.invariant in
    let test = c.loop-place-test.true in
    let small : c.loop-place.place < 256 = omega arith in
    let more = filled_more c.args.master.now.desk c.loop-place.master.desk c.args.row c.loop-place.place (c.version-version.result + 1) i.filled small record { above = c.requires.range.0; below = c.requires.range.1 } c.version-version.ensures.kept.deep in
    let t = i.ticks in
    let u = c.store.ensures.ticks in
    record {
      table = c.store.ensures.same.0 ∙ i.table;
      filled = subst (λ z. Filled c.args.master.now.desk z c.args.row (c.loop-place.place + 1) (c.version-version.result + 1)) (sym c.store.ensures.same.1) more;
      ticks = omega arith;
    }

pub publish-requires : goal.publish-requires
publish-requires g c =
    let i = c.loop-place.invariant in
    let past = c.loop-place-test.false in
    let within = c.loop-place.auto.place-end in
    let whole : c.loop-place.place ≡ 256 = omega arith in
    let filled : Filled c.args.master.now.desk c.loop-place.master.desk c.args.row 256 (c.version-version.result + 1) = subst (λ z. Filled c.args.master.now.desk c.loop-place.master.desk c.args.row z (c.version-version.result + 1)) whole i.filled in
    let long = length-append c.loop-place.master.desk.history (g.E.Added.entry ∷ []) in
    let same = ap length filled.history in
    let version_is = c.version-version.ensures.version in
    let number : c.version-version.result + 1 ≡ length (c.loop-place.master.desk.history ++ g.E.Added.entry ∷ []) = omega arith in
    filled_publish _ c.args.master.now.desk c.loop-place.master.desk c.args.row (c.version-version.result + 1) g.E.Added.entry g.E.Added.rows g.E.Added.firsts filled c.requires.few c.requires.rows (filled.there 0 (omega arith) ∙ number)

pub returns-clause-fresh : goal.returns-clause-fresh
returns-clause-fresh g c =
    let more = fresh_more c.args.master.now.desk c.loop-place.master.desk c.args.row c.loop-place.place (c.version-version.result + 1) g.E.Added.entry g.E.Added.rows g.E.Added.firsts c.loop-place.invariant.filled c.requires.rows c.requires.fresh in
    subst (λ (z : Desk). IsFresh z.versions (c.args.row + 1)) (sym c.publish.ensures.1) more

pub returns-clause-sizes : goal.returns-clause-sizes
returns-clause-sizes g c =
    let f = c.loop-place.invariant.filled in
    (ap (λ (z : Desk). z.rows) c.publish.ensures.1 ∙ f.rows, ap (λ (z : Desk). z.pins) c.publish.ensures.1 ∙ f.pins)

pub returns-clause-version : goal.returns-clause-version
returns-clause-version g c =
    let f = c.loop-place.invariant.filled in
    let is = ap newest c.publish.ensures.1 in
    let long = length-append c.loop-place.master.desk.history (g.E.Added.entry ∷ []) in
    let same = ap length f.history in
    omega arith
