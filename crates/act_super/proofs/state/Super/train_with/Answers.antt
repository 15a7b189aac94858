use Rattle.std.proofs.Common.{◌≡◌, ◌+◌, ◌*◌, ◌≤◌, ◌∙◌, ap, sym, subst, refl, arith, take, length, ◌++◌, []}
use Rattle.std.specs.Prelude.{max}
use Rattle.act_super.specs.Places.{zones_with}
use Rattle.act_super.specs.Sizes.{rows_with}
use Rattle.act_super.specs.Sound.{IsFit}
use Rattle.act_super.specs.Standings.{shapes_in, standing_rows, values}
use Rattle.act_super.specs.States.{Plain}
use Rattle.act_super.proofs.LeafFacts.{joined_all}
use Rattle.act_super.proofs.StateFacts.{IsHeld, held_rows}
use Rattle.act_super.proofs.StepFacts.{sure_steps, trained_by_code}
use Rattle.act_super.proofs.state.Super.train_with.Goals as goal

pub longest-requires-clause-sure : goal.longest-requires-clause-sure
longest-requires-clause-sure c =
    let held : IsHeld c.self.inside.settings (zones_with c.self.inside.keys.items (shapes_in c.self.inside.standings.items)) c.self.inside.keys.items c.self.inside.standings.items =
    record { zones_are = refl; lengths = c.self.invariant.lengths; levels = c.self.invariant.levels } in
    let last : c.len-last.result ≡ length c.deref-2.result.now = omega (arith, c.len-last.ensures, c.deref-2.ensures.len) in
    let standings : values c.as_slice-2.result.now ≡ c.self.inside.standings.items = ap values c.as_slice-2.ensures.value ∙ c.in_ok-zones.ensures ∙ joined_all c.deref-2.result.now c.len-last.result last ∙ c.deref-2.ensures.value in
    let old : c.extend_from_slice.new.self.items ≡ c.self.inside.marks = c.in_ok-extend_from_slice.ensures.items ∙ ap (λ xs. xs ++ c.as_slice.result.now) c.new-all.ensures.items ∙ c.as_slice.ensures in
    let all : c.deref-3.result.now ≡ c.self.inside.marks ++ c.args.cells.items =
    c.deref-3.ensures.value ∙ c.in_ok-extend_from_slice-2.ensures.items ∙ ap (λ xs. xs ++ c.deref.result.now) old ∙ ap (λ xs. c.self.inside.marks ++ xs) c.deref.ensures.value in
    let known : c.len-known.result ≡ length c.self.inside.marks = omega (arith, c.len-known.ensures, c.in_ok-extend_from_slice.ensures.len, c.new-all.ensures.len, ap (λ xs. length xs) c.as_slice.ensures) in
    let room : standing_rows [] c.self.inside.standings.items + 5 * c.sure_count.result ≤ c.self.inside.settings.rows =
    omega (arith, c.sure_count.ensures.fits, c.self.invariant.plainly, held_rows c.self.inside.settings _ _ _ [] held) in
    let most : c.max-sure.result ≤ max c.sure_count.result (length c.self.inside.marks) = omega (arith, c.max-sure.ensures, known) in
    λ n low.
    subst (λ xs. standing_rows (take n xs) (values c.as_slice-2.result.now) ≤ c.self.inside.settings.rows) (sym all)
    (
    subst (λ ss. standing_rows (take n (c.self.inside.marks ++ c.args.cells.items)) ss ≤ c.self.inside.settings.rows) (sym standings)
    (sure_steps c.self.inside.settings _ _ _ c.self.inside.marks c.args.cells.items c.sure_count.result c.max-sure.result held c.self.invariant.kept room most n low)
    )

pub returns-clause-ok : goal.returns-clause-ok
returns-clause-ok c =
    let settings : c.args.self.now.settings ≡ c.self.inside.settings = ap (λ (p : Plain). p.settings) (sym c.self.view_is) in
    let zones : c.args.self.now.state.zones ≡ zones_with c.self.inside.keys.items (shapes_in c.self.inside.standings.items) = ap (λ (p : Plain). p.state.zones) (sym c.self.view_is) in
    let trained : c.self.inside.marks ≡ c.args.self.now.state.trained = ap (λ (p : Plain). p.state.trained) c.self.view_is in
    let held : IsHeld c.self.inside.settings c.args.self.now.state.zones c.self.inside.keys.items c.self.inside.standings.items =
    record { zones_are = zones; lengths = c.self.invariant.lengths; levels = c.self.invariant.levels } in
    let last : c.len-last.result ≡ length c.deref-2.result.now = omega (arith, c.len-last.ensures, c.deref-2.ensures.len) in
    let standings : values c.as_slice-2.result.now ≡ c.self.inside.standings.items = ap values c.as_slice-2.ensures.value ∙ c.in_ok-zones.ensures ∙ joined_all c.deref-2.result.now c.len-last.result last ∙ c.deref-2.ensures.value in
    let old : c.extend_from_slice.new.self.items ≡ c.self.inside.marks = c.in_ok-extend_from_slice.ensures.items ∙ ap (λ xs. xs ++ c.as_slice.result.now) c.new-all.ensures.items ∙ c.as_slice.ensures in
    let all : c.deref-3.result.now ≡ c.args.self.now.state.trained ++ c.args.cells.items =
    c.deref-3.ensures.value ∙ c.in_ok-extend_from_slice-2.ensures.items ∙ ap (λ xs. xs ++ c.deref.result.now) (old ∙ trained) ∙ ap (λ xs. c.args.self.now.state.trained ++ xs) c.deref.ensures.value in
    let known : c.len-known.result ≡ length c.args.self.now.state.trained = omega (arith, c.len-known.ensures, c.in_ok-extend_from_slice.ensures.len, c.new-all.ensures.len, ap (λ xs. length xs) (c.as_slice.ensures ∙ trained)) in
    let fit_is : IsFit c.self.inside.settings.rows c.self.inside.standings.items (c.args.self.now.state.trained ++ c.args.cells.items) c.in_ok-fitted.fitted.marks =
    subst (λ xs. IsFit c.self.inside.settings.rows c.self.inside.standings.items xs c.in_ok-fitted.fitted.marks) all (subst (λ ss. IsFit c.self.inside.settings.rows ss c.deref-3.result.now c.in_ok-fitted.fitted.marks) standings c.in_ok-fitted.ensures.fit) in
    let plain : c.self.inside.plain ≡ rows_with c.self.inside.settings c.args.self.now.state.zones [] = c.self.invariant.plainly ∙ ap (λ zs. rows_with c.self.inside.settings zs []) (sym zones) in
    let least : c.len-known.result ≤ length c.in_ok-fitted.fitted.marks = omega (arith, c.in_ok-fitted.ensures.from, c.max-sure.ensures) in
    let done =
    trained_by_code c.self.inside.settings c.args.self.now.state _ _ c.args.cells.items c.in_ok-fitted.fitted.marks c.len-known.result c.in_ok-fitted.fitted.rows c.self.inside.plain held fit_is known least
    (c.in_ok-fitted.ensures.rows ∙ ap (standing_rows c.in_ok-fitted.fitted.marks) standings) plain in
    (rw settings done.0, rw settings done.1, omega arith)
