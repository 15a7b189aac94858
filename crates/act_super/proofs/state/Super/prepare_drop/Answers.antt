use Rattle.std.proofs.Common.{◌≡◌, ap, sym, arith, true, false, None, inr, refl, ◌∙◌, []}
use Rattle.std.specs.Prelude.{◌+◌}
use Rattle.std.proofs.lemmas.Result.{err_from_is_err_and}
use Rattle.act_super.specs.declared.entry.Entry.TheVariants as entry
use Rattle.act_super.specs.Places.{zones_with}
use Rattle.act_super.specs.Standings.{shapes_in, standing_most, standing_rows}
use Rattle.act_super.specs.States.{Plain, has_key, key_verdict, room_of}
use Rattle.act_super.proofs.Keyed.{has_found, has_free}
use Rattle.act_super.proofs.StateFacts.{IsAt, IsFree, IsHeld, held_accepted, held_dropped, held_most, held_rows, joined, length_shapes, prepared_by, turned, within_limit}
use Rattle.act_super.proofs.state.Super.prepare_drop.Goals as goal

pub returns-in_default-clause-err : goal.returns-in_default-clause-err
returns-in_default-clause-err c =
    let zones : c.args.self.now.state.zones ≡ zones_with c.self.inside.keys.items (shapes_in c.self.inside.standings.items) = ap (λ (p : Plain). p.state.zones) (sym c.self.view_is) in
    let place : IsFree c.args.key c.self.inside.keys.items c.in_default.field-0 = rw c.deref.ensures.value at c.in_default.ensures in
    let missing : has_key c.args.key c.args.self.now.state.zones ≡ false = rw zones (has_free c.args.key c.self.inside.keys.items (shapes_in c.self.inside.standings.items) _ place.1 place.2) in
    inr (rw missing refl)

pub returns-in_err-plain-clause-err : goal.returns-in_err-plain-clause-err
returns-in_err-plain-clause-err c =
    let settings : c.args.self.now.settings ≡ c.self.inside.settings = ap (λ (p : Plain). p.settings) (sym c.self.view_is) in
    let zones : c.args.self.now.state.zones ≡ zones_with c.self.inside.keys.items (shapes_in c.self.inside.standings.items) = ap (λ (p : Plain). p.state.zones) (sym c.self.view_is) in
    let place : IsAt c.args.key c.self.inside.keys.items c.in-Ok.at = rw c.deref.ensures.value at c.in-Ok.ensures in
    let held : IsHeld c.self.inside.settings c.args.self.now.state.zones c.self.inside.keys.items c.self.inside.standings.items =
    record { zones_are = zones; lengths = c.self.invariant.lengths; levels = c.self.invariant.levels } in
    let lengths = length_shapes c.self.inside.standings.items ∙ c.self.invariant.lengths in
    let found : has_key c.args.key c.args.self.now.state.zones ≡ true = rw zones (has_found c.args.key c.self.inside.keys.items (shapes_in c.self.inside.standings.items) c.in-Ok.at lengths place.0 place.1) in
    let less = held_dropped c.self.inside.settings c.args.self.now.state.zones c.self.inside.keys.items c.self.inside.standings.items held c.self.invariant.rising c.args.key c.in-Ok.at place in
    let stands : key_verdict c.args.self.now.state.zones (entry.DropZone c.args.key) ≡ None = rw found refl in
    let here = ap (λ ss. joined ss c.in-Ok.at [] (c.in-Ok.at + 1)) c.deref-2.ensures.value in
    let cause = turned c.self.inside.settings _ _ _ (joined c.deref-2.result.now c.in-Ok.at [] (c.in-Ok.at + 1)) _ c.in_err-plain.field-0.0 less here stands c.in_err-plain.ensures.err in
    let p = err_from_is_err_and c.from_residual.result c.from_residual.ensures.1 in
    rw (p.1, p.2) (rw settings cause)

pub returns-clause-ok : goal.returns-clause-ok
returns-clause-ok c =
    let settings : c.args.self.now.settings ≡ c.self.inside.settings = ap (λ (p : Plain). p.settings) (sym c.self.view_is) in
    let zones : c.args.self.now.state.zones ≡ zones_with c.self.inside.keys.items (shapes_in c.self.inside.standings.items) = ap (λ (p : Plain). p.state.zones) (sym c.self.view_is) in
    let trained : c.self.inside.marks ≡ c.args.self.now.state.trained = ap (λ (p : Plain). p.state.trained) c.self.view_is in
    let place : IsAt c.args.key c.self.inside.keys.items c.in-Ok.at = rw c.deref.ensures.value at c.in-Ok.ensures in
    let held : IsHeld c.self.inside.settings c.args.self.now.state.zones c.self.inside.keys.items c.self.inside.standings.items =
    record { zones_are = zones; lengths = c.self.invariant.lengths; levels = c.self.invariant.levels } in
    let lengths = length_shapes c.self.inside.standings.items ∙ c.self.invariant.lengths in
    let found : has_key c.args.key c.args.self.now.state.zones ≡ true = rw zones (has_found c.args.key c.self.inside.keys.items (shapes_in c.self.inside.standings.items) c.in-Ok.at lengths place.0 place.1) in
    let less = held_dropped c.self.inside.settings c.args.self.now.state.zones c.self.inside.keys.items c.self.inside.standings.items held c.self.invariant.rising c.args.key c.in-Ok.at place in
    let stands : key_verdict c.args.self.now.state.zones (entry.DropZone c.args.key) ≡ None = rw found refl in
    let here = ap (λ ss. joined ss c.in-Ok.at [] (c.in-Ok.at + 1)) c.deref-2.ensures.value in
    let now = ap (λ ss. joined ss c.in-Ok.at [] (c.in-Ok.at + 1)) (c.deref-3.ensures.value) in
    let told = c.in_ok-plain.ensures.ok in
    let size = told.0 ∙ ap (standing_rows []) here in
    let fits = ap (λ ss. room_of c.self.inside.settings.rows (standing_most ss) c.in_ok-plain.plain) (sym here) ∙ told.1 in
    let room = held_accepted c.self.inside.settings _ _ _ c.in_ok-plain.plain less size fits in (
      refl,
      rw settings (prepared_by c.self.inside.settings c.args.self.now.state (entry.DropZone c.args.key) _ _ (joined c.deref-3.result.now c.in-Ok.at [] (c.in-Ok.at + 1)) c.self.inside.marks c.in-Ok-fitted.fitted.marks c.in-Ok-fitted.fitted.rows c.in_ok-plain.plain
          less refl refl stands room now trained c.in-Ok-fitted.ensures.fit c.in-Ok-fitted.ensures.rows (size ∙ held_rows c.self.inside.settings _ _ _ [] less)),
      omega arith,
    )

pub room_in-requires-clause-plain : goal.room_in-requires-clause-plain
room_in-requires-clause-plain c =
    let held : IsHeld c.self.inside.settings (zones_with c.self.inside.keys.items (shapes_in c.self.inside.standings.items)) c.self.inside.keys.items c.self.inside.standings.items =
    record { zones_are = refl; lengths = c.self.invariant.lengths; levels = c.self.invariant.levels } in
    c.self.invariant.plainly ∙ sym (held_rows c.self.inside.settings _ _ _ [] held) ∙ ap (standing_rows []) (sym (c.deref-2.ensures.value))

pub room_in-requires-clause-most : goal.room_in-requires-clause-most
room_in-requires-clause-most c =
    let held : IsHeld c.self.inside.settings (zones_with c.self.inside.keys.items (shapes_in c.self.inside.standings.items)) c.self.inside.keys.items c.self.inside.standings.items =
    record { zones_are = refl; lengths = c.self.invariant.lengths; levels = c.self.invariant.levels } in
    omega (arith, c.self.invariant.referenced, held_most c.self.inside.settings _ _ _ held, ap standing_most (c.deref-2.ensures.value))

pub fit_in-fitted-requires-clause-size : goal.fit_in-fitted-requires-clause-size
fit_in-fitted-requires-clause-size c =
    let held : IsHeld c.self.inside.settings (zones_with c.self.inside.keys.items (shapes_in c.self.inside.standings.items)) c.self.inside.keys.items c.self.inside.standings.items =
    record { zones_are = refl; lengths = c.self.invariant.lengths; levels = c.self.invariant.levels } in
    c.self.invariant.sized ∙ sym (held_rows c.self.inside.settings _ _ _ c.self.inside.marks held) ∙ ap (standing_rows c.self.inside.marks) (sym (c.deref-3.ensures.value))

pub fit_in-fitted-requires-clause-plain : goal.fit_in-fitted-requires-clause-plain
fit_in-fitted-requires-clause-plain c =
    let told = c.in_ok-plain.ensures.ok in
    told.0 ∙ ap (λ ss. standing_rows [] (joined ss c.in-Ok.at [] (c.in-Ok.at + 1))) (c.deref-2.ensures.value ∙ sym c.deref-3.ensures.value)

pub fit_in-fitted-requires-clause-room : goal.fit_in-fitted-requires-clause-room
fit_in-fitted-requires-clause-room c =
    let told = c.in_ok-plain.ensures.ok in
    within_limit c.self.inside.settings.rows _ c.in_ok-plain.plain told.1
