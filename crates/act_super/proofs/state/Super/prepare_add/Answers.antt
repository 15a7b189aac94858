use Rattle.std.proofs.Common.{◌≡◌, ap, sym, arith, true, false, None, inr, refl, ◌∙◌, [], ◌∷◌}
use Rattle.act_cover.specs.Level.{level_of}
use Rattle.act_super.specs.declared.entry.Entry.TheVariants as entry
use Rattle.act_super.specs.Places.{zones_with}
use Rattle.act_super.specs.Standings.{shapes_in, standing_most, standing_rows}
use Rattle.act_super.specs.States.{Plain, has_key, key_verdict, room_of}
use Rattle.act_super.proofs.Keyed.{has_found, has_free}
use Rattle.act_super.proofs.StateFacts.{IsAt, IsFree, IsHeld, held_accepted, held_added, held_most, held_rows, joined, length_shapes, prepared_by, turned, within_limit}
use Rattle.act_super.proofs.state.Super.prepare_add.Goals as goal

pub returns-in_default-clause-err : goal.returns-in_default-clause-err
returns-in_default-clause-err c =
    let zones : c.args.self.now.state.zones ≡ zones_with c.self.inside.keys.items (shapes_in c.self.inside.standings.items) = ap (λ (p : Plain). p.state.zones) (sym c.self.view_is) in
    let place : IsAt c.args.key c.self.inside.keys.items c.in_default.field-0 = rw c.deref.ensures.value at c.in_default.ensures in
    let lengths = length_shapes c.self.inside.standings.items ∙ c.self.invariant.lengths in
    let found : has_key c.args.key c.args.self.now.state.zones ≡ true = rw zones (has_found c.args.key c.self.inside.keys.items (shapes_in c.self.inside.standings.items) c.in_default.field-0 lengths place.0 place.1) in
    (refl, inr (rw found refl))

pub returns-in-Err-room-clause-err : goal.returns-in-Err-room-clause-err
returns-in-Err-room-clause-err c =
    let settings : c.args.self.now.settings ≡ c.self.inside.settings = ap (λ (p : Plain). p.settings) (sym c.self.view_is) in
    let zones : c.args.self.now.state.zones ≡ zones_with c.self.inside.keys.items (shapes_in c.self.inside.standings.items) = ap (λ (p : Plain). p.state.zones) (sym c.self.view_is) in
    let place : IsFree c.args.key c.self.inside.keys.items c.in-Err.at = rw c.deref.ensures.value at c.in-Err.ensures in
    let held : IsHeld c.self.inside.settings c.args.self.now.state.zones c.self.inside.keys.items c.self.inside.standings.items =
    record { zones_are = zones; lengths = c.self.invariant.lengths; levels = c.self.invariant.levels } in
    let missing : has_key c.args.key c.args.self.now.state.zones ≡ false = rw zones (has_free c.args.key c.self.inside.keys.items (shapes_in c.self.inside.standings.items) _ place.1 place.2) in
    let more = held_added c.self.inside.settings c.args.self.now.state.zones c.self.inside.keys.items c.self.inside.standings.items held c.self.invariant.rising c.args.key c.args.shape c.new-zone.result c.in-Err.at c.new-zone.ensures.shape c.new-zone.ensures.level place in
    let free : key_verdict c.args.self.now.state.zones (entry.Add c.args.key c.args.shape) ≡ None = rw missing refl in
    let here = ap (λ ss. joined ss c.in-Err.at (c.new-zone.result ∷ []) c.in-Err.at) (c.deref-2.ensures.value ∙ c.in-Ok-reserve.ensures.items) in
    (c.new-zone.ensures.shape, rw settings (turned c.self.inside.settings _ _ _ (joined c.deref-2.result.now c.in-Err.at (c.new-zone.result ∷ []) c.in-Err.at) _ c.in-Err-room.why more here free c.in-Err-room.ensures.err))

pub returns-clause-ok : goal.returns-clause-ok
returns-clause-ok c =
    let settings : c.args.self.now.settings ≡ c.self.inside.settings = ap (λ (p : Plain). p.settings) (sym c.self.view_is) in
    let zones : c.args.self.now.state.zones ≡ zones_with c.self.inside.keys.items (shapes_in c.self.inside.standings.items) = ap (λ (p : Plain). p.state.zones) (sym c.self.view_is) in
    let trained : c.self.inside.marks ≡ c.args.self.now.state.trained = ap (λ (p : Plain). p.state.trained) c.self.view_is in
    let place : IsFree c.args.key c.self.inside.keys.items c.in-Err.at = rw c.deref.ensures.value at c.in-Err.ensures in
    let held : IsHeld c.self.inside.settings c.args.self.now.state.zones c.self.inside.keys.items c.self.inside.standings.items =
    record { zones_are = zones; lengths = c.self.invariant.lengths; levels = c.self.invariant.levels } in
    let missing : has_key c.args.key c.args.self.now.state.zones ≡ false = rw zones (has_free c.args.key c.self.inside.keys.items (shapes_in c.self.inside.standings.items) _ place.1 place.2) in
    let more = held_added c.self.inside.settings c.args.self.now.state.zones c.self.inside.keys.items c.self.inside.standings.items held c.self.invariant.rising c.args.key c.new-zone.result.shape c.new-zone.result c.in-Err.at refl (c.new-zone.ensures.level ∙ ap (λ r. level_of r c.self.inside.settings.cells) (sym c.new-zone.ensures.shape)) place in
    let free : key_verdict c.args.self.now.state.zones (entry.Add c.args.key c.new-zone.result.shape) ≡ None = rw missing refl in
    let here = ap (λ ss. joined ss c.in-Err.at (c.new-zone.result ∷ []) c.in-Err.at) (c.deref-2.ensures.value ∙ c.in-Ok-reserve.ensures.items) in
    let now = ap (λ ss. joined ss c.in-Err.at (c.new-zone.result ∷ []) c.in-Err.at) (c.deref-3.ensures.value ∙ c.in-Ok-reserve.ensures.items) in
    let told = c.in-Ok-room.ensures.ok in
    let size = told.0 ∙ ap (standing_rows []) here in
    let fits = ap (λ ss. room_of c.self.inside.settings.rows (standing_most ss) c.in-Ok-room.plain) (sym here) ∙ told.1 in
    let room = held_accepted c.self.inside.settings _ _ _ c.in-Ok-room.plain more size fits in (
      ap (λ r. entry.Add c.args.key r) c.new-zone.ensures.shape,
      rw settings (prepared_by c.self.inside.settings c.args.self.now.state (entry.Add c.args.key c.new-zone.result.shape) _ _ (joined c.deref-3.result.now c.in-Err.at (c.new-zone.result ∷ []) c.in-Err.at) c.self.inside.marks c.in-Ok-fitted.fitted.marks c.in-Ok-fitted.fitted.rows c.in-Ok-room.plain
          more refl refl free room now trained c.in-Ok-fitted.ensures.fit c.in-Ok-fitted.ensures.rows (size ∙ held_rows c.self.inside.settings _ _ _ [] more)),
      omega (arith, c.in-Ok.ensures.ok, c.in-Ok-reserve.ensures.ok, c.reserve.ensures.len, c.self.invariant.lengths),
    )

pub room_in-room-requires-clause-plain : goal.room_in-room-requires-clause-plain
room_in-room-requires-clause-plain c =
    let held : IsHeld c.self.inside.settings (zones_with c.self.inside.keys.items (shapes_in c.self.inside.standings.items)) c.self.inside.keys.items c.self.inside.standings.items =
    record { zones_are = refl; lengths = c.self.invariant.lengths; levels = c.self.invariant.levels } in
    c.self.invariant.plainly ∙ sym (held_rows c.self.inside.settings _ _ _ [] held) ∙ ap (standing_rows []) (sym (c.deref-2.ensures.value ∙ c.in-Ok-reserve.ensures.items))

pub room_in-room-requires-clause-most : goal.room_in-room-requires-clause-most
room_in-room-requires-clause-most c =
    let held : IsHeld c.self.inside.settings (zones_with c.self.inside.keys.items (shapes_in c.self.inside.standings.items)) c.self.inside.keys.items c.self.inside.standings.items =
    record { zones_are = refl; lengths = c.self.invariant.lengths; levels = c.self.invariant.levels } in
    omega (arith, c.self.invariant.referenced, held_most c.self.inside.settings _ _ _ held, ap standing_most (c.deref-2.ensures.value ∙ c.in-Ok-reserve.ensures.items))

pub fit_in-fitted-requires-clause-size : goal.fit_in-fitted-requires-clause-size
fit_in-fitted-requires-clause-size c =
    let held : IsHeld c.self.inside.settings (zones_with c.self.inside.keys.items (shapes_in c.self.inside.standings.items)) c.self.inside.keys.items c.self.inside.standings.items =
    record { zones_are = refl; lengths = c.self.invariant.lengths; levels = c.self.invariant.levels } in
    c.self.invariant.sized ∙ sym (held_rows c.self.inside.settings _ _ _ c.self.inside.marks held) ∙ ap (standing_rows c.self.inside.marks) (sym (c.deref-3.ensures.value ∙ c.in-Ok-reserve.ensures.items))

pub fit_in-fitted-requires-clause-plain : goal.fit_in-fitted-requires-clause-plain
fit_in-fitted-requires-clause-plain c =
    let told = c.in-Ok-room.ensures.ok in
    told.0 ∙ ap (λ ss. standing_rows [] (joined ss c.in-Err.at (c.new-zone.result ∷ []) c.in-Err.at)) (c.deref-2.ensures.value ∙ sym c.deref-3.ensures.value)

pub fit_in-fitted-requires-clause-room : goal.fit_in-fitted-requires-clause-room
fit_in-fitted-requires-clause-room c =
    let told = c.in-Ok-room.ensures.ok in
    within_limit c.self.inside.settings.rows _ c.in-Ok-room.plain told.1
