use Rattle.std.proofs.Common.{◌≡◌, ap, sym, subst, arith, false, refl, ◌∙◌}
use Rattle.std.specs.Prelude.{slice_set}
use Rattle.act_grid.specs.declared.Settings.{Settings}
use Rattle.act_cover.specs.Level.{level_of}
use Rattle.act_super.specs.declared.entry.Entry.TheVariants as entry
use Rattle.act_super.specs.Places.{zones_with}
use Rattle.act_super.specs.Standings.{shapes_in}
use Rattle.act_super.specs.States.{IsFor, Plain, after, has_key, reshaped}
use Rattle.act_super.proofs.Keyed.{has_free}
use Rattle.act_super.proofs.StateFacts.{IsAt, IsFree, IsHeld, held_reshaped, joined_set, sound_after, state_after}
use Rattle.act_super.proofs.state.Super.reshape.Goals as goal

pub unreachable-requires : goal.unreachable-requires
unreachable-requires c =
    let zones : c.args.self.now.state.zones ≡ zones_with c.self.inside.keys.items (shapes_in c.self.inside.standings.items) = ap (λ (p : Plain). p.state.zones) (sym c.self.view_is) in
    let place : IsFree c.args.key c.self.inside.keys.items c.in_default.field-0 = rw c.deref.ensures.value at c.in_default.ensures in
    let missing : has_key c.args.key c.args.self.now.state.zones ≡ false = rw zones (has_free c.args.key c.self.inside.keys.items (shapes_in c.self.inside.standings.items) _ place.1 place.2) in
    let turned_away = rw missing at c.requires.prepared.accepted in
    cc

pub invariant_of-self : goal.invariant_of-self
invariant_of-self c =
    let settings : c.args.self.now.settings ≡ c.self.inside.settings = ap (λ (p : Plain). p.settings) (sym c.self.view_is) in
    let zones : c.args.self.now.state.zones ≡ zones_with c.self.inside.keys.items (shapes_in c.self.inside.standings.items) = ap (λ (p : Plain). p.state.zones) (sym c.self.view_is) in
    let place : IsAt c.args.key c.self.inside.keys.items c.in-Ok.at = rw c.deref.ensures.value at c.in-Ok.ensures in
    let held : IsHeld c.self.inside.settings c.args.self.now.state.zones c.self.inside.keys.items c.self.inside.standings.items =
    record { zones_are = zones; lengths = c.self.invariant.lengths; levels = c.self.invariant.levels } in
    let level : c.args.zone.level ≡ level_of c.args.zone.shape c.self.inside.settings.cells = subst (λ (s : Settings). c.args.zone.level ≡ level_of c.args.zone.shape s.cells) settings c.requires.level in
    let prepared : IsFor c.self.inside.settings c.args.self.now.state (record { entry = entry.Replace c.args.key c.args.zone.shape; trained = c.args.marks; size = c.args.size; plain = c.args.plain; cells = c.self.inside.settings.cells }) =
    subst (λ (s : Settings). IsFor s c.args.self.now.state (record { entry = entry.Replace c.args.key c.args.zone.shape; trained = c.args.marks; size = c.args.size; plain = c.args.plain; cells = s.cells })) settings c.requires.prepared in
    let other = held_reshaped c.self.inside.settings c.args.self.now.state.zones c.self.inside.keys.items c.self.inside.standings.items held c.self.invariant.rising c.args.key c.args.zone.shape c.args.zone c.in-Ok.at refl level place in
    let held_now : IsHeld c.self.inside.settings (reshaped c.args.key c.args.zone.shape c.args.self.now.state.zones) c.self.inside.keys.items (slice_set c.self.inside.standings.items c.in-Ok.at c.args.zone) =
    subst (λ ss. IsHeld c.self.inside.settings (reshaped c.args.key c.args.zone.shape c.args.self.now.state.zones) c.self.inside.keys.items ss) (joined_set c.self.inside.standings.items c.in-Ok.at c.args.zone (omega (arith, place.0, c.self.invariant.lengths))) other in
    let rising = c.self.invariant.rising in
    let few = c.self.invariant.few in
    sound_after c.self.inside.settings c.args.self.now.state (record { entry = entry.Replace c.args.key c.args.zone.shape; trained = c.args.marks; size = c.args.size; plain = c.args.plain; cells = c.self.inside.settings.cells }) c.self.inside.keys.items (slice_set c.self.inside.standings.items c.in-Ok.at c.args.zone) held_now prepared refl rising few

pub returns : goal.returns
returns c =
    let settings : c.args.self.now.settings ≡ c.self.inside.settings = ap (λ (p : Plain). p.settings) (sym c.self.view_is) in
    let zones : c.args.self.now.state.zones ≡ zones_with c.self.inside.keys.items (shapes_in c.self.inside.standings.items) = ap (λ (p : Plain). p.state.zones) (sym c.self.view_is) in
    let place : IsAt c.args.key c.self.inside.keys.items c.in-Ok.at = rw c.deref.ensures.value at c.in-Ok.ensures in
    let held : IsHeld c.self.inside.settings c.args.self.now.state.zones c.self.inside.keys.items c.self.inside.standings.items =
    record { zones_are = zones; lengths = c.self.invariant.lengths; levels = c.self.invariant.levels } in
    let prepared : IsFor c.self.inside.settings c.args.self.now.state (record { entry = entry.Replace c.args.key c.args.zone.shape; trained = c.args.marks; size = c.args.size; plain = c.args.plain; cells = c.self.inside.settings.cells }) =
    subst (λ (s : Settings). IsFor s c.args.self.now.state (record { entry = entry.Replace c.args.key c.args.zone.shape; trained = c.args.marks; size = c.args.size; plain = c.args.plain; cells = s.cells })) settings c.requires.prepared in
    let level : c.args.zone.level ≡ level_of c.args.zone.shape c.self.inside.settings.cells = subst (λ (s : Settings). c.args.zone.level ≡ level_of c.args.zone.shape s.cells) settings c.requires.level in
    let other = held_reshaped c.self.inside.settings c.args.self.now.state.zones c.self.inside.keys.items c.self.inside.standings.items held c.self.invariant.rising c.args.key c.args.zone.shape c.args.zone c.in-Ok.at refl level place in
    let held_now : IsHeld c.self.inside.settings (reshaped c.args.key c.args.zone.shape c.args.self.now.state.zones) c.self.inside.keys.items (slice_set c.self.inside.standings.items c.in-Ok.at c.args.zone) =
    subst (λ ss. IsHeld c.self.inside.settings (reshaped c.args.key c.args.zone.shape c.args.self.now.state.zones) c.self.inside.keys.items ss) (joined_set c.self.inside.standings.items c.in-Ok.at c.args.zone (omega (arith, place.0, c.self.invariant.lengths))) other in
    (sym settings, state_after c.self.inside.settings c.args.self.now.state (record { entry = entry.Replace c.args.key c.args.zone.shape; trained = c.args.marks; size = c.args.size; plain = c.args.plain; cells = c.self.inside.settings.cells }) c.self.inside.keys.items (slice_set c.self.inside.standings.items c.in-Ok.at c.args.zone) held_now prepared ∙ ap (λ (s : Settings). after s c.args.self.now.state (entry.Replace c.args.key c.args.zone.shape)) (sym settings))
