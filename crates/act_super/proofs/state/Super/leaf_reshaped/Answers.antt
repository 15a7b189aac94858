use Rattle.std.proofs.Common.{◌≡◌, ◌∙◌, ◌+◌, ap, sym, subst, false, refl, [], ◌∷◌}
use Rattle.act_grid.specs.declared.Settings.{Settings}
use Rattle.act_cover.specs.Level.{level_of}
use Rattle.act_super.specs.Grounds.{leaf_at, zone_ground}
use Rattle.act_super.specs.Places.{zones_with}
use Rattle.act_super.specs.Standings.{shapes_in, standing_ground}
use Rattle.act_super.specs.States.{Plain, has_key, reshaped}
use Rattle.act_super.proofs.Keyed.{has_free}
use Rattle.act_super.proofs.LeafFacts.{held_leaf}
use Rattle.act_super.proofs.StateFacts.{IsAt, IsFree, IsHeld, held_reshaped, joined}
use Rattle.act_super.proofs.state.Super.leaf_reshaped.Goals as goal

pub unreachable-requires : goal.unreachable-requires
unreachable-requires c =
    let zones : c.args.self.now.state.zones ≡ zones_with c.self.inside.keys.items (shapes_in c.self.inside.standings.items) = ap (λ (p : Plain). p.state.zones) (sym c.self.view_is) in
    let place : IsFree c.args.key c.self.inside.keys.items c.in_default.field-0 = rw c.deref.ensures.value at c.in_default.ensures in
    let missing : has_key c.args.key c.args.self.now.state.zones ≡ false = rw zones (has_free c.args.key c.self.inside.keys.items (shapes_in c.self.inside.standings.items) _ place.1 place.2) in
    let never = sym missing ∙ c.requires.stands in
    cc

pub returns : goal.returns
returns c =
    let settings : c.args.self.now.settings ≡ c.self.inside.settings = ap (λ (p : Plain). p.settings) (sym c.self.view_is) in
    let zones : c.args.self.now.state.zones ≡ zones_with c.self.inside.keys.items (shapes_in c.self.inside.standings.items) = ap (λ (p : Plain). p.state.zones) (sym c.self.view_is) in
    let place : IsAt c.args.key c.self.inside.keys.items c.in-Ok.at = rw c.deref.ensures.value at c.in-Ok.ensures in
    let held : IsHeld c.self.inside.settings c.args.self.now.state.zones c.self.inside.keys.items c.self.inside.standings.items =
    record { zones_are = zones; lengths = c.self.invariant.lengths; levels = c.self.invariant.levels } in
    let level : c.args.zone.now.level ≡ level_of c.args.zone.now.shape c.self.inside.settings.cells = subst (λ (s : Settings). c.args.zone.now.level ≡ level_of c.args.zone.now.shape s.cells) settings c.requires.level in
    let new = held_reshaped c.self.inside.settings c.args.self.now.state.zones c.self.inside.keys.items c.self.inside.standings.items held c.self.invariant.rising c.args.key c.args.zone.now.shape c.args.zone.now c.in-Ok.at refl level place in
    c.leaf_in.ensures
    ∙ ap (λ ss. leaf_at (standing_ground c.args.marks.now) (joined ss c.in-Ok.at (c.args.zone.now ∷ []) (c.in-Ok.at + 1)) c.args.p) c.deref-2.ensures.value
    ∙ held_leaf c.self.inside.settings _ _ _ c.args.marks.now c.args.p new
    ∙ ap (λ (s : Settings). leaf_at (zone_ground s c.args.marks.now) (reshaped c.args.key c.args.zone.now.shape c.args.self.now.state.zones) c.args.p) (sym settings)
