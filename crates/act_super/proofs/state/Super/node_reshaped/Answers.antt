use Rattle.std.proofs.Common.{◌≡◌, ◌∙◌, ◌+◌, ap, sym, subst, false, refl, [], ◌∷◌, map}
use Rattle.act_grid.specs.declared.Settings.{Settings}
use Rattle.act_cover.specs.Level.{level_of}
use Rattle.act_super.specs.Grounds.{zone_ground}
use Rattle.std.proofs.lemmas.Result.{IfOk-weaker}
use Rattle.act_super.specs.NodeParts.{leaves_near, splits_near}
use Rattle.act_super.specs.Places.{zones_with}
use Rattle.act_super.specs.Sizes.{refs_of}
use Rattle.act_super.specs.Standings.{shapes_in, standing_ground}
use Rattle.act_super.specs.States.{Plain, has_key, reshaped}
use Rattle.act_super.proofs.Keyed.{has_free}
use Rattle.act_super.proofs.NodeFacts.{held_leaves, held_splits}
use Rattle.act_super.proofs.RefFacts.{key_again}
use Rattle.act_super.proofs.StateFacts.{IsAt, IsFree, IsHeld, held_reshaped, joined}
use Rattle.act_super.proofs.state.Super.node_reshaped.Goals as goal

pub unreachable-requires : goal.unreachable-requires
unreachable-requires c =
    let zones : c.args.self.now.state.zones ≡ zones_with c.self.inside.keys.items (shapes_in c.self.inside.standings.items) = ap (λ (p : Plain). p.state.zones) (sym c.self.view_is) in
    let place : IsFree c.args.key c.self.inside.keys.items c.in_default.field-0 = rw c.deref.ensures.value at c.in_default.ensures in
    let missing : has_key c.args.key c.args.self.now.state.zones ≡ false = rw zones (has_free c.args.key c.self.inside.keys.items (shapes_in c.self.inside.standings.items) _ place.1 place.2) in
    let never = sym missing ∙ c.requires.stands in
    cc

pub returns-clause-leaves : goal.returns-clause-leaves
returns-clause-leaves c =
    let settings : c.args.self.now.settings ≡ c.self.inside.settings = ap (λ (p : Plain). p.settings) (sym c.self.view_is) in
    let zones : c.args.self.now.state.zones ≡ zones_with c.self.inside.keys.items (shapes_in c.self.inside.standings.items) = ap (λ (p : Plain). p.state.zones) (sym c.self.view_is) in
    let place : IsAt c.args.key c.self.inside.keys.items c.in-Ok.at = rw c.deref.ensures.value at c.in-Ok.ensures in
    let held : IsHeld c.self.inside.settings c.args.self.now.state.zones c.self.inside.keys.items c.self.inside.standings.items =
    record { zones_are = zones; lengths = c.self.invariant.lengths; levels = c.self.invariant.levels } in
    let level : c.args.zone.now.level ≡ level_of c.args.zone.now.shape c.self.inside.settings.cells = subst (λ (s : Settings). c.args.zone.now.level ≡ level_of c.args.zone.now.shape s.cells) settings c.requires.level in
    let new = held_reshaped c.self.inside.settings c.args.self.now.state.zones c.self.inside.keys.items c.self.inside.standings.items held c.self.invariant.rising c.args.key c.args.zone.now.shape c.args.zone.now c.in-Ok.at refl level place in
    let same =
    ap (λ ss. leaves_near (standing_ground c.args.marks.now) 4 (joined ss c.in-Ok.at (c.args.zone.now ∷ []) (c.in-Ok.at + 1)) c.args.cell) c.deref-3.ensures.value
    ∙ held_leaves c.self.inside.settings _ _ _ c.args.marks.now c.args.cell new
    ∙ ap (λ (s : Settings). leaves_near (zone_ground s c.args.marks.now) 4 (reshaped c.args.key c.args.zone.now.shape c.args.self.now.state.zones) c.args.cell) (sym settings) in
    IfOk-weaker c.node_in.result _ _ (λ node e. e ∙ same) c.node_in.ensures.leaves

pub returns-clause-children : goal.returns-clause-children
returns-clause-children c =
    let settings : c.args.self.now.settings ≡ c.self.inside.settings = ap (λ (p : Plain). p.settings) (sym c.self.view_is) in
    let zones : c.args.self.now.state.zones ≡ zones_with c.self.inside.keys.items (shapes_in c.self.inside.standings.items) = ap (λ (p : Plain). p.state.zones) (sym c.self.view_is) in
    let place : IsAt c.args.key c.self.inside.keys.items c.in-Ok.at = rw c.deref.ensures.value at c.in-Ok.ensures in
    let held : IsHeld c.self.inside.settings c.args.self.now.state.zones c.self.inside.keys.items c.self.inside.standings.items =
    record { zones_are = zones; lengths = c.self.invariant.lengths; levels = c.self.invariant.levels } in
    let level : c.args.zone.now.level ≡ level_of c.args.zone.now.shape c.self.inside.settings.cells = subst (λ (s : Settings). c.args.zone.now.level ≡ level_of c.args.zone.now.shape s.cells) settings c.requires.level in
    let new = held_reshaped c.self.inside.settings c.args.self.now.state.zones c.self.inside.keys.items c.self.inside.standings.items held c.self.invariant.rising c.args.key c.args.zone.now.shape c.args.zone.now c.in-Ok.at refl level place in
    let same =
    ap (λ ss. splits_near (standing_ground c.args.marks.now) 4 (joined ss c.in-Ok.at (c.args.zone.now ∷ []) (c.in-Ok.at + 1)) c.args.cell) c.deref-3.ensures.value
    ∙ held_splits c.self.inside.settings _ _ _ c.args.marks.now c.args.cell new
    ∙ ap (λ (s : Settings). splits_near (zone_ground s c.args.marks.now) 4 (reshaped c.args.key c.args.zone.now.shape c.args.self.now.state.zones) c.args.cell) (sym settings) in
    IfOk-weaker c.node_in.result _ _ (λ node e. e ∙ same) c.node_in.ensures.children

pub returns-clause-refs : goal.returns-clause-refs
returns-clause-refs c =
    let settings : c.args.self.now.settings ≡ c.self.inside.settings = ap (λ (p : Plain). p.settings) (sym c.self.view_is) in
    let zones : c.args.self.now.state.zones ≡ zones_with c.self.inside.keys.items (shapes_in c.self.inside.standings.items) = ap (λ (p : Plain). p.state.zones) (sym c.self.view_is) in
    let place : IsAt c.args.key c.self.inside.keys.items c.in-Ok.at = rw c.deref.ensures.value at c.in-Ok.ensures in
    let held : IsHeld c.self.inside.settings c.args.self.now.state.zones c.self.inside.keys.items c.self.inside.standings.items =
    record { zones_are = zones; lengths = c.self.invariant.lengths; levels = c.self.invariant.levels } in
    let level : c.args.zone.now.level ≡ level_of c.args.zone.now.shape c.self.inside.settings.cells = subst (λ (s : Settings). c.args.zone.now.level ≡ level_of c.args.zone.now.shape s.cells) settings c.requires.level in
    let new = held_reshaped c.self.inside.settings c.args.self.now.state.zones c.self.inside.keys.items c.self.inside.standings.items held c.self.invariant.rising c.args.key c.args.zone.now.shape c.args.zone.now c.in-Ok.at refl level place in
    let there =
    ap (λ ks. zones_with ks (shapes_in (joined c.self.inside.standings.items c.in-Ok.at (c.args.zone.now ∷ []) (c.in-Ok.at + 1)))) (key_again c.args.key c.self.inside.keys.items c.in-Ok.at place)
    ∙ sym new.zones_are in
    let refs = rw (c.deref-2.ensures.value, c.deref-3.ensures.value) at c.node_in.ensures.refs in
    IfOk-weaker c.node_in.result _ _ (λ node e. e ∙ ap (λ zs. map (refs_of zs) node.leaves) there) refs
