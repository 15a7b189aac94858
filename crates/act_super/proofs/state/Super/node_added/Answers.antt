use Rattle.std.proofs.Common.{◌≡◌, ◌∙◌, ap, sym, subst, true, refl, [], ◌∷◌, append_assoc, drop, map, take}
use Rattle.act_grid.specs.declared.Settings.{Settings}
use Rattle.act_cover.specs.Level.{level_of}
use Rattle.act_super.specs.Grounds.{zone_ground}
use Rattle.std.proofs.lemmas.Result.{IfOk-weaker}
use Rattle.act_super.specs.NodeParts.{leaves_near, splits_near}
use Rattle.act_super.specs.Places.{zones_with}
use Rattle.act_super.specs.Sizes.{refs_of}
use Rattle.act_super.specs.Standings.{shapes_in, standing_ground}
use Rattle.act_super.specs.States.{Plain, has_key, with_zone}
use Rattle.act_super.proofs.Keyed.{has_found}
use Rattle.act_super.proofs.NodeFacts.{held_leaves, held_splits}
use Rattle.act_super.proofs.StateFacts.{IsAt, IsFree, IsHeld, held_added, joined, length_shapes}
use Rattle.act_super.proofs.state.Super.node_added.Goals as goal

pub unreachable-requires : goal.unreachable-requires
unreachable-requires c =
    let zones : c.args.self.now.state.zones ≡ zones_with c.self.inside.keys.items (shapes_in c.self.inside.standings.items) = ap (λ (p : Plain). p.state.zones) (sym c.self.view_is) in
    let place : IsAt c.args.key c.self.inside.keys.items c.in_default.field-0 = rw c.deref.ensures.value at c.in_default.ensures in
    let lengths = length_shapes c.self.inside.standings.items ∙ c.self.invariant.lengths in
    let found : has_key c.args.key c.args.self.now.state.zones ≡ true = rw zones (has_found c.args.key c.self.inside.keys.items (shapes_in c.self.inside.standings.items) c.in_default.field-0 lengths place.0 place.1) in
    let never = sym found ∙ c.requires.free in
    cc

pub returns-clause-leaves : goal.returns-clause-leaves
returns-clause-leaves c =
    let settings : c.args.self.now.settings ≡ c.self.inside.settings = ap (λ (p : Plain). p.settings) (sym c.self.view_is) in
    let zones : c.args.self.now.state.zones ≡ zones_with c.self.inside.keys.items (shapes_in c.self.inside.standings.items) = ap (λ (p : Plain). p.state.zones) (sym c.self.view_is) in
    let place : IsFree c.args.key c.self.inside.keys.items c.in-Err.at = rw c.deref.ensures.value at c.in-Err.ensures in
    let held : IsHeld c.self.inside.settings c.args.self.now.state.zones c.self.inside.keys.items c.self.inside.standings.items =
    record { zones_are = zones; lengths = c.self.invariant.lengths; levels = c.self.invariant.levels } in
    let level : c.args.zone.now.level ≡ level_of c.args.zone.now.shape c.self.inside.settings.cells = subst (λ (s : Settings). c.args.zone.now.level ≡ level_of c.args.zone.now.shape s.cells) settings c.requires.level in
    let new = held_added c.self.inside.settings c.args.self.now.state.zones c.self.inside.keys.items c.self.inside.standings.items held c.self.invariant.rising c.args.key c.args.zone.now.shape c.args.zone.now c.in-Err.at refl level place in
    let same =
    ap (λ ss. leaves_near (standing_ground c.args.marks.now) 4 (joined ss c.in-Err.at (c.args.zone.now ∷ []) c.in-Err.at) c.args.cell) c.deref-3.ensures.value
    ∙ held_leaves c.self.inside.settings _ _ _ c.args.marks.now c.args.cell new
    ∙ ap (λ (s : Settings). leaves_near (zone_ground s c.args.marks.now) 4 (with_zone (record { key = c.args.key; shape = c.args.zone.now.shape }) c.args.self.now.state.zones) c.args.cell) (sym settings) in
    IfOk-weaker c.node_in.result _ _ (λ node e. e ∙ same) c.node_in.ensures.leaves

pub returns-clause-children : goal.returns-clause-children
returns-clause-children c =
    let settings : c.args.self.now.settings ≡ c.self.inside.settings = ap (λ (p : Plain). p.settings) (sym c.self.view_is) in
    let zones : c.args.self.now.state.zones ≡ zones_with c.self.inside.keys.items (shapes_in c.self.inside.standings.items) = ap (λ (p : Plain). p.state.zones) (sym c.self.view_is) in
    let place : IsFree c.args.key c.self.inside.keys.items c.in-Err.at = rw c.deref.ensures.value at c.in-Err.ensures in
    let held : IsHeld c.self.inside.settings c.args.self.now.state.zones c.self.inside.keys.items c.self.inside.standings.items =
    record { zones_are = zones; lengths = c.self.invariant.lengths; levels = c.self.invariant.levels } in
    let level : c.args.zone.now.level ≡ level_of c.args.zone.now.shape c.self.inside.settings.cells = subst (λ (s : Settings). c.args.zone.now.level ≡ level_of c.args.zone.now.shape s.cells) settings c.requires.level in
    let new = held_added c.self.inside.settings c.args.self.now.state.zones c.self.inside.keys.items c.self.inside.standings.items held c.self.invariant.rising c.args.key c.args.zone.now.shape c.args.zone.now c.in-Err.at refl level place in
    let same =
    ap (λ ss. splits_near (standing_ground c.args.marks.now) 4 (joined ss c.in-Err.at (c.args.zone.now ∷ []) c.in-Err.at) c.args.cell) c.deref-3.ensures.value
    ∙ held_splits c.self.inside.settings _ _ _ c.args.marks.now c.args.cell new
    ∙ ap (λ (s : Settings). splits_near (zone_ground s c.args.marks.now) 4 (with_zone (record { key = c.args.key; shape = c.args.zone.now.shape }) c.args.self.now.state.zones) c.args.cell) (sym settings) in
    IfOk-weaker c.node_in.result _ _ (λ node e. e ∙ same) c.node_in.ensures.children

pub returns-clause-refs : goal.returns-clause-refs
returns-clause-refs c =
    let settings : c.args.self.now.settings ≡ c.self.inside.settings = ap (λ (p : Plain). p.settings) (sym c.self.view_is) in
    let zones : c.args.self.now.state.zones ≡ zones_with c.self.inside.keys.items (shapes_in c.self.inside.standings.items) = ap (λ (p : Plain). p.state.zones) (sym c.self.view_is) in
    let place : IsFree c.args.key c.self.inside.keys.items c.in-Err.at = rw c.deref.ensures.value at c.in-Err.ensures in
    let held : IsHeld c.self.inside.settings c.args.self.now.state.zones c.self.inside.keys.items c.self.inside.standings.items =
    record { zones_are = zones; lengths = c.self.invariant.lengths; levels = c.self.invariant.levels } in
    let level : c.args.zone.now.level ≡ level_of c.args.zone.now.shape c.self.inside.settings.cells = subst (λ (s : Settings). c.args.zone.now.level ≡ level_of c.args.zone.now.shape s.cells) settings c.requires.level in
    let new = held_added c.self.inside.settings c.args.self.now.state.zones c.self.inside.keys.items c.self.inside.standings.items held c.self.invariant.rising c.args.key c.args.zone.now.shape c.args.zone.now c.in-Err.at refl level place in
    let there =
    ap (λ ks. zones_with ks (shapes_in (joined c.self.inside.standings.items c.in-Err.at (c.args.zone.now ∷ []) c.in-Err.at))) (append_assoc (take c.in-Err.at c.self.inside.keys.items) (c.args.key ∷ []) (drop c.in-Err.at c.self.inside.keys.items))
    ∙ sym new.zones_are in
    let refs = rw (c.deref-2.ensures.value, c.deref-3.ensures.value) at c.node_in.ensures.refs in
    IfOk-weaker c.node_in.result _ _ (λ node e. e ∙ ap (λ zs. map (refs_of zs) node.leaves) there) refs
