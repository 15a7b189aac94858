use Rattle.std.proofs.Common.{◌≡◌, ◌∙◌, ap, sym, subst, true, refl, [], ◌∷◌, ◌++◌, append_assoc, take, drop}
use Rattle.std.proofs.lemmas.Result.{IfOk-weaker}
use Rattle.act_grid.specs.declared.Settings.{Settings}
use Rattle.act_cover.specs.Level.{level_of}
use Rattle.act_super.specs.Places.{zones_with}
use Rattle.act_super.specs.Sizes.{refs_of}
use Rattle.act_super.specs.Standings.{shapes_in}
use Rattle.act_super.specs.States.{Plain, has_key}
use Rattle.act_super.proofs.Keyed.{has_found}
use Rattle.act_super.proofs.RefFacts.{refs_joined}
use Rattle.act_super.proofs.StateFacts.{IsAt, IsFree, IsHeld, held_added, joined, length_shapes}
use Rattle.act_super.proofs.state.Super.refs_added.Goals as goal

pub unreachable-requires : goal.unreachable-requires
unreachable-requires c =
    let zones : c.args.self.now.state.zones ≡ zones_with c.self.inside.keys.items (shapes_in c.self.inside.standings.items) = ap (λ (p : Plain). p.state.zones) (sym c.self.view_is) in
    let place : IsAt c.args.key c.self.inside.keys.items c.in_default.field-0 = rw c.deref.ensures.value at c.in_default.ensures in
    let lengths = length_shapes c.self.inside.standings.items ∙ c.self.invariant.lengths in
    let found : has_key c.args.key c.args.self.now.state.zones ≡ true = rw zones (has_found c.args.key c.self.inside.keys.items (shapes_in c.self.inside.standings.items) c.in_default.field-0 lengths place.0 place.1) in
    let never = sym found ∙ c.requires.free in
    cc

pub returns : goal.returns
returns c =
    let settings : c.args.self.now.settings ≡ c.self.inside.settings = ap (λ (p : Plain). p.settings) (sym c.self.view_is) in
    let zones : c.args.self.now.state.zones ≡ zones_with c.self.inside.keys.items (shapes_in c.self.inside.standings.items) = ap (λ (p : Plain). p.state.zones) (sym c.self.view_is) in
    let place : IsFree c.args.key c.self.inside.keys.items c.in-Err.at = rw c.deref.ensures.value at c.in-Err.ensures in
    let held : IsHeld c.self.inside.settings c.args.self.now.state.zones c.self.inside.keys.items c.self.inside.standings.items =
    record { zones_are = zones; lengths = c.self.invariant.lengths; levels = c.self.invariant.levels } in
    let level : c.args.zone.now.level ≡ level_of c.args.zone.now.shape c.self.inside.settings.cells = subst (λ (s : Settings). c.args.zone.now.level ≡ level_of c.args.zone.now.shape s.cells) settings c.requires.level in
    let new = held_added c.self.inside.settings c.args.self.now.state.zones c.self.inside.keys.items c.self.inside.standings.items held c.self.invariant.rising c.args.key c.args.zone.now.shape c.args.zone.now c.in-Err.at refl level place in
    let there : refs_of (zones_with (take c.in-Err.at c.deref-2.result.now) (shapes_in (take c.in-Err.at c.deref-3.result.now))) c.args.cell ++ refs_of (zones_with (c.args.key ∷ []) (shapes_in (c.args.zone.now ∷ []))) c.args.cell ++ refs_of (zones_with (drop (c.in-Err.at) c.deref-2.result.now) (shapes_in (drop (c.in-Err.at) c.deref-3.result.now))) c.args.cell ≡ refs_of (zones_with (take c.in-Err.at c.self.inside.keys.items) (shapes_in (take c.in-Err.at c.self.inside.standings.items))) c.args.cell ++ refs_of (zones_with (c.args.key ∷ []) (shapes_in (c.args.zone.now ∷ []))) c.args.cell ++ refs_of (zones_with (drop (c.in-Err.at) c.self.inside.keys.items) (shapes_in (drop (c.in-Err.at) c.self.inside.standings.items))) c.args.cell =
    ap (λ ks. refs_of (zones_with (take c.in-Err.at ks) (shapes_in (take c.in-Err.at c.deref-3.result.now))) c.args.cell ++ refs_of (zones_with (c.args.key ∷ []) (shapes_in (c.args.zone.now ∷ []))) c.args.cell ++ refs_of (zones_with (drop (c.in-Err.at) ks) (shapes_in (drop (c.in-Err.at) c.deref-3.result.now))) c.args.cell) c.deref-2.ensures.value ∙ ap (λ ss. refs_of (zones_with (take c.in-Err.at c.self.inside.keys.items) (shapes_in (take c.in-Err.at ss))) c.args.cell ++ refs_of (zones_with (c.args.key ∷ []) (shapes_in (c.args.zone.now ∷ []))) c.args.cell ++ refs_of (zones_with (drop (c.in-Err.at) c.self.inside.keys.items) (shapes_in (drop (c.in-Err.at) ss))) c.args.cell) c.deref-3.ensures.value in
    let whole = refs_joined c.self.inside.keys.items c.self.inside.standings.items c.args.cell c.in-Err.at (c.in-Err.at) (c.args.key ∷ []) (c.args.zone.now ∷ []) c.self.invariant.lengths refl in
    let same = there ∙ whole ∙ ap (λ ks. refs_of (zones_with ks (shapes_in (joined c.self.inside.standings.items c.in-Err.at (c.args.zone.now ∷ []) (c.in-Err.at)))) c.args.cell) (append_assoc (take c.in-Err.at c.self.inside.keys.items) (c.args.key ∷ []) (drop c.in-Err.at c.self.inside.keys.items)) ∙ ap (λ zs. refs_of zs c.args.cell) (sym new.zones_are) in
    IfOk-weaker c.refs_with.result _ _ (λ refs e. e ∙ same) c.refs_with.ensures
