use Rattle.std.proofs.Common.{◌≡◌, ◌∙◌, ◌+◌, ap, sym, false, refl, [], ◌++◌, take, drop}
use Rattle.std.proofs.lemmas.Result.{IfOk-weaker}
use Rattle.act_super.specs.Places.{zones_with}
use Rattle.act_super.specs.Sizes.{refs_of}
use Rattle.act_super.specs.Standings.{shapes_in}
use Rattle.act_super.specs.States.{Plain, has_key}
use Rattle.act_super.proofs.Keyed.{has_free}
use Rattle.act_super.proofs.RefFacts.{append_nil, keys_without, refs_joined}
use Rattle.act_super.proofs.StateFacts.{IsAt, IsFree, IsHeld, held_dropped, joined}
use Rattle.act_super.proofs.state.Super.refs_dropped.Goals as goal

pub unreachable-requires : goal.unreachable-requires
unreachable-requires c =
    let zones : c.args.self.now.state.zones ≡ zones_with c.self.inside.keys.items (shapes_in c.self.inside.standings.items) = ap (λ (p : Plain). p.state.zones) (sym c.self.view_is) in
    let place : IsFree c.args.key c.self.inside.keys.items c.in_default.field-0 = rw c.deref.ensures.value at c.in_default.ensures in
    let missing : has_key c.args.key c.args.self.now.state.zones ≡ false = rw zones (has_free c.args.key c.self.inside.keys.items (shapes_in c.self.inside.standings.items) _ place.1 place.2) in
    let never = sym missing ∙ c.requires in
    cc

pub returns : goal.returns
returns c =
    let settings : c.args.self.now.settings ≡ c.self.inside.settings = ap (λ (p : Plain). p.settings) (sym c.self.view_is) in
    let zones : c.args.self.now.state.zones ≡ zones_with c.self.inside.keys.items (shapes_in c.self.inside.standings.items) = ap (λ (p : Plain). p.state.zones) (sym c.self.view_is) in
    let place : IsAt c.args.key c.self.inside.keys.items c.in-Ok.at = rw c.deref.ensures.value at c.in-Ok.ensures in
    let held : IsHeld c.self.inside.settings c.args.self.now.state.zones c.self.inside.keys.items c.self.inside.standings.items =
    record { zones_are = zones; lengths = c.self.invariant.lengths; levels = c.self.invariant.levels } in
    let new = held_dropped c.self.inside.settings c.args.self.now.state.zones c.self.inside.keys.items c.self.inside.standings.items held c.self.invariant.rising c.args.key c.in-Ok.at place in
    let there : refs_of (zones_with (take c.in-Ok.at c.deref-2.result.now) (shapes_in (take c.in-Ok.at c.deref-3.result.now))) c.args.cell ++ refs_of (zones_with (drop (c.in-Ok.at + 1) c.deref-2.result.now) (shapes_in (drop (c.in-Ok.at + 1) c.deref-3.result.now))) c.args.cell ≡ refs_of (zones_with (take c.in-Ok.at c.self.inside.keys.items) (shapes_in (take c.in-Ok.at c.self.inside.standings.items))) c.args.cell ++ refs_of (zones_with (drop (c.in-Ok.at + 1) c.self.inside.keys.items) (shapes_in (drop (c.in-Ok.at + 1) c.self.inside.standings.items))) c.args.cell =
    ap (λ ks. refs_of (zones_with (take c.in-Ok.at ks) (shapes_in (take c.in-Ok.at c.deref-3.result.now))) c.args.cell ++ refs_of (zones_with (drop (c.in-Ok.at + 1) ks) (shapes_in (drop (c.in-Ok.at + 1) c.deref-3.result.now))) c.args.cell) c.deref-2.ensures.value ∙ ap (λ ss. refs_of (zones_with (take c.in-Ok.at c.self.inside.keys.items) (shapes_in (take c.in-Ok.at ss))) c.args.cell ++ refs_of (zones_with (drop (c.in-Ok.at + 1) c.self.inside.keys.items) (shapes_in (drop (c.in-Ok.at + 1) ss))) c.args.cell) c.deref-3.ensures.value in
    let none = ap (λ rs. rs ++ refs_of (zones_with (drop (c.in-Ok.at + 1) c.self.inside.keys.items) (shapes_in (drop (c.in-Ok.at + 1) c.self.inside.standings.items))) c.args.cell) (sym (append_nil (refs_of (zones_with (take c.in-Ok.at c.self.inside.keys.items) (shapes_in (take c.in-Ok.at c.self.inside.standings.items))) c.args.cell))) in
    let whole = refs_joined c.self.inside.keys.items c.self.inside.standings.items c.args.cell c.in-Ok.at (c.in-Ok.at + 1) ([]) ([]) c.self.invariant.lengths refl in
    let same = there ∙ none ∙ whole ∙ ap (λ ks. refs_of (zones_with ks (shapes_in (joined c.self.inside.standings.items c.in-Ok.at ([]) (c.in-Ok.at + 1)))) c.args.cell) (keys_without c.self.inside.keys.items c.in-Ok.at) ∙ ap (λ zs. refs_of zs c.args.cell) (sym new.zones_are) in
    IfOk-weaker c.refs_without.result _ _ (λ refs e. e ∙ same) c.refs_without.ensures
