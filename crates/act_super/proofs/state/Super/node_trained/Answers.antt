use Rattle.std.proofs.Common.{◌≡◌, ◌∙◌, ap, arith, length, map, refl, []}
use Rattle.std.proofs.lemmas.Result.{IfOk-weaker}
use Rattle.act_super.specs.Grounds.{zone_ground}
use Rattle.act_super.specs.NodeParts.{leaves_near, splits_near}
use Rattle.act_super.specs.Places.{zones_with}
use Rattle.act_super.specs.Sizes.{refs_of}
use Rattle.act_super.specs.Standings.{shapes_in, standing_ground}
use Rattle.act_super.specs.States.{Plain}
use Rattle.act_super.proofs.LeafFacts.{all_again, joined_all}
use Rattle.act_super.proofs.NodeFacts.{held_leaves, held_splits}
use Rattle.act_super.proofs.StateFacts.{IsHeld, joined}
use Rattle.act_super.proofs.state.Super.node_trained.Goals as goal

pub returns-clause-leaves : goal.returns-clause-leaves
returns-clause-leaves c =
    let held : IsHeld c.self.inside.settings (zones_with c.self.inside.keys.items (shapes_in c.self.inside.standings.items)) c.self.inside.keys.items c.self.inside.standings.items =
    record { zones_are = refl; lengths = c.self.invariant.lengths; levels = c.self.invariant.levels } in
    let last : c.len-last.result ≡ length c.deref-2.result.now = omega (arith, c.len-last.ensures, c.deref-2.ensures.len) in
    let same =
    ap (λ ss. leaves_near (standing_ground c.args.marks.now) 4 ss c.args.cell) (joined_all c.deref-2.result.now c.len-last.result last ∙ c.deref-2.ensures.value)
    ∙ held_leaves c.self.inside.settings _ _ _ c.args.marks.now c.args.cell held
    ∙ ap (λ (p : Plain). leaves_near (zone_ground p.settings c.args.marks.now) 4 p.state.zones c.args.cell) c.self.view_is in
    IfOk-weaker c.node_in.result _ _ (λ node e. e ∙ same) c.node_in.ensures.leaves

pub returns-clause-children : goal.returns-clause-children
returns-clause-children c =
    let held : IsHeld c.self.inside.settings (zones_with c.self.inside.keys.items (shapes_in c.self.inside.standings.items)) c.self.inside.keys.items c.self.inside.standings.items =
    record { zones_are = refl; lengths = c.self.invariant.lengths; levels = c.self.invariant.levels } in
    let last : c.len-last.result ≡ length c.deref-2.result.now = omega (arith, c.len-last.ensures, c.deref-2.ensures.len) in
    let same =
    ap (λ ss. splits_near (standing_ground c.args.marks.now) 4 ss c.args.cell) (joined_all c.deref-2.result.now c.len-last.result last ∙ c.deref-2.ensures.value)
    ∙ held_splits c.self.inside.settings _ _ _ c.args.marks.now c.args.cell held
    ∙ ap (λ (p : Plain). splits_near (zone_ground p.settings c.args.marks.now) 4 p.state.zones c.args.cell) c.self.view_is in
    IfOk-weaker c.node_in.result _ _ (λ node e. e ∙ same) c.node_in.ensures.children

pub returns-clause-refs : goal.returns-clause-refs
returns-clause-refs c =
    let last : c.len-last.result ≡ length c.deref-2.result.now = omega (arith, c.len-last.ensures, c.deref-2.ensures.len) in
    let last_key : c.len-last.result ≡ length c.deref.result.now = omega (arith, c.len-last.ensures, c.deref.ensures.len, c.self.invariant.lengths) in
    let standings = joined_all c.deref-2.result.now c.len-last.result last ∙ c.deref-2.ensures.value in
    let keys = all_again c.deref.result.now c.len-last.result last_key ∙ c.deref.ensures.value in
    IfOk-weaker c.node_in.result _ _
    (λ node e.
    e ∙ ap (λ ks. map (refs_of (zones_with ks (shapes_in (joined c.deref-2.result.now c.len-last.result [] c.len-last.result)))) node.leaves) keys ∙ ap (λ ss. map (refs_of (zones_with c.self.inside.keys.items (shapes_in ss))) node.leaves) standings
    ∙ ap (λ (p : Plain). map (refs_of p.state.zones) node.leaves) c.self.view_is)
    c.node_in.ensures.refs
