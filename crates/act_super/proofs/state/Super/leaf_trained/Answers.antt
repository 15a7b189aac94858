use Rattle.std.proofs.Common.{◌≡◌, ◌∙◌, ap, arith, length, refl}
use Rattle.act_super.specs.Grounds.{leaf_at, zone_ground}
use Rattle.act_super.specs.Places.{zones_with}
use Rattle.act_super.specs.Standings.{shapes_in, standing_ground}
use Rattle.act_super.specs.States.{Plain}
use Rattle.act_super.proofs.LeafFacts.{held_leaf, joined_all}
use Rattle.act_super.proofs.StateFacts.{IsHeld}
use Rattle.act_super.proofs.state.Super.leaf_trained.Goals as goal

pub returns : goal.returns
returns c =
    let held : IsHeld c.self.inside.settings (zones_with c.self.inside.keys.items (shapes_in c.self.inside.standings.items)) c.self.inside.keys.items c.self.inside.standings.items =
    record { zones_are = refl; lengths = c.self.invariant.lengths; levels = c.self.invariant.levels } in
    let g = standing_ground c.args.marks.now in
    let last : c.len-last.result ≡ length c.deref.result.now = omega (arith, c.len-last.ensures, c.deref.ensures.len) in
    c.leaf_in.ensures
    ∙ ap (λ ss. leaf_at g ss c.args.p) (joined_all c.deref.result.now c.len-last.result last ∙ c.deref.ensures.value)
    ∙ held_leaf c.self.inside.settings _ _ _ c.args.marks.now c.args.p held
    ∙ ap (λ (p : Plain). leaf_at (zone_ground p.settings c.args.marks.now) p.state.zones c.args.p) c.self.view_is
