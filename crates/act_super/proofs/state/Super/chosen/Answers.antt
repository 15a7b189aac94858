use Rattle.std.proofs.Common.{◌∙◌, ap, arith, length, refl}
use Rattle.act_super.specs.Places.{zones_with}
use Rattle.act_super.specs.Standings.{shapes_in, standing_ground}
use Rattle.act_super.specs.States.{Plain}
use Rattle.act_super.specs.Training.{chosen_among, chosen_of}
use Rattle.act_super.proofs.ChosenFacts.{held_chosen}
use Rattle.act_super.proofs.StateFacts.{IsHeld}
use Rattle.act_super.proofs.state.Super.chosen.Goals as goal

pub chosen_in-requires-clause-standings : goal.chosen_in-requires-clause-standings
chosen_in-requires-clause-standings c = omega (arith, c.deref.ensures.len, ap (λ r. length r) c.deref.ensures.value, c.self.invariant.lengths, c.self.invariant.few)

pub returns : goal.returns
unfolding chosen_of
returns c =
    let held : IsHeld c.self.inside.settings (zones_with c.self.inside.keys.items (shapes_in c.self.inside.standings.items)) c.self.inside.keys.items c.self.inside.standings.items =
    record { zones_are = refl; lengths = c.self.invariant.lengths; levels = c.self.invariant.levels } in
    c.from_vec.ensures ∙ c.in_ok-cells.ensures
    ∙ ap (λ ss. chosen_among (standing_ground c.self.inside.marks) ss c.args.sample.now c.args.threshold) c.deref.ensures.value
    ∙ held_chosen c.self.inside.settings _ _ _ c.self.inside.marks c.args.sample.now c.args.threshold held
    ∙ ap (λ (p : Plain). chosen_of p.settings p.state c.args.sample.now c.args.threshold) c.self.view_is
