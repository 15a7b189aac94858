use Rattle.std.proofs.Common.{◌≡◌, ◌≤◌, ◌∙◌, ap, sym, subst, arith, drop, []}
use Rattle.act_grid.specs.declared.Settings.{Settings}
use Rattle.act_super.specs.declared.entry.Entry.TheVariants as entry
use Rattle.act_super.specs.Packs.{reference_limit}
use Rattle.act_super.specs.Places.{zones_with}
use Rattle.act_super.specs.Sizes.{most_references, rows_with}
use Rattle.act_super.specs.Standings.{shapes_in}
use Rattle.act_super.specs.States.{IsFor, Plain, after}
use Rattle.act_super.proofs.StateFacts.{IsHeld, sound_by, state_after}
use Rattle.act_super.proofs.state.Super.train.Goals as goal

pub invariant_of-self : goal.invariant_of-self
invariant_of-self c =
    let settings : c.args.self.now.settings ≡ c.self.inside.settings = ap (λ (p : Plain). p.settings) (sym c.self.view_is) in
    let zones : c.args.self.now.state.zones ≡ zones_with c.self.inside.keys.items (shapes_in c.self.inside.standings.items) = ap (λ (p : Plain). p.state.zones) (sym c.self.view_is) in
    let held : IsHeld c.self.inside.settings c.args.self.now.state.zones c.self.inside.keys.items c.self.inside.standings.items =
    record { zones_are = zones; lengths = c.self.invariant.lengths; levels = c.self.invariant.levels } in
    let prepared : IsFor c.self.inside.settings c.args.self.now.state (record { entry = entry.Train (drop c.args._from c.args.marks); trained = c.args.marks; size = c.args.size; plain = c.args.plain; cells = c.self.inside.settings.cells }) =
    subst (λ (s : Settings). IsFor s c.args.self.now.state (record { entry = entry.Train (drop c.args._from c.args.marks); trained = c.args.marks; size = c.args.size; plain = c.args.plain; cells = s.cells })) settings c.requires in
    let room : rows_with c.self.inside.settings c.args.self.now.state.zones [] ≤ c.self.inside.settings.rows = omega (arith, ap (λ zs. rows_with c.self.inside.settings zs []) zones, c.self.invariant.plainly, c.self.invariant.plain_fits) in
    let referenced : most_references c.self.inside.settings c.args.self.now.state.zones ≤ reference_limit = omega (arith, ap (most_references c.self.inside.settings) zones, c.self.invariant.referenced) in
    sound_by c.self.inside.settings c.args.self.now.state (record { entry = entry.Train (drop c.args._from c.args.marks); trained = c.args.marks; size = c.args.size; plain = c.args.plain; cells = c.self.inside.settings.cells }) c.self.inside.keys.items c.self.inside.standings.items held prepared room referenced c.self.invariant.rising c.self.invariant.few

pub returns : goal.returns
returns c =
    let settings : c.args.self.now.settings ≡ c.self.inside.settings = ap (λ (p : Plain). p.settings) (sym c.self.view_is) in
    let zones : c.args.self.now.state.zones ≡ zones_with c.self.inside.keys.items (shapes_in c.self.inside.standings.items) = ap (λ (p : Plain). p.state.zones) (sym c.self.view_is) in
    let held : IsHeld c.self.inside.settings c.args.self.now.state.zones c.self.inside.keys.items c.self.inside.standings.items =
    record { zones_are = zones; lengths = c.self.invariant.lengths; levels = c.self.invariant.levels } in
    let prepared : IsFor c.self.inside.settings c.args.self.now.state (record { entry = entry.Train (drop c.args._from c.args.marks); trained = c.args.marks; size = c.args.size; plain = c.args.plain; cells = c.self.inside.settings.cells }) =
    subst (λ (s : Settings). IsFor s c.args.self.now.state (record { entry = entry.Train (drop c.args._from c.args.marks); trained = c.args.marks; size = c.args.size; plain = c.args.plain; cells = s.cells })) settings c.requires in
    (sym settings, state_after c.self.inside.settings c.args.self.now.state (record { entry = entry.Train (drop c.args._from c.args.marks); trained = c.args.marks; size = c.args.size; plain = c.args.plain; cells = c.self.inside.settings.cells }) c.self.inside.keys.items c.self.inside.standings.items held prepared ∙ ap (λ (s : Settings). after s c.args.self.now.state (entry.Train (drop c.args._from c.args.marks))) (sym settings))
