use Rattle.std.proofs.Common.{◌≡◌, ap, sym, subst, arith, length, ◌≤◌, true, refl, ◌∙◌}
use Rattle.std.specs.Prelude.{insert}
use Rattle.act_grid.specs.declared.Settings.{Settings}
use Rattle.act_cover.specs.Level.{level_of}
use Rattle.act_super.specs.declared.entry.Entry.TheVariants as entry
use Rattle.act_super.specs.Places.{IsRising, zones_with}
use Rattle.act_super.specs.Standings.{shapes_in}
use Rattle.act_super.specs.States.{IsFor, Plain, after, has_key, with_zone}
use Rattle.act_super.proofs.Keyed.{has_found}
use Rattle.act_super.proofs.Rising.{rising_insert}
use Rattle.act_super.proofs.StateFacts.{IsAt, IsFree, IsHeld, held_added, joined_insert, length_shapes, sound_after, state_after}
use Rattle.act_super.proofs.state.Super.put.Goals as goal

pub unreachable-requires : goal.unreachable-requires
unreachable-requires c =
    let zones : c.args.self.now.state.zones ≡ zones_with c.self.inside.keys.items (shapes_in c.self.inside.standings.items) = ap (λ (p : Plain). p.state.zones) (sym c.self.view_is) in
    let place : IsAt c.args.key c.self.inside.keys.items c.in_default.field-0 = rw c.deref.ensures.value at c.in_default.ensures in
    let lengths = length_shapes c.self.inside.standings.items ∙ c.self.invariant.lengths in
    let found : has_key c.args.key c.args.self.now.state.zones ≡ true = rw zones (has_found c.args.key c.self.inside.keys.items (shapes_in c.self.inside.standings.items) c.in_default.field-0 lengths place.0 place.1) in
    let turned_away = rw found at c.requires.prepared.accepted in
    cc

pub invariant_of-self : goal.invariant_of-self
invariant_of-self c =
    let settings : c.args.self.now.settings ≡ c.self.inside.settings = ap (λ (p : Plain). p.settings) (sym c.self.view_is) in
    let zones : c.args.self.now.state.zones ≡ zones_with c.self.inside.keys.items (shapes_in c.self.inside.standings.items) = ap (λ (p : Plain). p.state.zones) (sym c.self.view_is) in
    let place : IsFree c.args.key c.self.inside.keys.items c.in-Err.at = rw c.deref.ensures.value at c.in-Err.ensures in
    let held : IsHeld c.self.inside.settings c.args.self.now.state.zones c.self.inside.keys.items c.self.inside.standings.items =
    record { zones_are = zones; lengths = c.self.invariant.lengths; levels = c.self.invariant.levels } in
    let level : c.args.zone.level ≡ level_of c.args.zone.shape c.self.inside.settings.cells = subst (λ (s : Settings). c.args.zone.level ≡ level_of c.args.zone.shape s.cells) settings c.requires.level in
    let prepared : IsFor c.self.inside.settings c.args.self.now.state (record { entry = entry.Add c.args.key c.args.zone.shape; trained = c.args.marks; size = c.args.size; plain = c.args.plain; cells = c.self.inside.settings.cells }) =
    subst (λ (s : Settings). IsFor s c.args.self.now.state (record { entry = entry.Add c.args.key c.args.zone.shape; trained = c.args.marks; size = c.args.size; plain = c.args.plain; cells = s.cells })) settings c.requires.prepared in
    let more = held_added c.self.inside.settings c.args.self.now.state.zones c.self.inside.keys.items c.self.inside.standings.items held c.self.invariant.rising c.args.key c.args.zone.shape c.args.zone c.in-Err.at refl level place in
    let held_now : IsHeld c.self.inside.settings (with_zone (record { key = c.args.key; shape = c.args.zone.shape }) c.args.self.now.state.zones) c.insert.new.self.items c.insert-2.new.self.items =
    rw (c.in-Ok.ensures.items, c.in-Ok-insert.ensures.items) (subst (λ ss. IsHeld c.self.inside.settings (with_zone (record { key = c.args.key; shape = c.args.zone.shape }) c.args.self.now.state.zones) (insert c.self.inside.keys.items c.in-Err.at c.args.key) ss) (joined_insert c.self.inside.standings.items c.in-Err.at c.args.zone) more) in
    let rises : IsRising (insert c.self.inside.keys.items c.in-Err.at c.args.key) = rising_insert 0 c.args.key c.self.inside.keys.items c.in-Err.at c.self.invariant.rising (omega arith) place.0 place.1 place.2 in
    let rising : IsRising c.insert.new.self.items = rw c.in-Ok.ensures.items rises in
    let few : length c.insert.new.self.items ≤ 4294967295 = omega (arith, c.in-Ok.ensures.len, c.requires.room, ap (λ (p : Plain). p.spare) c.self.view_is) in
    sound_after c.self.inside.settings c.args.self.now.state (record { entry = entry.Add c.args.key c.args.zone.shape; trained = c.args.marks; size = c.args.size; plain = c.args.plain; cells = c.self.inside.settings.cells }) c.insert.new.self.items c.insert-2.new.self.items held_now prepared refl rising few

pub returns : goal.returns
returns c =
    let settings : c.args.self.now.settings ≡ c.self.inside.settings = ap (λ (p : Plain). p.settings) (sym c.self.view_is) in
    let zones : c.args.self.now.state.zones ≡ zones_with c.self.inside.keys.items (shapes_in c.self.inside.standings.items) = ap (λ (p : Plain). p.state.zones) (sym c.self.view_is) in
    let place : IsFree c.args.key c.self.inside.keys.items c.in-Err.at = rw c.deref.ensures.value at c.in-Err.ensures in
    let held : IsHeld c.self.inside.settings c.args.self.now.state.zones c.self.inside.keys.items c.self.inside.standings.items =
    record { zones_are = zones; lengths = c.self.invariant.lengths; levels = c.self.invariant.levels } in
    let prepared : IsFor c.self.inside.settings c.args.self.now.state (record { entry = entry.Add c.args.key c.args.zone.shape; trained = c.args.marks; size = c.args.size; plain = c.args.plain; cells = c.self.inside.settings.cells }) =
    subst (λ (s : Settings). IsFor s c.args.self.now.state (record { entry = entry.Add c.args.key c.args.zone.shape; trained = c.args.marks; size = c.args.size; plain = c.args.plain; cells = s.cells })) settings c.requires.prepared in
    let level : c.args.zone.level ≡ level_of c.args.zone.shape c.self.inside.settings.cells = subst (λ (s : Settings). c.args.zone.level ≡ level_of c.args.zone.shape s.cells) settings c.requires.level in
    let more = held_added c.self.inside.settings c.args.self.now.state.zones c.self.inside.keys.items c.self.inside.standings.items held c.self.invariant.rising c.args.key c.args.zone.shape c.args.zone c.in-Err.at refl level place in
    let held_now : IsHeld c.self.inside.settings (with_zone (record { key = c.args.key; shape = c.args.zone.shape }) c.args.self.now.state.zones) c.insert.new.self.items c.insert-2.new.self.items =
    rw (c.in-Ok.ensures.items, c.in-Ok-insert.ensures.items) (subst (λ ss. IsHeld c.self.inside.settings (with_zone (record { key = c.args.key; shape = c.args.zone.shape }) c.args.self.now.state.zones) (insert c.self.inside.keys.items c.in-Err.at c.args.key) ss) (joined_insert c.self.inside.standings.items c.in-Err.at c.args.zone) more) in
    (sym settings, state_after c.self.inside.settings c.args.self.now.state (record { entry = entry.Add c.args.key c.args.zone.shape; trained = c.args.marks; size = c.args.size; plain = c.args.plain; cells = c.self.inside.settings.cells }) c.insert.new.self.items c.insert-2.new.self.items held_now prepared ∙ ap (λ (s : Settings). after s c.args.self.now.state (entry.Add c.args.key c.args.zone.shape)) (sym settings))
