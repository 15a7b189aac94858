use Rattle.std.proofs.Common.{◌≡◌, ap, sym, subst, arith, length, ◌≤◌, false, refl, ◌∙◌}
use Rattle.std.specs.Prelude.{remove}
use Rattle.act_grid.specs.declared.Settings.{Settings}
use Rattle.act_super.specs.declared.entry.Entry.TheVariants as entry
use Rattle.act_super.specs.Places.{IsRising, zones_with}
use Rattle.act_super.specs.Standings.{shapes_in}
use Rattle.act_super.specs.States.{IsFor, Plain, after, has_key, without_key}
use Rattle.act_super.proofs.Keyed.{has_free}
use Rattle.act_super.proofs.Rising.{rising_remove}
use Rattle.act_super.proofs.StateFacts.{IsAt, IsFree, IsHeld, held_dropped, joined_remove, sound_after, state_after}
use Rattle.act_super.proofs.state.Super.remove.Goals as goal

pub unreachable-requires : goal.unreachable-requires
unreachable-requires c =
    let zones : c.args.self.now.state.zones ≡ zones_with c.self.inside.keys.items (shapes_in c.self.inside.standings.items) = ap (λ (p : Plain). p.state.zones) (sym c.self.view_is) in
    let place : IsFree c.args.key c.self.inside.keys.items c.in_default.field-0 = rw c.deref.ensures.value at c.in_default.ensures in
    let missing : has_key c.args.key c.args.self.now.state.zones ≡ false = rw zones (has_free c.args.key c.self.inside.keys.items (shapes_in c.self.inside.standings.items) _ place.1 place.2) in
    let turned_away = rw missing at c.requires.accepted in
    cc

pub invariant_of-self : goal.invariant_of-self
invariant_of-self c =
    let settings : c.args.self.now.settings ≡ c.self.inside.settings = ap (λ (p : Plain). p.settings) (sym c.self.view_is) in
    let zones : c.args.self.now.state.zones ≡ zones_with c.self.inside.keys.items (shapes_in c.self.inside.standings.items) = ap (λ (p : Plain). p.state.zones) (sym c.self.view_is) in
    let place : IsAt c.args.key c.self.inside.keys.items c.in-Ok.at = rw c.deref.ensures.value at c.in-Ok.ensures in
    let held : IsHeld c.self.inside.settings c.args.self.now.state.zones c.self.inside.keys.items c.self.inside.standings.items =
    record { zones_are = zones; lengths = c.self.invariant.lengths; levels = c.self.invariant.levels } in
    let prepared : IsFor c.self.inside.settings c.args.self.now.state (record { entry = entry.DropZone c.args.key; trained = c.args.marks; size = c.args.size; plain = c.args.plain; cells = c.self.inside.settings.cells }) =
    subst (λ (s : Settings). IsFor s c.args.self.now.state (record { entry = entry.DropZone c.args.key; trained = c.args.marks; size = c.args.size; plain = c.args.plain; cells = s.cells })) settings c.requires in
    let less = held_dropped c.self.inside.settings c.args.self.now.state.zones c.self.inside.keys.items c.self.inside.standings.items held c.self.invariant.rising c.args.key c.in-Ok.at place in
    let held_now : IsHeld c.self.inside.settings (without_key c.args.key c.args.self.now.state.zones) c.remove.new.self.items c.remove-2.new.self.items =
    rw (c.remove.ensures.items, c.remove-2.ensures.items) (subst (λ ss. IsHeld c.self.inside.settings (without_key c.args.key c.args.self.now.state.zones) (remove c.self.inside.keys.items c.in-Ok.at) ss) (joined_remove c.self.inside.standings.items c.in-Ok.at) less) in
    let rises : IsRising (remove c.self.inside.keys.items c.in-Ok.at) = rising_remove 0 c.self.inside.keys.items c.in-Ok.at c.self.invariant.rising place.0 in
    let rising : IsRising c.remove.new.self.items = rw c.remove.ensures.items rises in
    let few : length c.remove.new.self.items ≤ 4294967295 = omega (arith, c.remove.ensures.len, c.self.invariant.few) in
    sound_after c.self.inside.settings c.args.self.now.state (record { entry = entry.DropZone c.args.key; trained = c.args.marks; size = c.args.size; plain = c.args.plain; cells = c.self.inside.settings.cells }) c.remove.new.self.items c.remove-2.new.self.items held_now prepared refl rising few

pub returns : goal.returns
returns c =
    let settings : c.args.self.now.settings ≡ c.self.inside.settings = ap (λ (p : Plain). p.settings) (sym c.self.view_is) in
    let zones : c.args.self.now.state.zones ≡ zones_with c.self.inside.keys.items (shapes_in c.self.inside.standings.items) = ap (λ (p : Plain). p.state.zones) (sym c.self.view_is) in
    let place : IsAt c.args.key c.self.inside.keys.items c.in-Ok.at = rw c.deref.ensures.value at c.in-Ok.ensures in
    let prepared : IsFor c.self.inside.settings c.args.self.now.state (record { entry = entry.DropZone c.args.key; trained = c.args.marks; size = c.args.size; plain = c.args.plain; cells = c.self.inside.settings.cells }) =
    subst (λ (s : Settings). IsFor s c.args.self.now.state (record { entry = entry.DropZone c.args.key; trained = c.args.marks; size = c.args.size; plain = c.args.plain; cells = s.cells })) settings c.requires in
    let held : IsHeld c.self.inside.settings c.args.self.now.state.zones c.self.inside.keys.items c.self.inside.standings.items =
    record { zones_are = zones; lengths = c.self.invariant.lengths; levels = c.self.invariant.levels } in
    let less = held_dropped c.self.inside.settings c.args.self.now.state.zones c.self.inside.keys.items c.self.inside.standings.items held c.self.invariant.rising c.args.key c.in-Ok.at place in
    let held_now : IsHeld c.self.inside.settings (without_key c.args.key c.args.self.now.state.zones) c.remove.new.self.items c.remove-2.new.self.items =
    rw (c.remove.ensures.items, c.remove-2.ensures.items) (subst (λ ss. IsHeld c.self.inside.settings (without_key c.args.key c.args.self.now.state.zones) (remove c.self.inside.keys.items c.in-Ok.at) ss) (joined_remove c.self.inside.standings.items c.in-Ok.at) less) in
    (sym settings, state_after c.self.inside.settings c.args.self.now.state (record { entry = entry.DropZone c.args.key; trained = c.args.marks; size = c.args.size; plain = c.args.plain; cells = c.self.inside.settings.cells }) c.remove.new.self.items c.remove-2.new.self.items held_now prepared ∙ ap (λ (s : Settings). after s c.args.self.now.state (entry.DropZone c.args.key)) (sym settings))
