use Rattle.std.proofs.Common.{subst, sym, ◌∙◌}
use Rattle.act_super.specs.States.{after}
use Rattle.act_super.specs.Stands.{Stands}
use Rattle.act_image.specs.declared.tests.Stored.{Stored}
use Rattle.act_image.specs.Pics.{empty_sight, renewed}
use Rattle.act_image.proofs.tests.one_zone.Goals as goal

pub look-key-requires-2 : goal.look-key-requires-2
look-key-requires-2 g c =
    let settings = c.prepare_add.new.self.settings in
    let state = after settings c.prepare_add.new.self.state c.in-Ok.next.entry in
    (settings, state, subst (λ (w : Stored). Stands settings (renewed empty_sight w.plan) w.plan.root state) (sym c.look-key.ensures) c.in_ok-words.ensures)

pub look-key-requires-3 : goal.look-key-requires-3
look-key-requires-3 g c =
    let settings = c.prepare_add.new.self.settings in
    let state = after settings c.prepare_add.new.self.state c.in-Ok.next.entry in
    (settings, state, subst (λ (w : Stored). Stands settings (renewed empty_sight w.plan) w.plan.root state) (sym (c.look-key-2.ensures ∙ c.look-key.ensures)) c.in_ok-words.ensures)
