use Rattle.std.proofs.Common.{arith, ◌≡◌, false, sym, ap, ◌∙◌}
use Rattle.act_tally.specs.declared.views.Drawer.{Drawer}
use Rattle.act_tally.specs.Steps.{drawn}
use Rattle.act_tally.specs.Tokens.{drawer_of}
use Rattle.act_tally.proofs.Calls as call
use Rattle.act_tally.proofs.claimer.Claimer.draw.Goals as goal

pub fetch_add-number-requires : goal.fetch_add-number-requires
fetch_add-number-requires c =
    let i = c.self.invariant in
    let here : c.self.inside.seat.table_id ≡ c.shared.result.now.table_id = sym (c.shared.ensures ∙ i.link) in
    let wide = i.wide in
    let words_is = ap (λ z. z.words) here in
    let go_on : (drawer_of c.self.inside.seat.me.0).ended ≡ false = ap (λ z. z.drawer.ended) c.self.view_is ∙ c.requires in
    (here, omega arith, call.draw_call (Unit {0}) _ _ _ _ (drawer_of c.self.inside.seat.me.0) (ap (λ m. m.0) i.seated) go_on)

pub invariant_of-self : goal.invariant_of-self
invariant_of-self c =
    let i = c.self.invariant in
    let t : Drawer = drawer_of c.self.inside.seat.me.0 in
    let is = (c.fetch_add-number.ensures.2.1 t (ap (λ m. m.0) i.seated)).0 in
    let t' : Drawer = drawn t c.fetch_add-number.result in
    let tid = c.fetch_add-number.ensures.0 in
    record {
      link = i.link ∙ sym tid;
      seated = call.draws_as c.fetch_add-number.new.seat.me t' is (c.fetch_add-number.ensures.2.0 ∙ ap (λ m. m.1) i.seated);
      wide = ap (λ z. z.words) tid ∙ i.wide;
      pieces = call.at_drawer (λ z. c.self.inside.pieces ≡ z.pieces) c.fetch_add-number.new.seat.me t' is i.pieces;
    }
