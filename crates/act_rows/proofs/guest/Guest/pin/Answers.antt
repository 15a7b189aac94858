use Rattle.std.proofs.Common.{rules, arith, ◌≡◌, ℕ, ◌+◌, ◌-◌, ◌/◌, ◌%◌, ◌<◌, [], length, sym, refl, ap, ◌∙◌, subst}
use Rattle.std.specs.Prelude.{Contains}
use Rattle.act_rows.specs.declared.views.Ticket.{Ticket}
use Rattle.act_rows.specs.declared.views.Stage.TheVariants.{Holding}
use Rattle.act_rows.specs.Images.{InRange}
use Rattle.act_rows.specs.Updates.{hinted, pinned, holding}
use Rattle.act_rows.specs.Tokens.{ticket_of, history_of, version_of, IsWide}
use Rattle.act_rows.proofs.Calls as call
use Rattle.act_rows.proofs.guest.Guest.pin.Goals as goal

pub load-hint-requires : goal.load-hint-requires
load-hint-requires g c = (search rules, search rules, call.hint_call (Unit {0}) g.F.Fact.fact _ _ _ _ (ticket_of c.self.inside.seat.me.0) (ap (λ m. m.0) c.self.invariant.seated) c.self.invariant.idle)

pub store-requires : goal.store-requires
store-requires g c =
    let t : Ticket = ticket_of c.self.inside.seat.me.0 in
    let one = c.load-hint.ensures.2.1 t (ap (λ m. m.0) c.self.invariant.seated) in
    (search rules, search rules, call.pin_call (Unit {0}) g.F.Fact.fact _ _ _ _ (hinted t (c.load-hint.result / 16777216)) (c.load-hint.result / 16777216) _ one refl (ap (λ z. 1 + z) c.self.invariant.numbers.0))

pub load-word-requires : goal.load-word-requires
load-word-requires g c =
    let t : Ticket = ticket_of c.self.inside.seat.me.0 in
    let v : ℕ = c.load-hint.result / 16777216 in
    let one = c.load-hint.ensures.2.1 t (ap (λ m. m.0) c.self.invariant.seated) in
    let two = c.store.ensures.2.1 (hinted t v) one in
    (search rules, search rules, call.decide_call (Unit {0}) g.F.Fact.fact _ _ _ _ (pinned (hinted t v) (v + 1 - 1)) (v + 1 - 1) two refl)

pub invariant_of-result : goal.invariant_of-result
invariant_of-result g c =
    let t : Ticket = ticket_of c.self.inside.seat.me.0 in
    let v : ℕ = c.load-hint.result / 16777216 in
    let one = c.load-hint.ensures.2.1 t (ap (λ m. m.0) c.self.invariant.seated) in
    let two = c.store.ensures.2.1 (hinted t v) one in
    let t₂ : Ticket = pinned (hinted t v) (v + 1 - 1) in
    let three = c.load-word.ensures.2.1 t₂ two in
    let t₃ : Ticket = holding t₂ three.0 three.1 in
    let bare : c.load-word.new.seat.me.1 ≡ [] = c.load-word.ensures.2.0 ∙ (c.store.ensures.2.0 ∙ (c.load-hint.ensures.2.0 ∙ ap (λ m. m.1) c.self.invariant.seated)) in
    let tid : c.load-word.new.seat.table_id ≡ c.self.inside.seat.table_id = c.load-word.ensures.0 ∙ (c.store.ensures.0 ∙ c.load-hint.ensures.0) in
    let known = three.3 in
    let found = known.found_is in
    let small = known.root_low in
    record {
      link = search rules;
      seated = call.reads_as c.load-word.new.seat.me t₃ three.2 bare;
      holds = call.at_ticket (λ z. z.stage ≡ Holding (history_of z.stage) (version_of z.stage)) c.load-word.new.seat.me t₃ three.2 refl;
      wide = subst (λ y. IsWide y c.self.inside.pins (ticket_of c.load-word.new.seat.me.0).rows) (sym tid) (call.at_ticket (λ z. IsWide c.self.inside.seat.table_id c.self.inside.pins z.rows) c.load-word.new.seat.me t₃ three.2 c.self.invariant.wide);
      numbers = call.at_ticket (λ z. (c.self.inside.number ≡ z.number) × (c.self.inside.number < c.self.inside.pins) × (c.self.inside.pins ≡ z.pins) × (c.load-word.result / 16777216 ≡ length (history_of z.stage)) × (c.load-word.result % 16777216 ≡ (version_of z.stage).root)) c.load-word.new.seat.me t₃ three.2
          (c.self.invariant.numbers.0, c.self.invariant.numbers.1, c.self.invariant.numbers.2, omega arith, omega arith);
      ranged = call.at_ticket (λ z. (row : ℕ) → Contains (version_of z.stage).image.rows row → InRange z.rows row) c.load-word.new.seat.me t₃ three.2 known.ranged;
    }

pub returns-clause-rooted : goal.returns-clause-rooted
returns-clause-rooted g c =
    let t : Ticket = ticket_of c.self.inside.seat.me.0 in
    let v : ℕ = c.load-hint.result / 16777216 in
    let one = c.load-hint.ensures.2.1 t (ap (λ m. m.0) c.self.invariant.seated) in
    let two = c.store.ensures.2.1 (hinted t v) one in
    let t₂ : Ticket = pinned (hinted t v) (v + 1 - 1) in
    let three = c.load-word.ensures.2.1 t₂ two in
    call.at_ticket (λ z. Contains (version_of z.stage).image.rows (version_of z.stage).root) c.load-word.new.seat.me (holding t₂ three.0 three.1) three.2 three.3.rooted
