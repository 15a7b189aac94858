use Rattle.std.proofs.Common.{rules, arith, ◌≡◌, ℕ, ◌<◌, length, sym, ap, ◌∙◌, subst}
use Rattle.std.specs.Prelude.{Contains}
use Rattle.act_rows.specs.declared.views.Ticket.{Ticket}
use Rattle.act_rows.specs.declared.views.Stage.TheVariants.{Holding}
use Rattle.act_rows.specs.Images.{InRange}
use Rattle.act_rows.specs.Tokens.{ticket_of, history_of, version_of, IsWide}
use Rattle.act_rows.proofs.Calls as call
use Rattle.act_rows.proofs.pin.Pin.word.Goals as goal

pub word_of_row-at-requires : goal.word_of_row-at-requires
word_of_row-at-requires g c =
    let has = subst (λ z. Contains z.version.image.rows c.args.row) (sym c.self.view_is) c.requires in
    let range = c.self.invariant.ranged c.args.row has in
    let below = range.below in
    let few = c.self.invariant.wide.1 in
    (range.above, omega arith, c.self.invariant.wide.2)

pub load-requires : goal.load-requires
load-requires g c =
    let has = subst (λ z. Contains z.version.image.rows c.args.row) (sym c.self.view_is) c.requires in
    let range = c.self.invariant.ranged c.args.row has in
    let above = range.above in
    let below = range.below in
    let small : c.args.place < 256 = omega arith in
    let pins_is = c.self.invariant.numbers.2 in
    let at_is = c.word_of_row-at.ensures in
    let wide = c.self.invariant.wide.0 in
    let words_is : c.shared.result.now.table_id.words ≡ c.self.inside.seat.table_id.words = ap (λ z. z.words) (c.shared.ensures ∙ c.self.invariant.link) in (
      search rules,
      omega arith,
      call.read_call (Unit {0}) g.F.Fact.fact _ _ _ _ (ticket_of c.self.inside.seat.me.0) (history_of (ticket_of c.self.inside.seat.me.0).stage) (version_of (ticket_of c.self.inside.seat.me.0).stage) c.args.row c.args.place _
          (ap (λ m. m.0) c.self.invariant.seated) c.self.invariant.holds has small (omega arith),
    )

pub invariant_of-self : goal.invariant_of-self
invariant_of-self g c =
    let e = c.load.ensures.2.0 in
    let i = c.self.invariant in
    let t : Ticket = ticket_of c.self.inside.seat.me.0 in
    let is = ap (λ m. m.0) e ∙ ap (λ m. m.0) i.seated in
    record {
      link = i.link ∙ sym c.load.ensures.0;
      seated = call.reads_as c.load.new.seat.me t is (ap (λ m. m.1) e ∙ ap (λ m. m.1) i.seated);
      holds = call.at_ticket (λ z. z.stage ≡ Holding (history_of z.stage) (version_of z.stage)) c.load.new.seat.me t is i.holds;
      wide = subst (λ y. IsWide y c.self.inside.pins (ticket_of c.load.new.seat.me.0).rows) (sym c.load.ensures.0) (call.at_ticket (λ z. IsWide c.self.inside.seat.table_id c.self.inside.pins z.rows) c.load.new.seat.me t is i.wide);
      numbers = call.at_ticket (λ z. (c.self.inside.number ≡ z.number) × (c.self.inside.number < c.self.inside.pins) × (c.self.inside.pins ≡ z.pins) × (c.self.inside.version ≡ length (history_of z.stage)) × (c.self.inside.root ≡ (version_of z.stage).root)) c.load.new.seat.me t is i.numbers;
      ranged = call.at_ticket (λ z. (row : ℕ) → Contains (version_of z.stage).image.rows row → InRange z.rows row) c.load.new.seat.me t is i.ranged;
    }
