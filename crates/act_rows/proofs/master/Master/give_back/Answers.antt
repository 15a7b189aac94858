use Rattle.std.proofs.Common.{arith, ◌≡◌, ◌<◌, [], length, set, Some, None, sym, ap, ◌∙◌, subst}
use Rattle.act_rows.specs.declared.views.Ticket.{Ticket}
use Rattle.act_rows.specs.declared.views.Desk.{Desk}
use Rattle.act_rows.specs.declared.views.View.TheVariants.{Writes}
use Rattle.act_rows.specs.History.{Begins}
use Rattle.act_rows.specs.Versions.{newest}
use Rattle.act_rows.specs.Updates.{returned}
use Rattle.act_rows.specs.Safe.{Kept}
use Rattle.act_rows.specs.Steps.{takes_back}
use Rattle.act_rows.specs.Tokens.{ticket_of, desk_of, IsWide, Spares, Guested, Mastered}
use Rattle.atomic_table.specs.Seated.{TableId}
use Rattle.act_rows.proofs.Calls as call
use Rattle.act_rows.proofs.Sharing.{spares_back}
use Rattle.act_rows.proofs.Seats.{kept_returned}
use Rattle.act_rows.proofs.master.Master.give_back.Goals as goal

pub join_seat-requires : goal.join_seat-requires
join_seat-requires g c =
    let i = c.self.invariant in
    let j = c.guest.invariant in
    let same_table : c.guest.inside.seat.table_id ≡ c.self.inside.seat.table_id = ap (λ z. z.table) c.guest.view_is ∙ (c.requires ∙ sym (ap (λ z. z.table) c.self.view_is)) in
    let here : c.self.inside.seat.table_id ≡ c.shared.result.now.table_id = sym (c.shared.ensures ∙ i.link) in
    let wide = i.wide.0 in
    let words_is : c.shared.result.now.table_id.words ≡ c.self.inside.seat.table_id.words = ap (λ z. z.words) (sym here) in
    (here, same_table ∙ here, ap (λ m. m.1) j.seated, omega arith, call.give_back_call (Unit {0}) g.F.Fact.fact _ _ _ _ _ (desk_of c.self.inside.seat.me.0) (ticket_of c.guest.inside.seat.me.0) (ap (λ m. m.0) i.seated) (ap (λ m. m.0) j.seated) j.idle)

pub load-requires : goal.load-requires
load-requires g c =
    let i = c.self.invariant in
    let j = c.guest.invariant in
    let d : Desk = desk_of c.self.inside.seat.me.0 in
    let t : Ticket = ticket_of c.guest.inside.seat.me.0 in
    let one : c.join_seat.new.seat.me.0 ≡ Writes (returned d t) = ap (λ m. m.0) c.join_seat.ensures.2 ∙ (λ k. takes_back (i.seated k).0 (j.seated k).0) in
    let here : c.join_seat.new.seat.table_id ≡ c.shared-2.result.now.table_id = c.join_seat.ensures.0 ∙ sym (c.shared-2.ensures ∙ i.link) in
    let wide = i.wide.0 in
    let words_is : c.shared-2.result.now.table_id.words ≡ c.self.inside.seat.table_id.words = ap (λ z. z.words) (c.shared-2.ensures ∙ i.link) in
    (here, omega arith, call.check_call (Unit {0}) g.F.Fact.fact _ _ _ _ (returned d t) one)

pub invariant_of-self : goal.invariant_of-self
invariant_of-self g c =
    let i = c.self.invariant in
    let j = c.guest.invariant in
    let d : Desk = desk_of c.self.inside.seat.me.0 in
    let t : Ticket = ticket_of c.guest.inside.seat.me.0 in
    let one : c.join_seat.new.seat.me.0 ≡ Writes (returned d t) = ap (λ m. m.0) c.join_seat.ensures.2 ∙ (λ k. takes_back (i.seated k).0 (j.seated k).0) in
    let begins : Begins t.seen d.history = c.load.ensures.2.1 (returned d t) one in
    let is : c.load.new.seat.me.0 ≡ Writes (returned d t) = ap (λ m. m.0) c.load.ensures.2.0 ∙ one in
    let bare : c.load.new.seat.me.1 ≡ [] = ap (λ m. m.1) c.load.ensures.2.0 ∙ (ap (λ m. m.1) c.join_seat.ensures.2 ∙ ap (λ m. m.1) i.seated) in
    let tid = c.load.ensures.0 ∙ c.join_seat.ensures.0 in
    let same_table : c.guest.inside.seat.table_id ≡ c.self.inside.seat.table_id = ap (λ z. z.table) c.guest.view_is ∙ (c.requires ∙ sym (ap (λ z. z.table) c.self.view_is)) in
    let words_are : c.guest.inside.seat.table_id.words ≡ c.self.inside.seat.table_id.words = ap (λ z. z.words) same_table in
    let wide = i.wide in
    let wide' = j.wide in
    let number_low = j.numbers.1 in
    let pins_is = i.numbers.1 in
    let count = i.kept.pinned in
    let items_are : length c.self.inside.bounds.items ≡ length d.bounds = ap length i.bounds in
    let low : c.guest.inside.number < length c.self.inside.bounds.items = omega arith in
    let link_is : c.guest.inside.link ≡ c.self.inside.seat.table_id = j.link ∙ same_table in
    record {
      link = i.link ∙ sym tid;
      seated = call.writes_as c.load.new.seat.me (returned d t) is bare;
      wide = subst (λ y. IsWide y c.self.inside.pins c.self.inside.rows) (sym tid) i.wide;
      numbers = call.at_desk (λ z. (c.self.inside.rows ≡ z.rows) × (c.self.inside.pins ≡ z.pins) × (c.self.inside.version ≡ newest z)) c.load.new.seat.me (returned d t) is i.numbers;
      bounds = call.at_desk (λ z. set c.self.inside.bounds.items c.guest.inside.number None ≡ z.bounds) c.load.new.seat.me (returned d t) is (λ k. set (i.bounds k) (j.numbers.0 k) None);
      spares = subst (λ (y : TableId × TableId). Spares (set c.self.inside.spares.items c.guest.inside.number (Some y.0)) (set c.self.inside.bounds.items c.guest.inside.number None) y.1) (λ k. (sym link_is k, sym tid k)) (spares_back _ _ _ i.spares c.guest.inside.number low);
      kept = call.at_desk (Kept g.F.Fact.fact) c.load.new.seat.me (returned d t) is (kept_returned g.F.Fact.fact d i.kept t begins);
    }

pub returns-clause-begins : goal.returns-clause-begins
returns-clause-begins g c =
    let i = c.self.invariant in
    let j = c.guest.invariant in
    let d : Desk = desk_of c.self.inside.seat.me.0 in
    let t : Ticket = ticket_of c.guest.inside.seat.me.0 in
    let one : c.join_seat.new.seat.me.0 ≡ Writes (returned d t) = ap (λ m. m.0) c.join_seat.ensures.2 ∙ (λ k. takes_back (i.seated k).0 (j.seated k).0) in
    let begins : Begins t.seen d.history = c.load.ensures.2.1 (returned d t) one in
    subst (λ (y : Guested × Mastered). Begins y.0.ticket.seen y.1.desk.history) (λ k. (c.guest.view_is k, c.self.view_is k)) begins
