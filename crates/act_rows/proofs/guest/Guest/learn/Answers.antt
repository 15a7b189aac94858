use Rattle.std.proofs.Common.{arith, ◌≡◌, ◌<◌, ◌≤◌, [], length, sym, ap, ◌∙◌, subst}
use Rattle.act_rows.specs.declared.views.Ticket.{Ticket}
use Rattle.act_rows.specs.declared.views.Stage.TheVariants.{Idle}
use Rattle.act_rows.specs.declared.views.View.TheVariants.{Reads}
use Rattle.act_rows.specs.History.{History, Begins, longer}
use Rattle.act_rows.specs.Updates.{informed}
use Rattle.act_rows.specs.Steps.{learns}
use Rattle.act_rows.specs.Tokens.{ticket_of, told_of, IsWide}
use Rattle.act_rows.proofs.Calls as call
use Rattle.act_rows.proofs.Sharing.{longer_first, longer_second}
use Rattle.act_rows.proofs.guest.Guest.learn.Goals as goal

pub join_seat-requires : goal.join_seat-requires
join_seat-requires g c =
    let note_is = ap (λ m. m.1) c.note.invariant.0 in
    let same_table : c.note.inside.seat.table_id ≡ c.self.inside.seat.table_id = ap (λ z. z.table) c.note.view_is ∙ (c.requires ∙ sym (ap (λ z. z.table) c.self.view_is)) in
    let here : c.self.inside.seat.table_id ≡ c.shared.result.now.table_id = sym (c.shared.ensures ∙ c.self.invariant.link) in
    let wide = c.self.invariant.wide.0 in
    let words_is : c.shared.result.now.table_id.words ≡ c.self.inside.seat.table_id.words = ap (λ z. z.words) (sym here) in
    (here, same_table ∙ here, note_is, omega arith, call.learn_call (Unit {0}) g.F.Fact.fact _ _ _ _ _ (ticket_of c.self.inside.seat.me.0) (told_of c.note.inside.seat.me.0) (ap (λ m. m.0) c.self.invariant.seated) (ap (λ m. m.0) c.note.invariant.0) c.self.invariant.idle)

pub load-requires : goal.load-requires
load-requires g c =
    let t : Ticket = ticket_of c.self.inside.seat.me.0 in
    let h : History = told_of c.note.inside.seat.me.0 in
    let one : c.join_seat.new.seat.me.0 ≡ Reads (informed t h) = ap (λ m. m.0) c.join_seat.ensures.2 ∙ (λ k. learns (c.self.invariant.seated k).0 (c.note.invariant.0 k).0) in
    let here : c.join_seat.new.seat.table_id ≡ c.shared-2.result.now.table_id = c.join_seat.ensures.0 ∙ sym (c.shared-2.ensures ∙ c.self.invariant.link) in
    let wide = c.self.invariant.wide.0 in
    let words_is : c.shared-2.result.now.table_id.words ≡ c.self.inside.seat.table_id.words = ap (λ z. z.words) (c.shared-2.ensures ∙ c.self.invariant.link) in
    (here, omega arith, call.heed_call (Unit {0}) g.F.Fact.fact _ _ _ _ (informed t h) one c.self.invariant.idle)

pub invariant_of-self : goal.invariant_of-self
invariant_of-self g c =
    let i = c.self.invariant in
    let t : Ticket = ticket_of c.self.inside.seat.me.0 in
    let h : History = told_of c.note.inside.seat.me.0 in
    let one : c.join_seat.new.seat.me.0 ≡ Reads (informed t h) = ap (λ m. m.0) c.join_seat.ensures.2 ∙ (λ k. learns (i.seated k).0 (c.note.invariant.0 k).0) in
    let bare : c.join_seat.new.seat.me.1 ≡ [] = ap (λ m. m.1) c.join_seat.ensures.2 ∙ ap (λ m. m.1) i.seated in
    let is = (c.load.ensures.2.1 (informed t h) one).0 in
    let t' : Ticket = record t { seen = longer t.seen h; told = [] } in
    let tid = c.load.ensures.0 ∙ c.join_seat.ensures.0 in
    let seen_is = i.numbers.3 in
    let entries_are = c.note.invariant.1 in
    let less = c.if-self-entries.true in
    let low : length t.seen < length h = omega arith in
    record {
      link = i.link ∙ sym tid;
      seated = call.reads_as c.load.new.seat.me t' is (c.load.ensures.2.0 ∙ bare);
      idle = call.at_ticket (λ z. z.stage ≡ Idle) c.load.new.seat.me t' is i.idle;
      wide = subst (λ y. IsWide y c.self.inside.pins (ticket_of c.load.new.seat.me.0).rows) (sym tid) (call.at_ticket (λ z. IsWide c.self.inside.seat.table_id c.self.inside.pins z.rows) c.load.new.seat.me t' is i.wide);
      numbers = call.at_ticket (λ z. (c.self.inside.number ≡ z.number) × (c.self.inside.number < c.self.inside.pins) × (c.self.inside.pins ≡ z.pins) × (c.note.inside.entries ≡ length z.seen)) c.load.new.seat.me t' is
          (i.numbers.0, i.numbers.1, i.numbers.2, entries_are ∙ ap length (sym (longer_second t.seen h low)));
    }

pub invariant_of-self-else-self-entries : goal.invariant_of-self-else-self-entries
invariant_of-self-else-self-entries g c =
    let i = c.self.invariant in
    let t : Ticket = ticket_of c.self.inside.seat.me.0 in
    let h : History = told_of c.note.inside.seat.me.0 in
    let one : c.join_seat.new.seat.me.0 ≡ Reads (informed t h) = ap (λ m. m.0) c.join_seat.ensures.2 ∙ (λ k. learns (i.seated k).0 (c.note.invariant.0 k).0) in
    let bare : c.join_seat.new.seat.me.1 ≡ [] = ap (λ m. m.1) c.join_seat.ensures.2 ∙ ap (λ m. m.1) i.seated in
    let is = (c.load.ensures.2.1 (informed t h) one).0 in
    let t' : Ticket = record t { seen = longer t.seen h; told = [] } in
    let tid = c.load.ensures.0 ∙ c.join_seat.ensures.0 in
    let seen_is = i.numbers.3 in
    let entries_are = c.note.invariant.1 in
    let less = c.if-self-entries.false in
    let low : length h ≤ length t.seen = omega arith in
    record {
      link = i.link ∙ sym tid;
      seated = call.reads_as c.load.new.seat.me t' is (c.load.ensures.2.0 ∙ bare);
      idle = call.at_ticket (λ z. z.stage ≡ Idle) c.load.new.seat.me t' is i.idle;
      wide = subst (λ y. IsWide y c.self.inside.pins (ticket_of c.load.new.seat.me.0).rows) (sym tid) (call.at_ticket (λ z. IsWide c.self.inside.seat.table_id c.self.inside.pins z.rows) c.load.new.seat.me t' is i.wide);
      numbers = call.at_ticket (λ z. (c.self.inside.number ≡ z.number) × (c.self.inside.number < c.self.inside.pins) × (c.self.inside.pins ≡ z.pins) × (c.self.inside.seen ≡ length z.seen)) c.load.new.seat.me t' is
          (i.numbers.0, i.numbers.1, i.numbers.2, seen_is ∙ ap length (sym (longer_first t.seen h low)));
    }

pub returns-then-self-entries-clause-same : goal.returns-then-self-entries-clause-same
returns-then-self-entries-clause-same g c =
    let i = c.self.invariant in
    let t : Ticket = ticket_of c.self.inside.seat.me.0 in
    let h : History = told_of c.note.inside.seat.me.0 in
    let one : c.join_seat.new.seat.me.0 ≡ Reads (informed t h) = ap (λ m. m.0) c.join_seat.ensures.2 ∙ (λ k. learns (i.seated k).0 (c.note.invariant.0 k).0) in
    let is = (c.load.ensures.2.1 (informed t h) one).0 in
    let tid = c.load.ensures.0 ∙ c.join_seat.ensures.0 in
    let view = c.self.view_is in
    let noted = ap (λ z. z.history) c.note.view_is in
    (λ k. record { table = (tid ∙ ap (λ z. z.table) view) k; ticket = (ap ticket_of is ∙ (λ j. record (view j).ticket { seen = longer (view j).ticket.seen (noted j); told = [] })) k })

pub returns-then-self-entries-clause-one : goal.returns-then-self-entries-clause-one
returns-then-self-entries-clause-one g c =
    let i = c.self.invariant in
    let t : Ticket = ticket_of c.self.inside.seat.me.0 in
    let h : History = told_of c.note.inside.seat.me.0 in
    let one : c.join_seat.new.seat.me.0 ≡ Reads (informed t h) = ap (λ m. m.0) c.join_seat.ensures.2 ∙ (λ k. learns (i.seated k).0 (c.note.invariant.0 k).0) in
    let all = c.load.ensures.2.1 (informed t h) one in
    let mine : Begins c.args.self.now.ticket.seen (longer t.seen h) = subst (λ z. Begins z.ticket.seen (longer t.seen h)) c.self.view_is all.1 in
    let told : Begins c.args.note.history (longer t.seen h) = subst (λ z. Begins z.history (longer t.seen h)) c.note.view_is all.2 in
    call.at_ticket (λ z. Begins c.args.self.now.ticket.seen z.seen × Begins c.args.note.history z.seen) c.load.new.seat.me (record t { seen = longer t.seen h; told = [] }) all.0 (mine, told)

pub returns-else-self-entries-clause-same : goal.returns-else-self-entries-clause-same
returns-else-self-entries-clause-same g c =
    let i = c.self.invariant in
    let t : Ticket = ticket_of c.self.inside.seat.me.0 in
    let h : History = told_of c.note.inside.seat.me.0 in
    let one : c.join_seat.new.seat.me.0 ≡ Reads (informed t h) = ap (λ m. m.0) c.join_seat.ensures.2 ∙ (λ k. learns (i.seated k).0 (c.note.invariant.0 k).0) in
    let is = (c.load.ensures.2.1 (informed t h) one).0 in
    let tid = c.load.ensures.0 ∙ c.join_seat.ensures.0 in
    let view = c.self.view_is in
    let noted = ap (λ z. z.history) c.note.view_is in
    (λ k. record { table = (tid ∙ ap (λ z. z.table) view) k; ticket = (ap ticket_of is ∙ (λ j. record (view j).ticket { seen = longer (view j).ticket.seen (noted j); told = [] })) k })

pub returns-else-self-entries-clause-one : goal.returns-else-self-entries-clause-one
returns-else-self-entries-clause-one g c =
    let i = c.self.invariant in
    let t : Ticket = ticket_of c.self.inside.seat.me.0 in
    let h : History = told_of c.note.inside.seat.me.0 in
    let one : c.join_seat.new.seat.me.0 ≡ Reads (informed t h) = ap (λ m. m.0) c.join_seat.ensures.2 ∙ (λ k. learns (i.seated k).0 (c.note.invariant.0 k).0) in
    let all = c.load.ensures.2.1 (informed t h) one in
    let mine : Begins c.args.self.now.ticket.seen (longer t.seen h) = subst (λ z. Begins z.ticket.seen (longer t.seen h)) c.self.view_is all.1 in
    let told : Begins c.args.note.history (longer t.seen h) = subst (λ z. Begins z.history (longer t.seen h)) c.note.view_is all.2 in
    call.at_ticket (λ z. Begins c.args.self.now.ticket.seen z.seen × Begins c.args.note.history z.seen) c.load.new.seat.me (record t { seen = longer t.seen h; told = [] }) all.0 (mine, told)
