use Rattle.std.proofs.Common.{arith, ◌≡◌, ℕ, ◌<◌, List, [], length, set, Option, Some, None, sym, refl, ap, ◌∙◌, subst}
use Rattle.act_rows.specs.declared.views.Desk.{Desk}
use Rattle.act_rows.specs.declared.views.Stage.TheVariants.{Idle}
use Rattle.act_rows.specs.declared.views.View.TheVariants.{Writes, Reads}
use Rattle.act_rows.specs.Bounds.{lowest}
use Rattle.act_rows.specs.Versions.{newest}
use Rattle.act_rows.specs.Updates.{lent, newcomer}
use Rattle.act_rows.specs.Safe.{Kept}
use Rattle.act_rows.specs.Steps.{lends_left, lends_right}
use Rattle.act_rows.specs.Tokens.{ticket_of, desk_of, IsWide, Spares}
use Rattle.atomic_table.specs.Seated.{TableId}
use mathlib.Core.Option.{some}
use lib.ListN.{get_elem?}
use Rattle.act_rows.proofs.Calls as call
use Rattle.act_rows.proofs.Sharing.{spares_taken}
use Rattle.act_rows.proofs.Lists.{get_at}
use Rattle.act_rows.proofs.Bounds.{lowest_within, lowest_free}
use Rattle.act_rows.proofs.Seats.{kept_lent}
use Rattle.act_rows.proofs.master.Master.lend.Goals as goal

pub index_mut-requires : goal.index_mut-requires
index_mut-requires g c =
    let i = c.self.invariant in
    let d : Desk = desk_of c.self.inside.seat.me.0 in
    let n : ℕ = c.lowest_free-number.result in
    let low_is : n ≡ lowest d.bounds = c.lowest_free-number.ensures ∙ ap lowest (c.as_slice.ensures.value ∙ i.bounds) in
    let most = lowest_within d.bounds in
    let slice_is : length c.as_slice.result.now ≡ length d.bounds = ap length (c.as_slice.ensures.value ∙ i.bounds) in
    let len_is = c.as_slice.ensures.len in
    let len_too = c.len.ensures in
    let other = c.if-number-len.false in
    let room : lowest d.bounds < length d.bounds = omega arith in
    let many = i.spares.as_many in
    let items_are : length c.self.inside.bounds.items ≡ length d.bounds = ap length i.bounds in
    let ok = c.self.inside.spares.ok in
    omega arith

pub unreachable-requires : goal.unreachable-requires
unreachable-requires g c =
    let i = c.self.invariant in
    let d : Desk = desk_of c.self.inside.seat.me.0 in
    let n : ℕ = c.lowest_free-number.result in
    let low_is : n ≡ lowest d.bounds = c.lowest_free-number.ensures ∙ ap lowest (c.as_slice.ensures.value ∙ i.bounds) in
    let most = lowest_within d.bounds in
    let slice_is : length c.as_slice.result.now ≡ length d.bounds = ap length (c.as_slice.ensures.value ∙ i.bounds) in
    let len_is = c.as_slice.ensures.len in
    let len_too = c.len.ensures in
    let other = c.if-number-len.false in
    let room : lowest d.bounds < length d.bounds = omega arith in
    let free_is : get_elem? c.self.inside.bounds.items n ≡ some None = subst (λ (z : List (Option ℕ) × ℕ). get_elem? z.0 z.1 ≡ some None) (λ k. (sym i.bounds k, sym low_is k)) (lowest_free d.bounds room) in
    let spare : get_elem? c.self.inside.spares.items n ≡ some (Some c.self.inside.seat.table_id) = i.spares.free n free_is in
    let took : c.take.result ≡ Some c.self.inside.seat.table_id = c.take.ensures.value ∙ (c.index_mut.ensures.value ∙ get_at c.self.inside.spares.items n (Some c.self.inside.seat.table_id) c.index_mut.result.now spare) in
    let none = c.in_default.is in
    absurd (cc)

pub split_seat-seat-requires : goal.split_seat-seat-requires
split_seat-seat-requires g c =
    let i = c.self.invariant in
    let d : Desk = desk_of c.self.inside.seat.me.0 in
    let n : ℕ = c.lowest_free-number.result in
    let low_is : n ≡ lowest d.bounds = c.lowest_free-number.ensures ∙ ap lowest (c.as_slice.ensures.value ∙ i.bounds) in
    let most = lowest_within d.bounds in
    let slice_is : length c.as_slice.result.now ≡ length d.bounds = ap length (c.as_slice.ensures.value ∙ i.bounds) in
    let len_is = c.as_slice.ensures.len in
    let len_too = c.len.ensures in
    let other = c.if-number-len.false in
    let room : lowest d.bounds < length d.bounds = omega arith in
    let here : c.self.inside.seat.table_id ≡ c.shared.result.now.table_id = sym (c.shared.ensures ∙ i.link) in
    let wide = i.wide.0 in
    let words_is : c.shared.result.now.table_id.words ≡ c.self.inside.seat.table_id.words = ap (λ z. z.words) (sym here) in
    (here, omega arith, call.lend_call (Unit {0}) g.F.Fact.fact _ _ _ d (ap (λ m. m.0) i.seated) room)

pub index_mut-requires-2 : goal.index_mut-requires-2
index_mut-requires-2 g c =
    let i = c.self.invariant in
    let d : Desk = desk_of c.self.inside.seat.me.0 in
    let n : ℕ = c.lowest_free-number.result in
    let low_is : n ≡ lowest d.bounds = c.lowest_free-number.ensures ∙ ap lowest (c.as_slice.ensures.value ∙ i.bounds) in
    let most = lowest_within d.bounds in
    let slice_is : length c.as_slice.result.now ≡ length d.bounds = ap length (c.as_slice.ensures.value ∙ i.bounds) in
    let len_is = c.as_slice.ensures.len in
    let len_too = c.len.ensures in
    let other = c.if-number-len.false in
    let room : lowest d.bounds < length d.bounds = omega arith in
    omega arith

pub overflow_cast-result : goal.overflow_cast-result
overflow_cast-result g c =
    let i = c.self.invariant in
    let d : Desk = desk_of c.self.inside.seat.me.0 in
    let n : ℕ = c.lowest_free-number.result in
    let low_is : n ≡ lowest d.bounds = c.lowest_free-number.ensures ∙ ap lowest (c.as_slice.ensures.value ∙ i.bounds) in
    let most = lowest_within d.bounds in
    let slice_is : length c.as_slice.result.now ≡ length d.bounds = ap length (c.as_slice.ensures.value ∙ i.bounds) in
    let len_is = c.as_slice.ensures.len in
    let len_too = c.len.ensures in
    let other = c.if-number-len.false in
    let room : lowest d.bounds < length d.bounds = omega arith in
    let count = i.kept.pinned in
    let pins_is = i.numbers.1 in
    let few = i.wide.2 in
    record { fits = omega arith }

pub invariant_of-result : goal.invariant_of-result
invariant_of-result g c =
    let i = c.self.invariant in
    let d : Desk = desk_of c.self.inside.seat.me.0 in
    let n : ℕ = c.lowest_free-number.result in
    let low_is : n ≡ lowest d.bounds = c.lowest_free-number.ensures ∙ ap lowest (c.as_slice.ensures.value ∙ i.bounds) in
    let most = lowest_within d.bounds in
    let slice_is : length c.as_slice.result.now ≡ length d.bounds = ap length (c.as_slice.ensures.value ∙ i.bounds) in
    let len_is = c.as_slice.ensures.len in
    let len_too = c.len.ensures in
    let other = c.if-number-len.false in
    let room : lowest d.bounds < length d.bounds = omega arith in
    let free_is : get_elem? c.self.inside.bounds.items n ≡ some None = subst (λ (z : List (Option ℕ) × ℕ). get_elem? z.0 z.1 ≡ some None) (λ k. (sym i.bounds k, sym low_is k)) (lowest_free d.bounds room) in
    let spare : get_elem? c.self.inside.spares.items n ≡ some (Some c.self.inside.seat.table_id) = i.spares.free n free_is in
    let took : c.take.result ≡ Some c.self.inside.seat.table_id = c.take.ensures.value ∙ (c.index_mut.ensures.value ∙ get_at c.self.inside.spares.items n (Some c.self.inside.seat.table_id) c.index_mut.result.now spare) in
    let wrote : c.split_seat-seat.new.seat.me.0 ≡ Writes (lent d) = ap (λ m. m.0) c.split_seat-seat.ensures.2 ∙ (λ k. lends_left (i.seated k).0) in
    let gave : c.split_seat-seat.result.me.0 ≡ Reads (newcomer d) = ap (λ m. m.0) c.split_seat-seat.ensures.4 ∙ (λ k. lends_right (i.seated k).0) in
    let bare : c.split_seat-seat.new.seat.me.1 ≡ [] = ap (λ m. m.1) c.split_seat-seat.ensures.2 ∙ ap (λ m. m.1) i.seated in
    let tid = c.split_seat-seat.ensures.0 in
    let tid' = c.split_seat-seat.ensures.3 in
    let was = c.in-Some.is in
    let link_is : c.in-Some.link ≡ c.self.inside.seat.table_id = cc in
    let count = i.kept.pinned in
    let pins_is = i.numbers.1 in
    record {
      link = link_is ∙ sym tid';
      seated = call.reads_as c.split_seat-seat.result.me (newcomer d) gave (ap (λ m. m.1) c.split_seat-seat.ensures.4);
      idle = call.at_ticket (λ z. z.stage ≡ Idle) c.split_seat-seat.result.me (newcomer d) gave refl;
      wide = subst (λ y. IsWide y c.self.inside.pins (ticket_of c.split_seat-seat.result.me.0).rows) (sym tid') (call.at_ticket (λ z. IsWide c.self.inside.seat.table_id c.self.inside.pins z.rows) c.split_seat-seat.result.me (newcomer d) gave
          (subst (λ r. IsWide c.self.inside.seat.table_id c.self.inside.pins r) i.numbers.0 i.wide));
      numbers = call.at_ticket (λ z. (n ≡ z.number) × (n < c.self.inside.pins) × (c.self.inside.pins ≡ z.pins) × (c.self.inside.version ≡ length z.seen)) c.split_seat-seat.result.me (newcomer d) gave (low_is, omega arith, i.numbers.1, i.numbers.2);
    }

pub invariant_of-self : goal.invariant_of-self
invariant_of-self g c =
    let i = c.self.invariant in
    let d : Desk = desk_of c.self.inside.seat.me.0 in
    let n : ℕ = c.lowest_free-number.result in
    let low_is : n ≡ lowest d.bounds = c.lowest_free-number.ensures ∙ ap lowest (c.as_slice.ensures.value ∙ i.bounds) in
    let most = lowest_within d.bounds in
    let slice_is : length c.as_slice.result.now ≡ length d.bounds = ap length (c.as_slice.ensures.value ∙ i.bounds) in
    let len_is = c.as_slice.ensures.len in
    let len_too = c.len.ensures in
    let other = c.if-number-len.false in
    let room : lowest d.bounds < length d.bounds = omega arith in
    let wrote : c.split_seat-seat.new.seat.me.0 ≡ Writes (lent d) = ap (λ m. m.0) c.split_seat-seat.ensures.2 ∙ (λ k. lends_left (i.seated k).0) in
    let gave : c.split_seat-seat.result.me.0 ≡ Reads (newcomer d) = ap (λ m. m.0) c.split_seat-seat.ensures.4 ∙ (λ k. lends_right (i.seated k).0) in
    let bare : c.split_seat-seat.new.seat.me.1 ≡ [] = ap (λ m. m.1) c.split_seat-seat.ensures.2 ∙ ap (λ m. m.1) i.seated in
    let tid = c.split_seat-seat.ensures.0 in
    let tid' = c.split_seat-seat.ensures.3 in
    record {
      link = i.link ∙ sym tid;
      seated = call.writes_as c.split_seat-seat.new.seat.me (lent d) wrote bare;
      wide = subst (λ y. IsWide y c.self.inside.pins c.self.inside.rows) (sym tid) i.wide;
      numbers = call.at_desk (λ z. (c.self.inside.rows ≡ z.rows) × (c.self.inside.pins ≡ z.pins) × (c.self.inside.version ≡ newest z)) c.split_seat-seat.new.seat.me (lent d) wrote i.numbers;
      bounds = call.at_desk (λ z. set c.self.inside.bounds.items n (Some c.self.inside.version) ≡ z.bounds) c.split_seat-seat.new.seat.me (lent d) wrote (λ k. set (i.bounds k) (low_is k) (Some (i.numbers.2 k)));
      spares = subst (λ (y : Option TableId × TableId). Spares (set c.self.inside.spares.items n y.0) (set c.self.inside.bounds.items n (Some c.self.inside.version)) y.1) (λ k. (sym c.take.ensures.after k, sym tid k)) (spares_taken _ _ _ i.spares n c.self.inside.version);
      kept = call.at_desk (Kept g.F.Fact.fact) c.split_seat-seat.new.seat.me (lent d) wrote (kept_lent g.F.Fact.fact d i.kept);
    }

pub returns-clause-ok : goal.returns-clause-ok
returns-clause-ok g c =
    let i = c.self.invariant in
    let d : Desk = desk_of c.self.inside.seat.me.0 in
    let n : ℕ = c.lowest_free-number.result in
    let low_is : n ≡ lowest d.bounds = c.lowest_free-number.ensures ∙ ap lowest (c.as_slice.ensures.value ∙ i.bounds) in
    let most = lowest_within d.bounds in
    let slice_is : length c.as_slice.result.now ≡ length d.bounds = ap length (c.as_slice.ensures.value ∙ i.bounds) in
    let len_is = c.as_slice.ensures.len in
    let len_too = c.len.ensures in
    let other = c.if-number-len.false in
    let room : lowest d.bounds < length d.bounds = omega arith in
    let wrote : c.split_seat-seat.new.seat.me.0 ≡ Writes (lent d) = ap (λ m. m.0) c.split_seat-seat.ensures.2 ∙ (λ k. lends_left (i.seated k).0) in
    let gave : c.split_seat-seat.result.me.0 ≡ Reads (newcomer d) = ap (λ m. m.0) c.split_seat-seat.ensures.4 ∙ (λ k. lends_right (i.seated k).0) in
    let bare : c.split_seat-seat.new.seat.me.1 ≡ [] = ap (λ m. m.1) c.split_seat-seat.ensures.2 ∙ ap (λ m. m.1) i.seated in
    let tid = c.split_seat-seat.ensures.0 in
    let tid' = c.split_seat-seat.ensures.3 in
    let v = c.self.view_is in
    let count = i.kept.pinned in
    (subst (λ z. lowest z.desk.bounds < z.desk.pins) v (subst (λ z. lowest d.bounds < z) count room), ap desk_of wrote ∙ ap (λ z. lent z.desk) v, ap ticket_of gave ∙ ap (λ z. newcomer z.desk) v, tid' ∙ ap (λ z. z.table) v)
