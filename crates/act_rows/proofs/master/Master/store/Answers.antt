use Rattle.std.proofs.Common.{rules, arith, ◌≡◌, ◌<◌, sym, ap, ◌∙◌, subst}
use Rattle.act_rows.specs.declared.views.Desk.{Desk}
use Rattle.act_rows.specs.Versions.{newest}
use Rattle.act_rows.specs.Updates.{stored}
use Rattle.act_rows.specs.Safe.{Kept}
use Rattle.act_rows.specs.Asked.{MayStore}
use Rattle.act_rows.specs.Tokens.{desk_of, IsWide, Spares}
use Rattle.act_rows.proofs.Calls as call
use Rattle.act_rows.proofs.Writing.{kept_stored}
use Rattle.act_rows.proofs.master.Master.store.Goals as goal

pub word_of_row-at-requires : goal.word_of_row-at-requires
word_of_row-at-requires g c =
    let may = subst (λ z. MayStore z.desk c.args.row) (sym c.self.view_is) c.requires in
    let below = may.range.below in
    let rows_is = c.self.invariant.numbers.0 in
    let few = c.self.invariant.wide.1 in
    (may.range.above, omega arith, c.self.invariant.wide.2)

pub store-requires : goal.store-requires
store-requires g c =
    let i = c.self.invariant in
    let may = subst (λ z. MayStore z.desk c.args.row) (sym c.self.view_is) c.requires in
    let above = may.range.above in
    let below = may.range.below in
    let small : c.args.place < 256 = omega arith in
    let pins_is = i.numbers.1 in
    let at_is = c.word_of_row-at.ensures in
    let rows_is = i.numbers.0 in
    let wide = i.wide.0 in
    let words_is : c.shared.result.now.table_id.words ≡ c.self.inside.seat.table_id.words = ap (λ z. z.words) (c.shared.ensures ∙ i.link) in
    (search rules, omega arith, call.store_call (Unit {0}) g.F.Fact.fact _ _ _ _ (desk_of c.self.inside.seat.me.0) c.args.row c.args.place c.args.word _ (ap (λ m. m.0) i.seated) may small (omega arith))

pub invariant_of-self : goal.invariant_of-self
invariant_of-self g c =
    let i = c.self.invariant in
    let d : Desk = desk_of c.self.inside.seat.me.0 in
    let may = subst (λ z. MayStore z.desk c.args.row) (sym c.self.view_is) c.requires in
    let above = may.range.above in
    let small : c.args.place < 256 = omega arith in
    let pins_is = i.numbers.1 in
    let at_is = c.word_of_row-at.ensures in
    let is = c.store.ensures.2.1 d c.args.row c.args.place (ap (λ m. m.0) i.seated) above small (omega arith) in
    let d' : Desk = stored d c.args.row c.args.place c.args.word in
    let tid = c.store.ensures.0 in
    record {
      link = i.link ∙ sym tid;
      seated = call.writes_as c.store.new.seat.me d' is (c.store.ensures.2.0 ∙ ap (λ m. m.1) i.seated);
      wide = subst (λ y. IsWide y c.self.inside.pins c.self.inside.rows) (sym tid) i.wide;
      numbers = call.at_desk (λ z. (c.self.inside.rows ≡ z.rows) × (c.self.inside.pins ≡ z.pins) × (c.self.inside.version ≡ newest z)) c.store.new.seat.me d' is i.numbers;
      bounds = call.at_desk (λ z. c.self.inside.bounds.items ≡ z.bounds) c.store.new.seat.me d' is i.bounds;
      spares = subst (λ y. Spares c.self.inside.spares.items c.self.inside.bounds.items y) (sym tid) i.spares;
      kept = call.at_desk (Kept g.F.Fact.fact) c.store.new.seat.me d' is (kept_stored g.F.Fact.fact d i.kept c.args.row c.args.place c.args.word may small);
    }
