use Rattle.std.proofs.Common.{rules, arith, ◌≡◌, ◌+◌, ◌*◌, ◌%◌, [], ◌∷◌, length-append, sym, ap, ◌∙◌, subst}
use Rattle.act_rows.specs.declared.views.Desk.{Desk}
use Rattle.act_rows.specs.declared.views.View.TheVariants.{Writes}
use Rattle.act_rows.specs.Versions.{newest}
use Rattle.act_rows.specs.Updates.{published}
use Rattle.act_rows.specs.Safe.{Kept}
use Rattle.act_rows.specs.Asked.{MayPublish}
use Rattle.act_rows.specs.Tokens.{desk_of, IsWide, Spares}
use Rattle.act_rows.proofs.Calls as call
use Rattle.act_rows.proofs.Writing.{kept_published, root_in}
use Rattle.act_rows.proofs.master.Master.publish.Goals as goal

pub overflow_add-version-2 : goal.overflow_add-version-2
overflow_add-version-2 g c =
    let i = c.self.invariant in
    let d : Desk = desk_of c.self.inside.seat.me.0 in
    let may = subst (λ z. MayPublish g.F.Fact.fact z.desk g.E.Added.entry c.args.root g.E.Added.rows g.E.Added.firsts) (sym c.self.view_is) c.requires in
    let range = root_in g.F.Fact.fact d i.kept g.E.Added.entry c.args.root g.E.Added.rows g.E.Added.firsts may in
    let few = may.few in
    let below = range.below in
    let rows_is = i.numbers.0 in
    let version_is = i.numbers.2 in
    let rows_low = i.wide.1 in
    let root_is = c.from.ensures in
    record { fits = omega arith }

pub store-requires : goal.store-requires
store-requires g c =
    let i = c.self.invariant in
    let d : Desk = desk_of c.self.inside.seat.me.0 in
    let may = subst (λ z. MayPublish g.F.Fact.fact z.desk g.E.Added.entry c.args.root g.E.Added.rows g.E.Added.firsts) (sym c.self.view_is) c.requires in
    let range = root_in g.F.Fact.fact d i.kept g.E.Added.entry c.args.root g.E.Added.rows g.E.Added.firsts may in
    let below = range.below in
    let rows_is = i.numbers.0 in
    let version_is = i.numbers.2 in
    let rows_low = i.wide.1 in
    let root_is = c.from.ensures in
    (search rules, search rules, call.publish_call (Unit {0}) g.F.Fact.fact _ _ _ _ d g.E.Added.entry c.args.root g.E.Added.rows g.E.Added.firsts _ (ap (λ m. m.0) i.seated) may (omega arith) (omega arith))

pub invariant_of-self : goal.invariant_of-self
invariant_of-self g c =
    let i = c.self.invariant in
    let d : Desk = desk_of c.self.inside.seat.me.0 in
    let may = subst (λ z. MayPublish g.F.Fact.fact z.desk g.E.Added.entry c.args.root g.E.Added.rows g.E.Added.firsts) (sym c.self.view_is) c.requires in
    let range = root_in g.F.Fact.fact d i.kept g.E.Added.entry c.args.root g.E.Added.rows g.E.Added.firsts may in
    let below = range.below in
    let rows_is = i.numbers.0 in
    let rows_low = i.wide.1 in
    let root_is = c.from.ensures in
    let found = c.store.ensures.2.1 d (ap (λ m. m.0) i.seated) in
    let mod_is : ((c.self.inside.version + 1) * 16777216 + c.from.result) % 16777216 ≡ c.args.root = omega arith in
    let is = found ∙ ap (λ r. Writes (published d g.E.Added.entry r g.E.Added.rows g.E.Added.firsts)) mod_is in
    let d' : Desk = published d g.E.Added.entry c.args.root g.E.Added.rows g.E.Added.firsts in
    let tid = c.store.ensures.0 in
    record {
      link = i.link ∙ sym tid;
      seated = call.writes_as c.store.new.seat.me d' is (c.store.ensures.2.0 ∙ ap (λ m. m.1) i.seated);
      wide = subst (λ y. IsWide y c.self.inside.pins c.self.inside.rows) (sym tid) i.wide;
      numbers = call.at_desk (λ z. (c.self.inside.rows ≡ z.rows) × (c.self.inside.pins ≡ z.pins) × (c.self.inside.version + 1 ≡ newest z)) c.store.new.seat.me d' is (i.numbers.0, i.numbers.1, ap (λ z. z + 1) i.numbers.2 ∙ sym (length-append d.history (g.E.Added.entry ∷ [])));
      bounds = call.at_desk (λ z. c.self.inside.bounds.items ≡ z.bounds) c.store.new.seat.me d' is i.bounds;
      spares = subst (λ y. Spares c.self.inside.spares.items c.self.inside.bounds.items y) (sym tid) i.spares;
      kept = call.at_desk (Kept g.F.Fact.fact) c.store.new.seat.me d' is (kept_published g.F.Fact.fact d i.kept g.E.Added.entry c.args.root g.E.Added.rows g.E.Added.firsts may);
    }

pub returns : goal.returns
returns g c =
    let i = c.self.invariant in
    let d : Desk = desk_of c.self.inside.seat.me.0 in
    let may = subst (λ z. MayPublish g.F.Fact.fact z.desk g.E.Added.entry c.args.root g.E.Added.rows g.E.Added.firsts) (sym c.self.view_is) c.requires in
    let range = root_in g.F.Fact.fact d i.kept g.E.Added.entry c.args.root g.E.Added.rows g.E.Added.firsts may in
    let below = range.below in
    let rows_is = i.numbers.0 in
    let rows_low = i.wide.1 in
    let root_is = c.from.ensures in
    let found = c.store.ensures.2.1 d (ap (λ m. m.0) i.seated) in
    let mod_is : ((c.self.inside.version + 1) * 16777216 + c.from.result) % 16777216 ≡ c.args.root = omega arith in
    (c.store.ensures.0 ∙ ap (λ z. z.table) c.self.view_is, ap desk_of found ∙ (ap (λ r. published d g.E.Added.entry r g.E.Added.rows g.E.Added.firsts) mod_is ∙ ap (λ z. published z.desk g.E.Added.entry c.args.root g.E.Added.rows g.E.Added.firsts) c.self.view_is))
