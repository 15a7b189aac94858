use Rattle.std.proofs.Common.{arith, ◌≡◌, ℕ, ◌+◌, ◌-◌, length, set, Some, None, sym, refl, ap, ◌∙◌, subst}
use Rattle.act_rows.specs.declared.views.Desk.{Desk}
use Rattle.act_rows.specs.declared.views.View.TheVariants.{Writes}
use Rattle.act_rows.specs.Bounds.{raised, bound_at}
use Rattle.act_rows.specs.Versions.{newest}
use Rattle.act_rows.specs.Updates.{looked}
use Rattle.act_rows.specs.Safe.{Kept}
use Rattle.act_rows.specs.Tokens.{desk_of, IsWide, Spares}
use mathlib.Core.Option.{some}
use lib.ListN.{get_elem?}
use Rattle.atomic_table.proofs.Lists.{at_index}
use Rattle.act_rows.proofs.Calls as call
use Rattle.act_rows.proofs.Sharing.{spares_lent}
use Rattle.act_rows.proofs.Writing.{kept_looked}
use Rattle.act_rows.proofs.Bounds.{bound_is}
use Rattle.act_rows.proofs.master.Master.look.Goals as goal

pub returns-in_err-bound-clause-none : goal.returns-in_err-bound-clause-none
returns-in_err-bound-clause-none g c =
    let i = c.self.invariant in
    let was : c.index.result.now ≡ None = c.in_err-bound.was in
    let count = i.kept.pinned in
    let same : (desk_of c.self.inside.seat.me.0).pins ≡ c.args.self.now.desk.pins = ap (λ z. z.desk.pins) c.self.view_is in
    let items_are : length c.self.inside.bounds.items ≡ length (desk_of c.self.inside.seat.me.0).bounds = ap length i.bounds in
    let at : get_elem? c.self.inside.bounds.items c.args.j ≡ some c.index.result.now = at_index c.self.inside.bounds.items c.args.j c.index.result.now (omega arith) c.index.ensures in
    rw c.from_residual.ensures (subst (λ z. get_elem? z c.args.j ≡ some None) (i.bounds ∙ ap (λ z. z.desk.bounds) c.self.view_is) (at ∙ ap some was), refl)

pub load-word-requires : goal.load-word-requires
load-word-requires g c =
    let i = c.self.invariant in
    let was : c.index.result.now ≡ Some c.in_ok-bound.bound = c.in_ok-bound.was in
    let count = i.kept.pinned in
    let same : (desk_of c.self.inside.seat.me.0).pins ≡ c.args.self.now.desk.pins = ap (λ z. z.desk.pins) c.self.view_is in
    let items_are : length c.self.inside.bounds.items ≡ length (desk_of c.self.inside.seat.me.0).bounds = ap length i.bounds in
    let at : get_elem? c.self.inside.bounds.items c.args.j ≡ some c.index.result.now = at_index c.self.inside.bounds.items c.args.j c.index.result.now (omega arith) c.index.ensures in
    let lent_is : get_elem? (desk_of c.self.inside.seat.me.0).bounds c.args.j ≡ some (Some c.in_ok-bound.bound) = subst (λ z. get_elem? z c.args.j ≡ some (Some c.in_ok-bound.bound)) i.bounds (at ∙ ap some was) in
    let here : c.self.inside.seat.table_id ≡ c.shared.result.now.table_id = sym (c.shared.ensures ∙ i.link) in
    let wide = i.wide.0 in
    let pins_is = i.numbers.1 in
    let words_is : c.shared.result.now.table_id.words ≡ c.self.inside.seat.table_id.words = ap (λ z. z.words) (sym here) in
    (here, omega arith, call.look_call (Unit {0}) g.F.Fact.fact _ _ _ _ (desk_of c.self.inside.seat.me.0) c.args.j c.in_ok-bound.bound _ (ap (λ m. m.0) i.seated) lent_is refl)

pub invariant_of-self : goal.invariant_of-self
invariant_of-self g c =
    let i = c.self.invariant in
    let d : Desk = desk_of c.self.inside.seat.me.0 in
    let was : c.index.result.now ≡ Some c.in_ok-bound.bound = c.in_ok-bound.was in
    let count = i.kept.pinned in
    let same : d.pins ≡ c.args.self.now.desk.pins = ap (λ z. z.desk.pins) c.self.view_is in
    let items_are : length c.self.inside.bounds.items ≡ length d.bounds = ap length i.bounds in
    let at : get_elem? c.self.inside.bounds.items c.args.j ≡ some c.index.result.now = at_index c.self.inside.bounds.items c.args.j c.index.result.now (omega arith) c.index.ensures in
    let lent_is : get_elem? d.bounds c.args.j ≡ some (Some c.in_ok-bound.bound) = subst (λ z. get_elem? z c.args.j ≡ some (Some c.in_ok-bound.bound)) i.bounds (at ∙ ap some was) in
    let found = c.load-word.ensures.2.1 d (ap (λ m. m.0) i.seated) in
    let p : ℕ = c.load-word.result in
    let one : 1 + c.args.j - 1 ≡ c.args.j = omega arith in
    let is = found.0 ∙ ap (λ z. Writes (looked d z p)) one in
    let d' : Desk = looked d c.args.j p in
    let tid = c.load-word.ensures.0 in
    let bound_here : c.in_ok-bound.bound ≡ bound_at d.bounds c.args.j = sym (bound_is d.bounds c.args.j c.in_ok-bound.bound lent_is) in
    let after_is : c.raise-after.result ≡ raised (newest d) p (bound_at d.bounds c.args.j) = c.raise-after.ensures ∙ (λ k. raised (i.numbers.2 k) p (bound_here k)) in
    record {
      link = i.link ∙ sym tid;
      seated = call.writes_as c.load-word.new.seat.me d' is (c.load-word.ensures.2.0 ∙ ap (λ m. m.1) i.seated);
      wide = subst (λ y. IsWide y c.self.inside.pins c.self.inside.rows) (sym tid) i.wide;
      numbers = call.at_desk (λ z. (c.self.inside.rows ≡ z.rows) × (c.self.inside.pins ≡ z.pins) × (c.self.inside.version ≡ newest z)) c.load-word.new.seat.me d' is i.numbers;
      bounds = call.at_desk (λ z. set c.self.inside.bounds.items c.args.j (Some c.raise-after.result) ≡ z.bounds) c.load-word.new.seat.me d' is (λ k. set (i.bounds k) c.args.j (Some (after_is k)));
      spares = subst (λ y. Spares c.self.inside.spares.items (set c.self.inside.bounds.items c.args.j (Some c.raise-after.result)) y) (sym tid) (spares_lent _ _ _ i.spares c.args.j c.raise-after.result);
      kept = call.at_desk (Kept g.F.Fact.fact) c.load-word.new.seat.me d' is (kept_looked g.F.Fact.fact d i.kept c.args.j p c.in_ok-bound.bound lent_is found.1);
    }

pub returns-clause-some : goal.returns-clause-some
returns-clause-some g c =
    let i = c.self.invariant in
    let d : Desk = desk_of c.self.inside.seat.me.0 in
    let was : c.index.result.now ≡ Some c.in_ok-bound.bound = c.in_ok-bound.was in
    let count = i.kept.pinned in
    let same : d.pins ≡ c.args.self.now.desk.pins = ap (λ z. z.desk.pins) c.self.view_is in
    let items_are : length c.self.inside.bounds.items ≡ length d.bounds = ap length i.bounds in
    let at : get_elem? c.self.inside.bounds.items c.args.j ≡ some c.index.result.now = at_index c.self.inside.bounds.items c.args.j c.index.result.now (omega arith) c.index.ensures in
    let found = c.load-word.ensures.2.1 d (ap (λ m. m.0) i.seated) in
    let p : ℕ = c.load-word.result in
    let one : 1 + c.args.j - 1 ≡ c.args.j = omega arith in
    let is = found.0 ∙ ap (λ z. Writes (looked d z p)) one in (
      c.in_ok-bound.bound,
      subst (λ z. get_elem? z c.args.j ≡ some (Some c.in_ok-bound.bound)) (i.bounds ∙ ap (λ z. z.desk.bounds) c.self.view_is) (at ∙ ap some was),
      c.raise-after.ensures ∙ ap (λ z. raised z p c.in_ok-bound.bound) (i.numbers.2 ∙ ap (λ z. newest z.desk) c.self.view_is),
      ap desk_of is ∙ ap (λ z. looked z.desk c.args.j p) c.self.view_is,
    )
