use Rattle.std.proofs.Common.{◌≡◌, ap, arith, get_or, length, sym, subst, ◌∙◌}
use Rattle.std.proofs.lemmas.List.{with_items_is}
use Rattle.act_image.specs.Slots.{with_rows}
use Rattle.act_image.specs.Pics.{IsBound, Planned}
use Rattle.act_image.proofs.BindFacts.{bound}
use Rattle.act_image.proofs.SlotFacts.{rows_length}
use Rattle.act_image.proofs.plan.Plan.bind.Goals as goal

pub invariant_of-self : goal.invariant_of-self
invariant_of-self c =
    let len = c.copy_from_slice.ensures.len in
    let same = ap length c.as_mut_slice.ensures.value in
    let wide = c.as_mut_slice.ensures.len in
    let rows : (Rattle.std.specs.Vec.with_items c.self.inside.rows c.copy_from_slice.new.self).items ≡ c.args.rows.now =
    with_items_is c.self.inside.rows c.copy_from_slice.new.self (omega arith) ∙ c.copy_from_slice.ensures.after in
    let need : length c.self.inside.rows.items ≡ c.args.self.now.need = ap (λ (z : Planned). z.need) c.self.view_is in
    let laid = c.self.invariant in
    let long = ap length rows ∙ c.requires ∙ sym need in
    record {
      numbered = ap length c.put_rows.ensures ∙ rows_length c.as_slice.result.now c.args.rows.now ∙ ap length c.as_slice.ensures.value;
      counted = long ∙ laid.counted;
      few = omega (arith, long, laid.few);
    }

pub returns-clause-given : goal.returns-clause-given
returns-clause-given c =
    let len = c.copy_from_slice.ensures.len in
    let same = ap length c.as_mut_slice.ensures.value in
    let wide = c.as_mut_slice.ensures.len in
    let rows : (Rattle.std.specs.Vec.with_items c.self.inside.rows c.copy_from_slice.new.self).items ≡ c.args.rows.now =
    with_items_is c.self.inside.rows c.copy_from_slice.new.self (omega arith) ∙ c.copy_from_slice.ensures.after in
    let long = ap length rows ∙ c.requires in
    let all : c.put_rows.new.all.items ≡ with_rows c.args.self.now.slots c.args.rows.now =
    c.put_rows.ensures ∙ ap (λ v. with_rows v c.args.rows.now) (c.as_slice.ensures.value ∙ ap (λ (z : Planned). z.slots) c.self.view_is) in
    λ i. record {
      need = long i;
      root = get_or (all i) 0 0;
      nodes = (ap (λ (z : Planned). z.nodes) c.self.view_is) i;
      under = (ap (λ (z : Planned). z.under) c.self.view_is) i;
      list_rows = (ap (λ (z : Planned). z.list_rows) c.self.view_is) i;
      spots = (ap (λ (z : Planned). z.spots) c.self.view_is) i;
      lists = (ap (λ (z : Planned). z.lists) c.self.view_is) i;
      chains = (ap (λ (z : Planned). z.chains) c.self.view_is) i;
      bodies = (ap (λ (z : Planned). z.bodies) c.self.view_is) i;
      chain_rows = (ap (λ (z : Planned). z.chain_rows) c.self.view_is) i;
      slots = (ap (λ (z : Planned). z.slots) c.self.view_is) i;
      all = all i;
      rows = rows i;
      gone = (ap (λ (z : Planned). z.gone) c.self.view_is) i;
    }

pub returns-clause-bound : goal.returns-clause-bound
returns-clause-bound c = λ settings p state new plan fresh.
    subst (λ (z : Planned). IsBound settings p z state new) (sym (returns-clause-given c)) (bound settings p c.args.self.now state new plan c.args.rows.now fresh c.requires)
