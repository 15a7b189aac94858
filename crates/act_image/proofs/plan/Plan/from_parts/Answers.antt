use Rattle.std.proofs.Common.{ap, arith, length, refl, ◌∙◌}
use Rattle.act_image.specs.Slots.{new_places}
use Rattle.act_image.proofs.SlotFacts.{all_slots}
use Rattle.act_image.proofs.plan.Plan.from_parts.Goals as goal

pub invariant_of-result : goal.invariant_of-result
invariant_of-result c =
    let count = c.count_new.ensures ∙ ap (λ v. length (new_places 0 v)) c.as_slice.ensures.value in
    record {
      numbered = omega (arith, c.in_ok-all.ensures.len, c.len.ensures);
      counted = omega (arith, c.in_ok-rows.ensures.len, count);
      few = omega (arith, c.in_ok-rows.ensures.len, count, all_slots 0 c.args.slots.items, c.requires);
    }

pub returns : goal.returns
returns c =
    let count = c.count_new.ensures ∙ ap (λ v. length (new_places 0 v)) c.as_slice.ensures.value in
    record {
      need = omega (arith, c.in_ok-rows.ensures.len, count);
      nodes = refl;
      under = refl;
      list_rows = refl;
      spots = refl;
      lists = refl;
      chains = refl;
      bodies = refl;
      chain_rows = refl;
      slots = refl;
      gone = refl;
    }
