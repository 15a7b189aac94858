use Rattle.std.proofs.Common.{◌+◌, ◌-◌, ◌*◌, ◌^◌, ◌%◌, ◌∙◌, ap, refl, arith, filter, nat_lt}
use Rattle.std.proofs.lemmas.List.{take_rest}
use Rattle.std.proofs.lemmas.List.Sorted.{IsNonDecreasingBy-drop, IsNonDecreasingBy-take}
use Rattle.act_super.proofs.SpanFacts.{HasSpan, span_by_id, spanned_is}
use Rattle.act_image.proofs.turned.spanned.Goals as goal

pub overflow_add-id : goal.overflow_add-id
overflow_add-id c =
    let span : HasSpan c.args.cell (c.id-id.result - 1 * 2 ^ (60 - 2 * c.level.result) % 2 ^ 64) (c.id-id.result + 1 * 2 ^ (60 - 2 * c.level.result) % 2 ^ 64) =
    span_by_id c.args.cell c.id-id.result _ c.level.result c.level.ensures.cell c.id-id.ensures c.level.ensures.value refl in
    omega (arith, span.fits)

pub below-requires-2 : goal.below-requires-2
below-requires-2 c = IsNonDecreasingBy-take (λ k. k) _ _ (IsNonDecreasingBy-drop (λ k. k) _ _ c.requires.rising)

pub returns : goal.returns
returns c =
    let span : HasSpan c.args.cell (c.id-id.result - 1 * 2 ^ (60 - 2 * c.level.result) % 2 ^ 64) (c.id-id.result + 1 * 2 ^ (60 - 2 * c.level.result) % 2 ^ 64) =
    span_by_id c.args.cell c.id-id.result _ c.level.result c.level.ensures.cell c.id-id.ensures c.level.ensures.value refl in
    c.below-2.ensures.front
    ∙ ap (λ xs. filter (λ key. nat_lt key (c.id-id.result + 1 * 2 ^ (60 - 2 * c.level.result) % 2 ^ 64)) xs) (take_rest c.args.keys.now c.below.result ∙ c.below.ensures.back)
    ∙ spanned_is c.args.cell c.args.keys.now _ _ span
