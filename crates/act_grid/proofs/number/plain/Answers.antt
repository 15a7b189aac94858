use Rattle.std.proofs.Common.{◌≡◌, ◌-◌, ◌∷◌, List, ℕ, ap, sym, ◌∙◌, arith, drop, length, take}
use Rattle.std.proofs.lemmas.Bool.{eqb-true}
use Rattle.act_grid.specs.Number.{digits_first}
use Rattle.act_grid.proofs.Plain.{behind_point, no_fraction, point_rest, point_value}
use Rattle.act_grid.proofs.number.plain.Goals as goal

pub returns-then-not-is_empty-clause-value : goal.returns-then-not-is_empty-clause-value
returns-then-not-is_empty-clause-value c =
    let none : length c.split_at.result.1.now ≡ 0 = eqb-true (length c.split_at.result.1.now) 0 (sym c.if-is_empty.ensures) in
    no_fraction c.args.body.now c.args.digits 4294967296 c.leading-value.result.0 c.multiplied.result (omega (arith, c.leading-value.ensures.count, c.split_at.ensures.back_len, none)) c.leading-value.ensures.value c.multiplied.ensures

pub returns-clause-rest : goal.returns-clause-rest
returns-clause-rest c =
    let rest = c.split_at.result.1.now in
    let is : drop (digits_first c.args.body.now) c.args.body.now ≡ 46 ∷ take (length rest - 1) (drop 1 rest) =
    sym (ap (λ n. drop n c.args.body.now) c.leading-value.ensures.count) ∙ sym c.split_at.ensures.back ∙ behind_point rest c.if-is_empty-2.ensures c.if-rest-ne46.false in
    point_rest c.args.body.now (take (length rest - 1) (drop 1 rest)) c.with_fraction.result is c.with_fraction.ensures.digits

pub returns-clause-value : goal.returns-clause-value
returns-clause-value c =
    let rest = c.split_at.result.1.now in
    let is : drop (digits_first c.args.body.now) c.args.body.now ≡ 46 ∷ take (length rest - 1) (drop 1 rest) =
    sym (ap (λ n. drop n c.args.body.now) c.leading-value.ensures.count) ∙ sym c.split_at.ensures.back ∙ behind_point rest c.if-is_empty-2.ensures c.if-rest-ne46.false in
    point_value c.args.body.now (take (length rest - 1) (drop 1 rest)) c.args.digits 4294967296 c.leading-value.result.0 c.with_fraction.result is c.with_fraction.ensures.digits c.with_fraction.ensures.value c.leading-value.ensures.value
