use Rattle.std.proofs.Common.{◌≡◌, ℕ, suc, ◌+◌, ◌-◌, List, [], ◌∷◌, ◌++◌, arith, length, sym, ap, ◌∙◌, subst}
use Rattle.act_base.specs.Counting.{from}
use Rattle.act_base.proofs.Times.{from_more, length-from, from_once, from_ranged}
use Rattle.act_pool.specs.Pooled.{IsTidy}
use Rattle.act_pool.proofs.pool.Pool.new.Goals as goal

pub push_reserved-requires : goal.push_reserved-requires
push_reserved-requires c =
    let i = c.loop-at.invariant in
    let room = i.1 in
    let test = c.loop-at-test.true in
    let len : length c.loop-at.free.items ≡ c.loop-at.at = ap length i.0 ∙ length-from 2 c.loop-at.at in
    omega arith

pub loop-at-preserved : goal.loop-at-preserved
loop-at-preserved c =
    let i = c.loop-at.invariant in
    let e : c.loop-at.at + 2 ≡ 2 + c.loop-at.at = omega arith in
    let f : suc c.loop-at.at ≡ c.loop-at.at + 1 = omega arith in (
      c.push_reserved.ensures.items ∙ (ap (λ z. z ++ (c.loop-at.at + 2) ∷ []) i.0 ∙ (ap (λ z. from 2 c.loop-at.at ++ z ∷ []) e ∙ (from_more 2 c.loop-at.at ∙ ap (from 2) f))),
      c.push_reserved.ensures.capacity ∙ i.1,
    )

pub invariant_of-result : goal.invariant_of-result
invariant_of-result c =
    let i = c.loop-at.invariant in
    let past = c.loop-at-test.false in
    let upper = c.loop-at.auto.at-end in
    let low = c.requires.0 in
    let at_is : c.loop-at.at ≡ c.args.rows - 1 = omega arith in
    let items : c.loop-at.free.items ≡ from 2 (c.args.rows - 1) = i.0 ∙ ap (from 2) at_is in
    let none : c.in_ok-retired.retired.items ≡ [] = c.in_ok-retired.ensures.items in
    let wide = i.1 in
    let deep = c.in_ok-retired.ensures.capacity in
    record {
      room = (omega arith, deep);
      few = c.requires.1;
      tidy = subst (λ (z : List ℕ × List (ℕ × ℕ)). IsTidy (record { rows = c.args.rows; free = z.0; retired = z.1 })) (λ k. (sym items k, sym none k)) record {
        once = λ r. let o = from_once 2 (c.args.rows - 1) r in omega arith;
        ranged = λ r h. let o = from_ranged 2 (c.args.rows - 1) r (omega arith) in let p = o.0 in let q = o.1 in (omega arith, omega arith);
        ordered = tt;
      };
    }

pub returns : goal.returns
returns c =
    let i = c.loop-at.invariant in
    let past = c.loop-at-test.false in
    let upper = c.loop-at.auto.at-end in
    let low = c.requires.0 in
    let at_is : c.loop-at.at ≡ c.args.rows - 1 = omega arith in
    let items : c.loop-at.free.items ≡ from 2 (c.args.rows - 1) = i.0 ∙ ap (from 2) at_is in
    let none : c.in_ok-retired.retired.items ≡ [] = c.in_ok-retired.ensures.items in
    λ k. record { rows = c.args.rows; free = items k; retired = none k }
