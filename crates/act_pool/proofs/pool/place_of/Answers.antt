use Rattle.std.proofs.Common.{◌≡◌, ℕ, suc, ◌-◌, ◌≤◌, ◌<◌, List, arith, take, drop, subst}
use Rattle.act_pool.specs.Retired.{Each}
use Rattle.act_pool.proofs.Waiting.{each_before, each_behind}
use Rattle.act_pool.proofs.pool.place_of.Goals as goal

pub returns-then-index-version-clause-before : goal.returns-then-index-version-clause-before
returns-then-index-version-clause-before c =
    let l : List (ℕ × ℕ) = c.args.retired.now.items in
    let i = c.loop-at.invariant in
    let within = i.0 in
    let test = c.loop-at-test.true in
    let at_is : suc (c.loop-at.at - 1) ≡ c.loop-at.at = omega arith in
    subst (λ n. Each (λ _ w. w ≤ c.args.version) (take n l)) at_is (each_before c.args.version l (c.loop-at.at - 1) c.index.result.now c.requires (omega arith) c.index.ensures c.if-index-version.true)

pub loop-at-preserved : goal.loop-at-preserved
loop-at-preserved c =
    let l : List (ℕ × ℕ) = c.args.retired.now.items in
    let i = c.loop-at.invariant in
    let within = i.0 in
    let test = c.loop-at-test.true in
    let high = c.if-index-version.false in
    let at_is : c.loop-at.at ≡ suc (c.loop-at.at - 1) = omega arith in
    (omega arith, each_behind (λ _ w. c.args.version < w) l (c.loop-at.at - 1) c.index.result.now (omega arith) c.index.ensures (omega arith) (subst (λ n. Each (λ _ w. c.args.version < w) (drop n l)) at_is i.1))

pub returns-clause-behind : goal.returns-clause-behind
returns-clause-behind c =
    let l : List (ℕ × ℕ) = c.args.retired.now.items in
    let test = c.loop-at-test.false in
    let at_is : c.loop-at.at ≡ 0 = omega arith in
    subst (λ n. Each (λ _ w. c.args.version < w) (drop n l)) at_is c.loop-at.invariant.1
