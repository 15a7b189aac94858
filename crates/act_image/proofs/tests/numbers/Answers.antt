use Rattle.std.proofs.Common.{◌≡◌, ◌+◌, ◌++◌, ◌∷◌, [], suc, ap, arith, ◌∙◌}
use Rattle.act_base.specs.Counting.{from}
use Rattle.act_base.proofs.Times.{from_more}
use Rattle.act_image.proofs.tests.numbers.Goals as goal

pub loop-i-preserved : goal.loop-i-preserved
loop-i-preserved c =
    let next : suc c.loop-i.i ≡ c.loop-i.i + 1 = omega arith in
    c.in_ok-push.ensures.items ∙ ap (λ v. v ++ (2 + c.loop-i.i) ∷ []) c.loop-i.invariant ∙ from_more 2 c.loop-i.i ∙ ap (from 2) next
