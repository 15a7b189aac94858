use Rattle.std.proofs.Common.{ap, ◌∙◌}
use Rattle.act_image.specs.Plans.{place_first}
use Rattle.act_image.proofs.BuildFacts.{first_here, first_none}
use Rattle.act_image.proofs.chains.Chains.first.Goals as goal

pub returns-then-place-key : goal.returns-then-place-key
returns-then-place-key c =
    first_here c.deref-place-items.result.now c.loop-place.place-index c.args.key _ c.loop-place-test.true c.loop-place.invariant c.if-place-key.true
    ∙ ap (λ v. place_first v c.args.key) c.deref-place-items.ensures.value

pub returns : goal.returns
returns c =
    first_none c.deref-place-items.result.now c.loop-place.place-index c.args.key c.loop-place-test.false c.loop-place.invariant
    ∙ ap (λ v. place_first v c.args.key) c.deref-place-items.ensures.value
