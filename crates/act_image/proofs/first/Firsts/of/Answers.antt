use Rattle.std.proofs.Common.{ap, ◌∙◌}
use Rattle.act_image.specs.Plans.{place_first}
use Rattle.act_image.proofs.FirstPlace.{rising_first}
use Rattle.act_image.proofs.first.Firsts.of.Goals as goal

pub returns-then-places-likely : goal.returns-then-places-likely
returns-then-places-likely c =
    rising_first c.self.inside.places.now c.guess-likely.result c.args.key (c.self.invariant c.if-self.true) c.if-likely-places.true c.if-places-likely.true ∙ ap (λ v. place_first v c.args.key) c.self.view_is
