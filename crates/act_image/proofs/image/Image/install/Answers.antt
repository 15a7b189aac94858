use Rattle.std.proofs.Common.{ap}
use Rattle.act_image.specs.Pics.{Planned, installed}
use Rattle.act_image.proofs.image.Image.install.Goals as goal

pub returns : goal.returns
unfolding installed
returns c =
    λ i. record {
      root = (ap (λ (z : Planned). z.root) c.plan.view_is) i;
      nodes = (ap (λ (z : Planned). z.nodes) c.plan.view_is) i;
      under = (ap (λ (z : Planned). z.under) c.plan.view_is) i;
      lists = (ap (λ (z : Planned). z.list_rows) c.plan.view_is) i;
      chains = (ap (λ (z : Planned). z.chains) c.plan.view_is) i;
      rows = (ap (λ (z : Planned). z.all) c.plan.view_is) i;
    }
