use Rattle.std.proofs.Common.{◌∙◌, ap}
use Rattle.std.proofs.lemmas.Result.{IfOk-weaker}
use Rattle.act_super.specs.Listings.{keys_in, standings_in}
use Rattle.act_super.specs.NodeParts.{leaves_near, splits_near}
use Rattle.act_super.specs.Standings.{standing_ground}
use Rattle.act_super.proofs.ListingFacts.{map_same, refs_here_by}
use Rattle.act_super.proofs.node.node_in.Goals as goal

pub returns-clause-leaves : goal.returns-clause-leaves
returns-clause-leaves c =
    let standings = ap standings_in c.as_slice.ensures.value ∙ c.in_ok-zones.ensures.standings in
    IfOk-weaker c.node_of.result _ _ (λ node e. e ∙ ap (λ ss. leaves_near (standing_ground c.args.marks.now) 4 ss c.args.cell) standings) c.node_of.ensures.leaves

pub returns-clause-children : goal.returns-clause-children
returns-clause-children c =
    let standings = ap standings_in c.as_slice.ensures.value ∙ c.in_ok-zones.ensures.standings in
    IfOk-weaker c.node_of.result _ _ (λ node e. e ∙ ap (λ ss. splits_near (standing_ground c.args.marks.now) 4 ss c.args.cell) standings) c.node_of.ensures.children

pub returns-clause-refs : goal.returns-clause-refs
returns-clause-refs c =
    let keys = ap keys_in c.as_slice.ensures.value ∙ c.in_ok-zones.ensures.keys in
    let standings = ap standings_in c.as_slice.ensures.value ∙ c.in_ok-zones.ensures.standings in
    IfOk-weaker c.node_of.result _ _ (λ node e. e ∙ map_same _ _ (refs_here_by c.as_slice.result.now _ _ keys standings) node.leaves) c.node_of.ensures.refs
