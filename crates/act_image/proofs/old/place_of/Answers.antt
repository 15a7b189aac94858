use Rattle.std.proofs.Common.{ap, get_or, sym, ◌∙◌}
use Rattle.std.proofs.lemmas.List.{get_or_read}
use Rattle.act_image.specs.declared.nodes.NodePlace.{NodePlace}
use Rattle.act_image.specs.Pics.{no_node}
use Rattle.act_image.proofs.FillFacts.{same_is}
use Rattle.act_image.proofs.OldFacts.{node_is_at}
use Rattle.act_image.proofs.old.place_of.Goals as goal

pub returns-then-eq : goal.returns-then-eq
returns-then-eq c =
    let nodes = c.args.nodes.now in
    let likely = c.guess-likely.result in
    let read = c.index-nodes-likely in
    node_is_at nodes c.args.cell likely c.requires c.if-likely-nodes.true
    (ap (λ (n : NodePlace). n.cell) (sym (get_or_read nodes likely read.result c.if-likely-nodes.true read.is no_node) ∙ read.is) ∙ same_is (get_or nodes likely read.result).cell c.args.cell (sym c.if-eq.ensures))
