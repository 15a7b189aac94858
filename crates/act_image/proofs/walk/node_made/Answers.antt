use Rattle.std.proofs.Common.{◌≡◌, [], get_or, ap, subst, sym, ◌∙◌}
use Rattle.act_grid.specs.Cell.{root_cell}
use Rattle.act_super.specs.declared.entry.State.{State}
use Rattle.act_super.specs.States.{after}
use Rattle.act_super.specs.Nodes.{node_leaves}
use Rattle.act_probe.proofs.EntryFacts.{node_deep}
use Rattle.act_image.specs.Plans.{IsLeafOf, lists_of, no_fill, put_lists}
use Rattle.act_image.proofs.StepFacts.{child_of_node, leaf_of_node}
use Rattle.act_image.proofs.walk.node_made.Goals as goal

pub node-requires-clause-level : goal.node-requires-clause-level
node-requires-clause-level c = node_deep c.args.state.now.settings (after c.args.state.now.settings c.args.state.now.state c.args.next.now.entry) c.args.cell c.requires.node

pub leaf_parts-requires-clause-leaves : goal.leaf_parts-requires-clause-leaves
leaf_parts-requires-clause-leaves c = λ k low.
    let state : State = after c.args.state.now.settings c.args.state.now.state c.args.next.now.entry in
    subst (λ n. IsLeafOf n (get_or c.as_slice.result.now k root_cell)) (sym c.level-level.ensures.value)
    (leaf_of_node c.args.state.now.settings state c.args.cell c.as_slice.result.now k c.requires.node (c.as_slice.ensures ∙ c.in_ok-node.ensures.leaves) low)

pub push_children-requires : goal.push_children-requires
push_children-requires c = λ k low.
    let state : State = after c.args.state.now.settings c.args.state.now.state c.args.next.now.entry in
    subst (λ n. IsLeafOf n (get_or c.as_slice-3.result.now k root_cell)) (sym c.level-level.ensures.value)
    (child_of_node c.args.state.now.settings state c.args.cell c.as_slice-3.result.now k c.requires.node (c.as_slice-3.ensures ∙ c.in_ok-node.ensures.children) low)

pub returns-clause-rows : goal.returns-clause-rows
unfolding lists_of
returns-clause-rows c =
    let state : State = after c.args.state.now.settings c.args.state.now.state c.args.next.now.entry in
    let leaves : c.as_slice.result.now ≡ node_leaves c.args.state.now.settings state c.args.cell = c.as_slice.ensures ∙ c.in_ok-node.ensures.leaves in
    c.in_ok-parts.ensures.rows ∙ ap (put_lists state.zones no_fill []) leaves
