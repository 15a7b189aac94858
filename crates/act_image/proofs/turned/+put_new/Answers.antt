use Rattle.std.proofs.Common.{◌≡◌, ◌+◌, ◌≤◌, ◌++◌, [], ◌∷◌, rules, ap, get_or, take, ◌∙◌}
use Rattle.std.specs.List.{flat_map}
use Rattle.std.proofs.lemmas.List.{get_or_read, take_all}
use Rattle.act_grid.specs.Cell.{Address, root_cell}
use Rattle.act_super.specs.declared.entry.Entry.{Entry}
use Rattle.act_super.specs.Nodes.{IsNode, node_children}
use Rattle.act_super.specs.States.{after}
use Rattle.act_probe.proofs.EntryFacts.{node_deep}
use Rattle.act_image.specs.Turned.{turned_under}
use Rattle.act_image.proofs.TurnedFacts.{child_level, child_node, lacked, lacked_below, turned_here, turned_more}
use Rattle.act_image.proofs.turned.+put_new.Goals as goal

pub node-requires-clause-level : goal.node-requires-clause-level
node-requires-clause-level t c = node_deep c.args.state.now.settings (after c.args.state.now.settings c.args.state.now.state c.args.next.now.entry) c.args.cell c.requires.node

pub put_new-requires : goal.put_new-requires
put_new-requires t c =
    let settings = c.args.state.now.settings in
    let old = c.args.state.now.state in
    let e : Entry = c.args.next.now.entry in
    let list = c.as_slice-child-items.result.now in
    let i = c.loop-child.child-index in
    let child : Address = c.child-item.result in
    let are : list ≡ node_children settings (after settings old e) c.args.cell = c.as_slice-child-items.ensures ∙ c.in_ok-later.ensures.children in
    let is : child ≡ get_or list i root_cell = get_or_read list i child c.loop-child-test.true c.child-item.is root_cell in
    let deep : c.args.cell.level ≤ 24 = node_deep settings (after settings old e) c.args.cell c.requires.node in
    let level : child.level ≡ c.args.cell.level + 4 = child_level settings old e c.args.cell list i child c.requires.node are c.loop-child-test.true is in
    let node : IsNode settings (after settings old e) child = child_node settings old e c.args.cell list i child c.requires.node are c.loop-child-test.true is in
    let lacks : IsNode settings old child → ⊥ = lacked_below settings old e c.args.cell list i child c.requires.node are c.loop-child-test.true is c.requires.lacks in
    search rules

pub loop-child-preserved : goal.loop-child-preserved
loop-child-preserved t c =
    let settings = c.args.state.now.settings in
    let old = c.args.state.now.state in
    let e : Entry = c.args.next.now.entry in
    let list = c.as_slice-child-items.result.now in
    let i = c.loop-child.child-index in
    let child : Address = c.child-item.result in
    let are : list ≡ node_children settings (after settings old e) c.args.cell = c.as_slice-child-items.ensures ∙ c.in_ok-later.ensures.children in
    let is : child ≡ get_or list i root_cell = get_or_read list i child c.loop-child-test.true c.child-item.is root_cell in
    turned_more settings old e c.args.cell list i child c.requires.node are c.loop-child-test.true is (c.args.turned.now.items ++ c.args.cell ∷ []) c.loop-child.turned.items c.put_new.new.turned.items c.loop-child.invariant c.in_ok-put_new.ensures

pub returns : goal.returns
returns t c =
    let settings = c.args.state.now.settings in
    let old = c.args.state.now.state in
    let e : Entry = c.args.next.now.entry in
    let list = c.as_slice-child-items.result.now in
    let are : list ≡ node_children settings (after settings old e) c.args.cell = c.as_slice-child-items.ensures ∙ c.in_ok-later.ensures.children in
    let whole : take c.loop-child.child-index list ≡ node_children settings (after settings old e) c.args.cell = take_all c.loop-child.child-index list c.loop-child-test.false ∙ are in
    turned_here settings old e c.args.cell c.requires.node c.args.turned.now.items c.loop-child.turned.items
    (c.loop-child.invariant ∙ ap (λ cells. (c.args.turned.now.items ++ c.args.cell ∷ []) ++ flat_map (turned_under settings old (after settings old e) e) cells) whole)
    (lacked settings old e c.args.cell c.requires.node c.requires.lacks)
