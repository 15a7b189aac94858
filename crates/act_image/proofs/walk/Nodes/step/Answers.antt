use Rattle.std.proofs.Common.{◌≡◌, ◌++◌, [], ◌∷◌, ap, arith, get_or, length, sym, ◌∙◌}
use Rattle.std.proofs.lemmas.List.{get_or_read}
use Rattle.act_grid.specs.Cell.{root_cell}
use Rattle.act_super.specs.declared.entry.State.{State}
use Rattle.act_super.specs.States.{after}
use Rattle.act_super.specs.Nodes.{node_children}
use Rattle.act_image.specs.Plans.{lists_of, spots_of}
use Rattle.act_image.proofs.StepFacts.{next_walk, node_there}
use Rattle.act_image.proofs.walk.Nodes.step.Goals as goal

pub node_made-requires-clause-node : goal.node_made-requires-clause-node
node_made-requires-clause-node c =
    let state : State = after c.args.state.now.settings c.args.state.now.state c.args.next.now.entry in
    let is : get_or c.args.self.now.cells.items c.args.k root_cell ≡ c.index-cell.result.now = sym (get_or_read c.args.self.now.cells.items c.args.k c.index-cell.result.now c.requires.within c.index-cell.ensures root_cell) in
    node_there c.args.state.now.settings state c.args.k c.args.self.now c.args.self.now c.requires.walk c.requires.within c.index-cell.result.now is

pub returns : goal.returns
returns c =
    let settings = c.args.state.now.settings in
    let state : State = after c.args.state.now.settings c.args.state.now.state c.args.next.now.entry in
    let cell = c.index-cell.result.now in
    let is : get_or c.args.self.now.cells.items c.args.k root_cell ≡ c.index-cell.result.now = sym (get_or_read c.args.self.now.cells.items c.args.k c.index-cell.result.now c.requires.within c.index-cell.ensures root_cell) in
    let made = c.in_ok-made in
    let base : c.in_ok-base.base ≡ length c.args.self.now.lists.items = omega (arith, c.in_ok-base.ensures.is, c.len.ensures) in
    let slot : c.in_ok-slot.slot ≡ length c.args.self.now.cells.items = omega (arith, c.in_ok-slot.ensures.is, c.len-2.ensures) in
    let count : c.in_ok-count.count ≡ length (lists_of settings state cell) = omega (arith, c.in_ok-count.ensures.is, c.len-3.ensures, ap length made.ensures.rows) in
    let spots : made.made.spots ≡ spots_of settings state (length c.args.self.now.lists.items) (length c.args.self.now.cells.items) cell = made.ensures.spots ∙ (λ i. spots_of settings state (base i) (slot i) cell) in
    let under : c.in_ok-below.below ≡ length (node_children settings state cell) = omega (arith, c.in_ok-below.ensures.is, ap length (c.as_slice.ensures ∙ made.ensures.children)) in
    let more : c.as_slice-2.result.now ≡ node_children settings state cell = c.as_slice-2.ensures ∙ made.ensures.children in
    next_walk settings state c.args.k c.args.self.now _ c.requires.walk c.requires.within cell is
    (c.in_ok-extend_from_slice.ensures.items ∙ ap (λ v. c.args.self.now.cells.items ++ v) more)
    (c.in_ok-push.ensures.items ∙ (λ i. c.args.self.now.places.items ++ record { cell = cell; first = base i; count = count i } ∷ []))
    (c.in_ok-push-2.ensures.items ∙ ap (λ v. c.args.self.now.under.items ++ v ∷ []) under)
    (c.in_ok-push-3.ensures.items ∙ ap (λ v. c.args.self.now.spots.items ++ v ∷ []) spots)
    (c.in_ok-append.ensures.items ∙ ap (λ v. c.args.self.now.lists.items ++ v) made.ensures.rows)
