use Rattle.std.proofs.Common.{◌≡◌, ◌+◌, ◌++◌, [], ◌∷◌, ap, arith, get_or, length, map, sym, ◌∙◌}
use Rattle.std.proofs.lemmas.List.{get_or_read}
use Rattle.act_grid.specs.Cell.{root_cell}
use Rattle.act_super.specs.declared.entry.State.{State}
use Rattle.act_super.specs.States.{after}
use Rattle.act_super.specs.Nodes.{node_children}
use Rattle.act_image.specs.Kept.{new_slots}
use Rattle.act_image.specs.Paths.{source_in}
use Rattle.act_image.specs.Plans.{lists_of, spots_of}
use Rattle.act_image.proofs.PathWalk.{away_adds, next_walker, node_there, source_there, turned_away, turned_sources}
use Rattle.act_image.proofs.StepFacts.{children_nodes}
use Rattle.act_image.proofs.path.Walker.ask.Goals as goal

pub node_made-requires-clause-node : goal.node_made-requires-clause-node
node_made-requires-clause-node c =
    let state : State = after c.args.state.now.settings c.args.state.now.state c.args.next.now.entry in
    let cell = c.index-cell.result.now in
    let is : get_or c.args.self.now.cells.items c.args.k root_cell ≡ cell = sym (get_or_read c.args.self.now.cells.items c.args.k cell c.requires.within c.index-cell.ensures root_cell) in
    node_there c.args.state.now.settings c.args.state.now.state state c.args.next.now.entry c.args.old.nodes.now c.args.old.rows.now c.args.k c.args.self.now c.requires.walk c.requires.within cell is

pub returns : goal.returns
returns c =
    let settings = c.args.state.now.settings in
    let was : State = c.args.state.now.state in
    let new : State = after c.args.state.now.settings c.args.state.now.state c.args.next.now.entry in
    let e = c.args.next.now.entry in
    let nodes = c.args.old.nodes.now in
    let rows = c.args.old.rows.now in
    let self = c.args.self.now in
    let h = c.requires.walk in
    let cell = c.index-cell.result.now in
    let is : get_or self.cells.items c.args.k root_cell ≡ cell = sym (get_or_read self.cells.items c.args.k cell c.requires.within c.index-cell.ensures root_cell) in
    let node = node_there settings was new e nodes rows c.args.k self h c.requires.within cell is in
    let away = turned_away settings was new e nodes cell (sym (source_there settings was new e nodes rows c.args.k self h c.requires.within cell is) ∙ c.requires.gone) in
    let made = c.in_ok-made in
    let children : made.made.children ≡ node_children settings new cell = made.ensures.children in
    let below : c.as_slice-3.result.now ≡ node_children settings new cell = c.as_slice-3.ensures ∙ children in
    let sources : c.as_slice-2.result.now ≡ node_children settings new cell = c.as_slice-2.ensures ∙ children in
    let slot : c.in_ok-slot.slot ≡ length self.cells.items = omega (arith, c.in_ok-slot.ensures.is, c.len.ensures) in
    let count : c.in_ok-count.count ≡ length (lists_of settings new cell) = omega (arith, c.in_ok-count.ensures.is, c.len-2.ensures, ap length made.ensures.rows) in
    let under : c.in_ok-under.under ≡ length (node_children settings new cell) = c.in_ok-under.ensures.is ∙ ap length (c.as_slice.ensures ∙ children) in
    let base : c.in_ok-self.field-0 ≡ self.base + length (lists_of settings new cell) = omega (arith, c.in_ok-self.ensures.is, count) in
    next_walker settings was new e nodes rows c.args.k self h c.requires.within cell is _
    (away_adds settings was new e nodes rows cell self _ away (c.in_ok-extend_from_slice.ensures.items ∙ ap (λ v. self.cells.items ++ v) below)
    (c.in_ok-push_sources.ensures ∙ ap (λ v. self.sources.items ++ v) (ap (map (source_in nodes c.args.turned.now)) sources
    ∙ turned_sources settings was new e nodes c.args.turned.now (node_children settings new cell) c.requires.turned (children_nodes settings new cell node)))
    (c.in_ok-push.ensures.items ∙ (λ i. self.places.items ++ record { cell = cell; first = self.base; count = count i } ∷ [])) (c.in_ok-push-2.ensures.items ∙ ap (λ n. self.under.items ++ n ∷ []) under)
    c.in_ok-push-3.ensures.items (c.in_ok-push_new.ensures ∙ ap (λ n. self.list_slots.items ++ new_slots n) count)
    (c.in_ok-push-4.ensures.items ∙ ap (λ v. self.spots.items ++ v ∷ []) (made.ensures.spots ∙ ap (λ n. spots_of settings new self.base n cell) slot))
    (c.in_ok-append.ensures.items ∙ ap (λ v. self.lists.items ++ v) made.ensures.rows) base)
