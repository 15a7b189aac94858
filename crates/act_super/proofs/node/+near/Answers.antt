use Rattle.std.proofs.Common.{rules, ◌≡◌, ◌<◌, arith, sym, ◌∙◌, ap, ◌++◌, append-nil, map, ◌∷◌, [], subst, true}
use Rattle.std.proofs.lemmas.List.Elements.{All-filter}
use Rattle.act_grid.specs.Cell.{IsCell, hull_of}
use Rattle.act_cover.specs.Covering.{is_on}
use Rattle.act_cover.proofs.Placed.{child_cell}
use Rattle.act_super.specs.declared.listed.Listed.{Listed}
use Rattle.act_super.specs.Frames.{IsFrame, is_apart}
use Rattle.act_super.specs.Grounds.{is_split, on}
use Rattle.act_super.specs.NodeParts.{leaves_near, splits_near}
use Rattle.act_super.specs.Listings.{AreFramed, listed_ground, refs_here}
use Rattle.act_super.proofs.NodeFacts.{four_after, leaf_alone, map_four, leaves_four, narrow_leaves, narrow_splits, no_leaf, no_split, split_alone, splits_four}
use Rattle.act_super.proofs.ListingFacts.{apart_refs, apart_whole, listed_go_down, narrow_refs}
use Rattle.act_super.proofs.TreeFacts.{split_on}
use Rattle.act_super.proofs.UnderFacts.{split_low}
use Rattle.act_super.proofs.node.+near.Goals as goal

pub near-returns-then-not-split-clause-leaves : goal.near-returns-then-not-split-clause-leaves
near-returns-then-not-split-clause-leaves t c = c.in_ok-push.ensures.items ∙ ap (λ r. c.args.leaves.now.items ++ r) (sym (leaf_alone (listed_ground c.args.marks.now) c.args.k c.args.zones.now c.args.cell (sym c.requires.split ∙ c.if-not-split.true)))

pub near-returns-then-not-split-clause-children : goal.near-returns-then-not-split-clause-children
near-returns-then-not-split-clause-children t c = sym (ap (λ r. c.args.children.now.items ++ r) (no_split (listed_ground c.args.marks.now) c.args.k c.args.zones.now c.args.cell (sym c.requires.split ∙ c.if-not-split.true)) ∙ append-nil c.args.children.now.items)

pub near-returns-then-not-split-clause-refs : goal.near-returns-then-not-split-clause-refs
near-returns-then-not-split-clause-refs t c =
    c.in_ok-push-2.ensures.items ∙ ap (λ r. c.args.refs.now.items ++ r)
    (ap (λ r. r ∷ []) c.in_ok-refs_at.ensures ∙ sym (ap (map (refs_here c.args.zones.now)) (leaf_alone (listed_ground c.args.marks.now) c.args.k c.args.zones.now c.args.cell (sym c.requires.split ∙ c.if-not-split.true))))

pub near-returns-then-k-eq0-clause-refs : goal.near-returns-then-k-eq0-clause-refs
near-returns-then-k-eq0-clause-refs t c =
    sym (
    ap (λ r. c.args.refs.now.items ++ map (refs_here c.args.zones.now) r) (no_leaf (listed_ground c.args.marks.now) c.args.k c.args.zones.now c.args.cell (sym c.requires.split ∙ c.if-not-split.false) c.if-k-eq0.true)
    ∙ append-nil c.args.refs.now.items
    )

pub near-returns-clause-refs : goal.near-returns-clause-refs
near-returns-clause-refs t c =
    let some : 0 < c.args.k = omega (arith, c.if-k-eq0.false) in
    four_after c.args.refs.now.items _ _ _ _ c.near_below.new.refs.items c.near_below-2.new.refs.items c.near_below-3.new.refs.items c.near_below-4.new.refs.items
    c.in_ok-near_below.ensures.refs c.in_ok-near_below-2.ensures.refs c.in_ok-near_below-3.ensures.refs c.in_ok-near_below-4.ensures.refs
    ∙ ap (λ r. c.args.refs.now.items ++ r)
    (sym (ap (map (refs_here c.args.zones.now)) (leaves_four (listed_ground c.args.marks.now) c.args.k c.args.zones.now c.args.cell (sym c.requires.split ∙ c.if-not-split.false) some) ∙ map_four (refs_here c.args.zones.now) _ _ _ _))

pub near-returns-then-k-eq0-clause-leaves : goal.near-returns-then-k-eq0-clause-leaves
near-returns-then-k-eq0-clause-leaves t c = sym (ap (λ r. c.args.leaves.now.items ++ r) (no_leaf (listed_ground c.args.marks.now) c.args.k c.args.zones.now c.args.cell (sym c.requires.split ∙ c.if-not-split.false) c.if-k-eq0.true) ∙ append-nil c.args.leaves.now.items)

pub near-returns-then-k-eq0-clause-children : goal.near-returns-then-k-eq0-clause-children
near-returns-then-k-eq0-clause-children t c = c.in_ok-push-3.ensures.items ∙ ap (λ r. c.args.children.now.items ++ r) (sym (split_alone (listed_ground c.args.marks.now) c.args.k c.args.zones.now c.args.cell (sym c.requires.split ∙ c.if-not-split.false) c.if-k-eq0.true))

pub near-returns-clause-leaves : goal.near-returns-clause-leaves
near-returns-clause-leaves t c =
    let some : 0 < c.args.k = omega (arith, c.if-k-eq0.false) in
    four_after c.args.leaves.now.items _ _ _ _ c.near_below.new.leaves.items c.near_below-2.new.leaves.items c.near_below-3.new.leaves.items c.near_below-4.new.leaves.items
    c.in_ok-near_below.ensures.leaves c.in_ok-near_below-2.ensures.leaves c.in_ok-near_below-3.ensures.leaves c.in_ok-near_below-4.ensures.leaves
    ∙ ap (λ r. c.args.leaves.now.items ++ r) (sym (leaves_four (listed_ground c.args.marks.now) c.args.k c.args.zones.now c.args.cell (sym c.requires.split ∙ c.if-not-split.false) some))

pub near-returns-clause-children : goal.near-returns-clause-children
near-returns-clause-children t c =
    let some : 0 < c.args.k = omega (arith, c.if-k-eq0.false) in
    four_after c.args.children.now.items _ _ _ _ c.near_below.new.children.items c.near_below-2.new.children.items c.near_below-3.new.children.items c.near_below-4.new.children.items
    c.in_ok-near_below.ensures.children c.in_ok-near_below-2.ensures.children c.in_ok-near_below-3.ensures.children c.in_ok-near_below-4.ensures.children
    ∙ ap (λ r. c.args.children.now.items ++ r) (sym (splits_four (listed_ground c.args.marks.now) c.args.k c.args.zones.now c.args.cell (sym c.requires.split ∙ c.if-not-split.false) some))

pub near-near_below-requires : goal.near-near_below-requires
near-near_below-requires t c =
    let low : c.args.cell.level < 28 = split_low (listed_ground c.args.marks.now) c.args.zones.now c.args.cell (sym c.requires.split ∙ c.if-not-split.false) in
    let some : 0 < c.args.k = omega (arith, c.if-k-eq0.false) in
    search rules

pub near-near_below-requires-2 : goal.near-near_below-requires-2
near-near_below-requires-2 t c =
    let low : c.args.cell.level < 28 = split_low (listed_ground c.args.marks.now) c.args.zones.now c.args.cell (sym c.requires.split ∙ c.if-not-split.false) in
    let some : 0 < c.args.k = omega (arith, c.if-k-eq0.false) in
    search rules

pub near-near_below-requires-3 : goal.near-near_below-requires-3
near-near_below-requires-3 t c =
    let low : c.args.cell.level < 28 = split_low (listed_ground c.args.marks.now) c.args.zones.now c.args.cell (sym c.requires.split ∙ c.if-not-split.false) in
    let some : 0 < c.args.k = omega (arith, c.if-k-eq0.false) in
    search rules

pub near-near_below-requires-4 : goal.near-near_below-requires-4
near-near_below-requires-4 t c =
    let low : c.args.cell.level < 28 = split_low (listed_ground c.args.marks.now) c.args.zones.now c.args.cell (sym c.requires.split ∙ c.if-not-split.false) in
    let some : 0 < c.args.k = omega (arith, c.if-k-eq0.false) in
    search rules

pub near_below-returns-then-is_apart-clause-leaves : goal.near_below-returns-then-is_apart-clause-leaves
near_below-returns-then-is_apart-clause-leaves t c =
    let g = listed_ground c.args.marks.now in
    let apart : is_apart c.args.frame (hull_of c.child-below.result) ≡ true = ap (is_apart c.args.frame) (sym c.hull-hull.ensures) ∙ sym c.is_apart.ensures ∙ c.if-is_apart.true in
    let whole = apart_whole c.args.marks.now c.args.frame c.args.zones.now c.child-below.result c.requires.framed apart in
    c.in_ok-push.ensures.items ∙ ap (λ r. c.args.leaves.now.items ++ r) (sym (leaf_alone g c.args.k c.args.zones.now c.child-below.result whole) ∙ ap (leaves_near g c.args.k c.args.zones.now) c.child-below.ensures)

pub near_below-returns-then-is_apart-clause-children : goal.near_below-returns-then-is_apart-clause-children
near_below-returns-then-is_apart-clause-children t c =
    let g = listed_ground c.args.marks.now in
    let apart : is_apart c.args.frame (hull_of c.child-below.result) ≡ true = ap (is_apart c.args.frame) (sym c.hull-hull.ensures) ∙ sym c.is_apart.ensures ∙ c.if-is_apart.true in
    let whole = apart_whole c.args.marks.now c.args.frame c.args.zones.now c.child-below.result c.requires.framed apart in
    sym (
    ap (λ r. c.args.children.now.items ++ r) (ap (splits_near g c.args.k c.args.zones.now) (sym c.child-below.ensures) ∙ no_split g c.args.k c.args.zones.now c.child-below.result whole)
    ∙ append-nil c.args.children.now.items
    )

pub near_below-returns-then-is_apart-clause-refs : goal.near_below-returns-then-is_apart-clause-refs
near_below-returns-then-is_apart-clause-refs t c =
    let g = listed_ground c.args.marks.now in
    let apart : is_apart c.args.frame (hull_of c.child-below.result) ≡ true = ap (is_apart c.args.frame) (sym c.hull-hull.ensures) ∙ sym c.is_apart.ensures ∙ c.if-is_apart.true in
    let whole = apart_whole c.args.marks.now c.args.frame c.args.zones.now c.child-below.result c.requires.framed apart in
    let none = apart_refs c.args.marks.now c.args.frame c.args.zones.now c.child-below.result c.requires.framed apart in
    let leaves = sym (leaf_alone g c.args.k c.args.zones.now c.child-below.result whole) ∙ ap (leaves_near g c.args.k c.args.zones.now) c.child-below.ensures in
    c.in_ok-push-2.ensures.items
    ∙ ap (λ r. c.args.refs.now.items ++ r) (ap (λ r. r ∷ []) (c.from_vec.ensures ∙ c.new.ensures.items ∙ sym none) ∙ ap (map (refs_here c.args.zones.now)) leaves)

pub near_below-near-requires : goal.near_below-near-requires
near_below-near-requires t c =
    let cell : IsCell c.child-below.result = rw c.child-below.ensures (child_cell c.args.cell c.args.q c.requires.cell (omega (arith, c.requires.level)) c.requires.quarter) in
    search rules

pub near_below-near-requires-2 : goal.near_below-near-requires-2
near_below-near-requires-2 t c =
    let g = (listed_ground c.args.marks.now) in
    let cell : IsCell c.child-below.result = rw c.child-below.ensures (child_cell c.args.cell c.args.q c.requires.cell (omega (arith, c.requires.level)) c.requires.quarter) in
    let items : c.as_slice.result.now ≡ on g c.args.zones.now c.child-below.result = c.as_slice.ensures.value ∙ c.in_ok-there.ensures.zones in
    let split : c.in_ok-there.there.split ≡ is_split g c.as_slice.result.now c.child-below.result =
    c.in_ok-there.ensures.split ∙ sym (ap (λ r. is_split g r c.child-below.result) items ∙ split_on g c.args.zones.now c.child-below.result) in
    let framed : AreFramed c.args.frame c.as_slice.result.now =
    subst (AreFramed c.args.frame) (sym items) (All-filter (λ (z : Listed). is_on (g.class z c.child-below.result)) (λ (z : Listed). IsFrame c.args.frame z.zone.now.shape) c.args.zones.now c.requires.framed) in
    search rules

pub near_below-returns-clause-leaves : goal.near_below-returns-clause-leaves
near_below-returns-clause-leaves t c =
    let g = (listed_ground c.args.marks.now) in
    let cell : IsCell c.child-below.result = rw c.child-below.ensures (child_cell c.args.cell c.args.q c.requires.cell (omega (arith, c.requires.level)) c.requires.quarter) in
    let items : c.as_slice.result.now ≡ on g c.args.zones.now c.child-below.result = c.as_slice.ensures.value ∙ c.in_ok-there.ensures.zones in
    let same = ap (λ r. leaves_near g c.args.k r c.child-below.result) items ∙ narrow_leaves g (listed_go_down c.args.marks.now) c.args.k c.args.zones.now c.child-below.result cell ∙ ap (leaves_near g c.args.k c.args.zones.now) c.child-below.ensures in
    c.in_ok-near.ensures.leaves ∙ ap (λ r. c.args.leaves.now.items ++ r) same

pub near_below-returns-clause-children : goal.near_below-returns-clause-children
near_below-returns-clause-children t c =
    let g = (listed_ground c.args.marks.now) in
    let cell : IsCell c.child-below.result = rw c.child-below.ensures (child_cell c.args.cell c.args.q c.requires.cell (omega (arith, c.requires.level)) c.requires.quarter) in
    let items : c.as_slice.result.now ≡ on g c.args.zones.now c.child-below.result = c.as_slice.ensures.value ∙ c.in_ok-there.ensures.zones in
    let same = ap (λ r. splits_near g c.args.k r c.child-below.result) items ∙ narrow_splits g (listed_go_down c.args.marks.now) c.args.k c.args.zones.now c.child-below.result cell ∙ ap (splits_near g c.args.k c.args.zones.now) c.child-below.ensures in
    c.in_ok-near.ensures.children ∙ ap (λ r. c.args.children.now.items ++ r) same

pub near_below-returns-clause-refs : goal.near_below-returns-clause-refs
near_below-returns-clause-refs t c =
    let g = (listed_ground c.args.marks.now) in
    let cell : IsCell c.child-below.result = rw c.child-below.ensures (child_cell c.args.cell c.args.q c.requires.cell (omega (arith, c.requires.level)) c.requires.quarter) in
    let items : c.as_slice.result.now ≡ on g c.args.zones.now c.child-below.result = c.as_slice.ensures.value ∙ c.in_ok-there.ensures.zones in
    let same =
    ap (λ r. map (refs_here r) (leaves_near g c.args.k r c.child-below.result)) items
    ∙ ap (map (refs_here (on g c.args.zones.now c.child-below.result))) (narrow_leaves g (listed_go_down c.args.marks.now) c.args.k c.args.zones.now c.child-below.result cell)
    ∙ narrow_refs c.args.marks.now c.args.k c.args.zones.now c.child-below.result cell
    ∙ ap (λ b. map (refs_here c.args.zones.now) (leaves_near g c.args.k c.args.zones.now b)) c.child-below.ensures in
    c.in_ok-near.ensures.refs ∙ ap (λ r. c.args.refs.now.items ++ r) same
