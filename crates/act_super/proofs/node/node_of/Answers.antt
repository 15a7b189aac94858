use Rattle.std.proofs.Common.{◌≡◌, sym, ◌∙◌, ap, ◌++◌, map}
use Rattle.act_super.specs.Grounds.{is_split, on}
use Rattle.act_super.specs.NodeParts.{leaves_near, splits_near}
use Rattle.act_super.specs.Listings.{listed_ground, refs_here}
use Rattle.act_super.proofs.NodeFacts.{narrow_leaves, narrow_splits}
use Rattle.act_super.proofs.ListingFacts.{leaves_here, listed_go_down, narrow_refs, splits_here}
use Rattle.act_super.proofs.TreeFacts.{split_on}
use Rattle.act_super.proofs.node.node_of.Goals as goal

pub near-requires-clause-split : goal.near-requires-clause-split
near-requires-clause-split c =
    let items : c.as_slice.result.now ≡ on (listed_ground c.args.marks.now) c.args.zones.now c.args.cell = c.as_slice.ensures.value ∙ c.in_ok-there.ensures.zones in
    c.in_ok-there.ensures.split ∙ sym (ap (λ r. is_split (listed_ground c.args.marks.now) r c.args.cell) items ∙ split_on (listed_ground c.args.marks.now) c.args.zones.now c.args.cell)

pub returns-clause-leaves : goal.returns-clause-leaves
returns-clause-leaves c =
    let items : c.as_slice.result.now ≡ on (listed_ground c.args.marks.now) c.args.zones.now c.args.cell = c.as_slice.ensures.value ∙ c.in_ok-there.ensures.zones in
    let same = ap (λ r. leaves_near (listed_ground c.args.marks.now) 4 r c.args.cell) items ∙ narrow_leaves (listed_ground c.args.marks.now) (listed_go_down c.args.marks.now) 4 c.args.zones.now c.args.cell c.level-level.ensures.cell in
    c.from_vec.ensures ∙ c.in_ok-near.ensures.leaves ∙ ap (λ xs. xs ++ leaves_near (listed_ground c.args.marks.now) 4 c.as_slice.result.now c.args.cell) c.new-leaves.ensures.items ∙ same ∙ leaves_here c.args.marks.now 4 c.args.zones.now c.args.cell

pub returns-clause-children : goal.returns-clause-children
returns-clause-children c =
    let items : c.as_slice.result.now ≡ on (listed_ground c.args.marks.now) c.args.zones.now c.args.cell = c.as_slice.ensures.value ∙ c.in_ok-there.ensures.zones in
    let same = ap (λ r. splits_near (listed_ground c.args.marks.now) 4 r c.args.cell) items ∙ narrow_splits (listed_ground c.args.marks.now) (listed_go_down c.args.marks.now) 4 c.args.zones.now c.args.cell c.level-level.ensures.cell in
    c.from_vec-2.ensures ∙ c.in_ok-near.ensures.children ∙ ap (λ xs. xs ++ splits_near (listed_ground c.args.marks.now) 4 c.as_slice.result.now c.args.cell) c.new-children.ensures.items ∙ same ∙ splits_here c.args.marks.now 4 c.args.zones.now c.args.cell

pub returns-clause-refs : goal.returns-clause-refs
returns-clause-refs c =
    let g = listed_ground c.args.marks.now in
    let items : c.as_slice.result.now ≡ on g c.args.zones.now c.args.cell = c.as_slice.ensures.value ∙ c.in_ok-there.ensures.zones in
    let same = ap (λ r. leaves_near g 4 r c.args.cell) items ∙ narrow_leaves g (listed_go_down c.args.marks.now) 4 c.args.zones.now c.args.cell c.level-level.ensures.cell in
    let leaves = c.from_vec.ensures ∙ c.in_ok-near.ensures.leaves ∙ ap (λ xs. xs ++ leaves_near g 4 c.as_slice.result.now c.args.cell) c.new-leaves.ensures.items ∙ same in
    c.in_ok-near.ensures.refs
    ∙ ap (λ xs. xs ++ map (refs_here c.as_slice.result.now) (leaves_near g 4 c.as_slice.result.now c.args.cell)) c.new-refs.ensures.items
    ∙ ap (λ r. map (refs_here r) (leaves_near g 4 r c.args.cell)) items
    ∙ ap (map (refs_here (on g c.args.zones.now c.args.cell))) (narrow_leaves g (listed_go_down c.args.marks.now) 4 c.args.zones.now c.args.cell c.level-level.ensures.cell)
    ∙ narrow_refs c.args.marks.now 4 c.args.zones.now c.args.cell c.level-level.ensures.cell
    ∙ ap (map (refs_here c.args.zones.now)) (sym leaves)
