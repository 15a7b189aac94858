-- What a descent from the root tells.
use Rattle.std.proofs.Common.{◌≡◌, ℕ, ◌+◌, ap, ◌∙◌, arith, List}
use Rattle.std.specs.Prelude.{sum_by}
use Rattle.act_grid.specs.Cell.{Address, IsCell, root_cell}
use Rattle.act_super.specs.declared.pack.Pack.{Pack}
use Rattle.act_super.specs.declared.standing.Standing.{Standing}
use Rattle.act_super.specs.Grounds.{on}
use Rattle.act_super.specs.Packs.{empty_pack, inner, node_rows, put_tree}
use Rattle.act_super.specs.Sizes.{chain_rows}
use Rattle.act_super.specs.Standings.{standing_ground, standing_rows}
use Rattle.act_super.specs.Trees.{most, under}
use Rattle.act_super.proofs.LinkFacts.{narrow_under}
use Rattle.act_super.proofs.StandingFacts.{standings_go_down}

pub root_is_cell : IsCell root_cell
root_is_cell = record { deep = omega arith; short = omega arith }

-- the part under the root, by the zones on it
pub top_under : (trained : List Address) (zones here : List Standing) (root : Address) → root ≡ root_cell → here ≡ on (standing_ground trained) zones root
    → under (standing_ground trained) here root ≡ under (standing_ground trained) zones root_cell
top_under trained zones here root r h =
    ap (λ c. under (standing_ground trained) here c) r
    ∙ ap (λ xs. under (standing_ground trained) xs root_cell) (h ∙ ap (λ c. on (standing_ground trained) zones c) r)
    ∙ narrow_under (standing_ground trained) (standings_go_down trained) zones root_cell root_is_cell (omega arith)

pub top_rows : (marks : List Address) (zones here : List Standing) (root : Address) (first last : Pack) (below chains : ℕ)
    → root ≡ root_cell → here ≡ on (standing_ground marks) zones root → first ≡ empty_pack
    → last ≡ put_tree 4 first (under (standing_ground marks) here root) → below ≡ inner 4 (under (standing_ground marks) here root)
    → chains ≡ sum_by (λ (s : Standing). chain_rows s.shape) zones
    → 1 + last.rows + below + chains ≡ standing_rows marks zones
unfolding standing_rows
top_rows marks zones here root first last below chains r h e put inside sum =
    let t = top_under marks zones here root r h in
    let rows : last ≡ put_tree 4 empty_pack (under (standing_ground marks) zones root_cell) =
    put ∙ ap (λ s. put_tree 4 s (under (standing_ground marks) here root)) e ∙ ap (put_tree 4 empty_pack) t in
    let nodes : 1 + last.rows + below ≡ node_rows (under (standing_ground marks) zones root_cell) =
    omega (arith, ap (λ (s : Pack). s.rows) rows, inside ∙ ap (inner 4) t) in
    omega (arith, nodes, sum)

pub top_most : (marks : List Address) (zones here : List Standing) (root : Address) → root ≡ root_cell → here ≡ on (standing_ground marks) zones root
    → most (under (standing_ground marks) here root) ≡ most (under (standing_ground marks) zones root_cell)
top_most marks zones here root r h = ap most (top_under marks zones here root r h)
