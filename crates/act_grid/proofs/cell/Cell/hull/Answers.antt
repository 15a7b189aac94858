use Rattle.std.proofs.Common.{◌≡◌, ◌*◌, ◌/◌, ◌^◌, sym, ap, ◌∙◌, arith}
use Rattle.std.proofs.lemmas.Int.{ints}
use Rattle.act_grid.specs.Cell.{Address, column, row, side_of, hull_of}
use Rattle.act_grid.proofs.CellFacts.{top_is, column_at_top, row_at_top, column_fits, reach_is, hull_is}
use Rattle.act_grid.proofs.cell.Cell.hull.Goals as goal

pub overflow_add-west : goal.overflow_add-west
overflow_add-west c =
    let here : Address = record { level = c.self.inside.level; path = c.self.inside.path } in
    let w : c.gather-west.result ≡ column here.level here.path * side_of here = c.gather-west.ensures ∙ column_at_top here _ c.self.invariant (top_is here c.self.invariant) in
    omega (arith, column_fits here.level here.path c.self.invariant.deep, reach_is here.level c.self.invariant.deep)

pub overflow_add-south : goal.overflow_add-south
overflow_add-south c =
    let here : Address = record { level = c.self.inside.level; path = c.self.inside.path } in
    let s : c.gather-south.result ≡ row here.level here.path * side_of here = c.gather-south.ensures ∙ row_at_top here _ c.self.invariant (top_is here c.self.invariant) in
    omega (arith, column_fits here.level (here.path / 2) c.self.invariant.deep, reach_is here.level c.self.invariant.deep)

pub returns : goal.returns
returns c =
    let here : Address = record { level = c.self.inside.level; path = c.self.inside.path } in
    let w : c.gather-west.result ≡ column here.level here.path * side_of here = c.gather-west.ensures ∙ column_at_top here _ c.self.invariant (top_is here c.self.invariant) in
    let s : c.gather-south.result ≡ row here.level here.path * side_of here = c.gather-south.ensures ∙ row_at_top here _ c.self.invariant (top_is here c.self.invariant) in
    sym (hull_is here _ _ (4294967295 / 2 ^ here.level) _ _ _ _ c.self.invariant w s (reach_is here.level c.self.invariant.deep) (omega (arith, ints)) (omega (arith, ints)) (omega (arith, ints)) (omega (arith, ints)))
    ∙ ap hull_of c.self.view_is
