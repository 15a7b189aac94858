-- A list of cells that lends its vector.
use Rattle.std.specs.Prelude.{List}
use Rattle.std.specs.Borrow.{Lends, MutBor, Fml, RattleType}
use Rattle.std.specs.declared.vec.Vec.{Vec}
use Rattle.std.specs.declared.alloc.Global.{Global}
use Rattle.std.specs.contracts.alloc.Global as global
use Rattle.std.specs.contracts.vec.Vec as vec
use Rattle.std.specs.contracts.impls.GlobalAllocator.TheImpl.{ghosts}
use Rattle.act_grid.specs.Cell.{Address}
use Rattle.act_grid.specs.contracts.cell.Cell as cell
use Rattle.act_cover.specs.contracts.cells.Cells.{the_row}

-- a vector of cells, as the logic holds it
abbrev pub vec_row : RattleType
vec_row = vec.the_row cell.the_row global.the_row ghosts

-- the list ends as the last items behind r
abbrev pub LendsItems : MutBor (List Address) → MutBor (Vec Address Global) → Fml
LendsItems c r = Lends the_row vec_row c r (λ v. v.items)
