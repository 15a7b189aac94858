-- A list of references that lends its vector.
use Rattle.std.specs.Prelude.{List}
use Rattle.std.specs.Borrow.{Lends, MutBor, Fml, RattleType}
use Rattle.std.specs.declared.vec.Vec.{Vec}
use Rattle.std.specs.declared.alloc.Global.{Global}
use Rattle.std.specs.contracts.alloc.Global as global
use Rattle.std.specs.contracts.vec.Vec as vec
use Rattle.std.specs.contracts.impls.GlobalAllocator.TheImpl.{ghosts}
use Rattle.act_super.specs.declared.refs.ZoneRef.{ZoneRef}
use Rattle.act_super.specs.contracts.refs.ZoneRef as zone_ref
use Rattle.act_super.specs.contracts.refs.ZoneRefs.{the_row}

-- a vector of references, as the logic holds it
abbrev pub vec_row : RattleType
vec_row = vec.the_row zone_ref.the_row global.the_row ghosts

-- the list ends as the last items behind r
abbrev pub LendsItems : MutBor (List ZoneRef) → MutBor (Vec ZoneRef Global) → Fml
LendsItems c r = Lends the_row vec_row c r (λ v. v.items)
