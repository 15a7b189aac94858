-- Lists that lend their vectors.
use Rattle.std.specs.Prelude.{List}
use Rattle.std.specs.Borrow.{Lends, MutBor, Fml, RattleType}
use Rattle.std.specs.declared.vec.Vec.{Vec}
use Rattle.std.specs.declared.alloc.Global.{Global}
use Rattle.std.specs.contracts.alloc.Global as global
use Rattle.std.specs.contracts.vec.Vec as vec
use Rattle.std.specs.contracts.impls.GlobalAllocator.TheImpl.{ghosts}
use Rattle.act_index.specs.declared.pairs.Pair.{Pair}
use Rattle.act_index.specs.contracts.pairs.Pair as pair
use Rattle.act_index.specs.contracts.pairs.Pairs as pairs
use Rattle.act_index.specs.declared.changes.Change.{Change}
use Rattle.act_index.specs.contracts.changes.Change as change
use Rattle.act_index.specs.contracts.changes.Changes as changes

-- a vector of pairs, as the logic holds it
abbrev pub pairs_row : RattleType
pairs_row = vec.the_row pair.the_row global.the_row ghosts

-- the list of pairs ends as the last items behind r
abbrev pub LendsPairs : MutBor (List Pair) → MutBor (Vec Pair Global) → Fml
LendsPairs c r = Lends pairs.the_row pairs_row c r (λ v. v.items)

-- a vector of changes, as the logic holds it
abbrev pub changes_row : RattleType
changes_row = vec.the_row change.the_row global.the_row ghosts

-- the list of changes ends as the last items behind r
abbrev pub LendsChanges : MutBor (List Change) → MutBor (Vec Change Global) → Fml
LendsChanges c r = Lends changes.the_row changes_row c r (λ v. v.items)
