use Rattle.std.specs.Prelude.{◌≡◌, ◌++◌, take}
use Rattle.act_super.specs.Standings.{values}
use Rattle.act_super.proofs.gather.push_all.Given as goal

abbrev pub invariant-loop-one : goal.invariant-loop-one
invariant-loop-one l = values l.refs.items ≡ values l.fn.refs.items ++ take l.one-index l.more
