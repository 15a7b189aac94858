use Rattle.std.proofs.Common.{◌≡◌, ◌++◌, map, take}
use Rattle.act_image.specs.Paths.{source_in}
use Rattle.act_image.proofs.path.push_sources.Given as goal

abbrev pub invariant-loop-i : goal.invariant-loop-i
invariant-loop-i l = l.sources.items ≡ l.fn.sources.items ++ map (source_in l.nodes l.turned) (take l.i l.cells)
