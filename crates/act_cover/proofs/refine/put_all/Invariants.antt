use Rattle.std.proofs.Common.{take, []}
use Rattle.std.specs.List.{flat_map}
use Rattle.act_cover.specs.Covering.{refined}
use Rattle.act_cover.specs.Held.{IsPut, cells_of}
use Rattle.act_cover.proofs.refine.put_all.Given as goal

-- what the cells so far give way to is put
abbrev pub invariant-loop-held : goal.invariant-loop-held
invariant-loop-held g l = IsPut (g.S.Classes.rings l.shape) l.most [] l.next (flat_map (refined (g.S.Classes.rings l.shape)) (cells_of (take l.held-index l.now)))
