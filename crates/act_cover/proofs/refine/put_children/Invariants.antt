use Rattle.std.proofs.Common.{take}
use Rattle.act_cover.specs.Covering.{cells_on, children_of}
use Rattle.act_cover.specs.Held.{IsPut}
use Rattle.act_cover.proofs.refine.put_children.Given as goal

-- the children so far are put
abbrev pub invariant-loop-q : goal.invariant-loop-q
invariant-loop-q g l = IsPut (g.S.Classes.rings l.shape) l.most l.initial.next l.next (cells_on (g.S.Classes.rings l.shape) (take l.q (children_of l.parent)))
