use Rattle.std.proofs.Common.{◌≡◌, ◌-◌, ◌++◌, [], ◌∷◌, take}
use Rattle.std.specs.List.{flat_map}
use Rattle.act_super.specs.States.{after}
use Rattle.act_image.specs.Turned.{turned_under}
use Rattle.act_image.proofs.turned.+put_new.Given as goal

abbrev pub decreases-put_new : goal.decreases-put_new
decreases-put_new l = 28 - l.cell.level

abbrev pub invariant-loop-child : goal.invariant-loop-child
invariant-loop-child l =
    l.turned.items
    ≡ (l.fn.turned.items ++ l.fn.cell ∷ []) ++ flat_map (turned_under l.state.settings l.state.state (after l.state.settings l.state.state l.next.entry) l.next.entry) (take l.child-index l.child-items)
