-- The leaves and the child nodes of a node.
use Rattle.std.specs.Prelude.{ℕ, zero, suc, cond, List, [], ◌∷◌, ◌++◌}
use Rattle.act_grid.specs.Cell.{Address, child_of}
use Rattle.act_super.specs.Grounds.{Ground, is_split}

-- the leaves within k levels of a reached cell, in Z order
unfoldable pub leaves_near : {X : Type 0} → Ground X → ℕ → List X → Address → List Address
leaves_near g zero items c = cond (is_split g items c) [] (c ∷ [])
leaves_near g (suc k) items c =
    cond (is_split g items c)
    (leaves_near g k items (child_of c 0) ++ leaves_near g k items (child_of c 1) ++ leaves_near g k items (child_of c 2) ++ leaves_near g k items (child_of c 3))
    (c ∷ [])

-- the split cells k levels below a reached cell, in Z order: each has a node of its own
unfoldable pub splits_near : {X : Type 0} → Ground X → ℕ → List X → Address → List Address
splits_near g zero items c = cond (is_split g items c) (c ∷ []) []
splits_near g (suc k) items c =
    cond (is_split g items c)
    (splits_near g k items (child_of c 0) ++ splits_near g k items (child_of c 1) ++ splits_near g k items (child_of c 2) ++ splits_near g k items (child_of c 3))
    []
