-- The super covering as a tree of cells.
use Rattle.std.specs.Prelude.{ℕ, zero, suc, ◌+◌, ◌-◌, cond, List, [], ◌∷◌, ◌++◌, length, max}
use Rattle.act_grid.specs.Cell.{Address, root_cell, child_of}
use Rattle.act_super.specs.Grounds.{Ground, on, some_asks}

-- a reached cell: a leaf with its number of references, or a split cell with its children
pub data Tree : Type 0 where
  Leaf : ℕ → Tree
  Split : Tree → Tree → Tree → Tree → Tree

-- the part of the super covering from a reached cell down, for at most n more levels
unfoldable pub tree_of : {X : Type 0} → Ground X → ℕ → List X → Address → Tree
tree_of g zero items c = Leaf (length (on g items c))
tree_of g (suc n) items c =
    cond (some_asks g c items)
    (Split (tree_of g n items (child_of c 0)) (tree_of g n items (child_of c 1)) (tree_of g n items (child_of c 2)) (tree_of g n items (child_of c 3)))
    (Leaf (length (on g items c)))

-- the same down to level 28
unfoldable pub under : {X : Type 0} → Ground X → List X → Address → Tree
under g items c = tree_of g (28 - c.level) items c

-- the greatest number of references of a leaf
abbrev pub most : Tree → ℕ
most (Leaf n) = n
most (Split a b c d) = max (max (most a) (most b)) (max (most c) (most d))

-- the number of split cells
abbrev pub splits : Tree → ℕ
splits (Leaf n) = 0
splits (Split a b c d) = splits a + splits b + splits c + splits d + 1

-- the leaves from a reached cell down, in Z order
unfoldable pub leaves_within : {X : Type 0} → Ground X → ℕ → List X → Address → List Address
leaves_within g zero items c = c ∷ []
leaves_within g (suc n) items c =
    cond (some_asks g c items)
    (leaves_within g n items (child_of c 0) ++ leaves_within g n items (child_of c 1) ++ leaves_within g n items (child_of c 2) ++ leaves_within g n items (child_of c 3))
    (c ∷ [])

unfoldable pub leaves_of : {X : Type 0} → Ground X → List X → List Address
leaves_of g items = leaves_within g 28 items root_cell
