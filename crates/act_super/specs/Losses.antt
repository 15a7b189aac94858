-- How many rows may fall away where trained cells are split, at most.
use Rattle.std.specs.Prelude.{◌≡◌, ℕ, zero, suc, ◌+◌, ◌-◌, Bool, true, cond, nat_lt, List, length}
use Rattle.act_grid.specs.Cell.{Address, child_of}
use Rattle.act_super.specs.Grounds.{Ground, is_among, on, some_asks}

-- the first cells are among the second
abbrev pub AreAmong : List Address → List Address → Type 0
AreAmong some all = (c : Address) → is_among some c ≡ true → is_among all c ≡ true

-- the rows by which a list of so many references moves those behind it, at most: one of less than 255 takes half a row
abbrev pub loss : ℕ → ℕ
loss n = cond (nat_lt n 3) 0 (cond (nat_lt n 255) 1 2)

-- what a split cell had as a leaf, where it is trained and not one of the old cells
abbrev pub loss_at : Bool → Bool → ℕ → ℕ
loss_at trained old n = cond trained (cond old 0 (loss n)) 0

-- the same for all split cells from a reached one down, for at most n more levels
unfoldable pub losses_of : {X : Type 0} → Ground X → (Address → Bool) → ℕ → List X → Address → ℕ
losses_of g old zero items c = 0
losses_of g old (suc n) items c =
    cond (some_asks g c items)
    (
    loss_at (g.trained c) (old c) (length (on g items c))
    + (losses_of g old n items (child_of c 0) + losses_of g old n items (child_of c 1) + losses_of g old n items (child_of c 2) + losses_of g old n items (child_of c 3))
    )
    0

-- the same down to level 28
unfoldable pub losses : {X : Type 0} → Ground X → (Address → Bool) → List X → Address → ℕ
losses g old items c = losses_of g old (28 - c.level) items c

-- those under a child, by the items on it alone
abbrev pub part_losses : {X : Type 0} → Ground X → (Address → Bool) → List X → Address → ℕ → ℕ
part_losses g old items c q = losses g old (on g items (child_of c q)) (child_of c q)
