-- The rows of a new image: those that stay and those that come.
use Rattle.std.specs.Prelude.{◌≡◌, ℕ, ◌+◌, ◌<◌, ◌^◌, List, [], ◌∷◌, length}
use Rattle.act_image.specs.declared.slots.Slot.{Slot}
use Rattle.act_image.specs.declared.slots.Slot.TheVariants as slot

-- the rows that stay
abbrev pub kept_of : List Slot → List ℕ
kept_of [] = []
kept_of (slot.Kept r ∷ slots) = r ∷ kept_of slots
kept_of (slot.New ∷ slots) = kept_of slots

-- where the new rows stand, counted from k
abbrev pub new_places : ℕ → List Slot → List ℕ
new_places k [] = []
new_places k (slot.Kept r ∷ slots) = new_places (k + 1) slots
new_places k (slot.New ∷ slots) = k ∷ new_places (k + 1) slots

-- the numbers of all rows, where the new ones have these in their order
abbrev pub with_rows : List Slot → List ℕ → List ℕ
with_rows [] rows = []
with_rows (slot.Kept r ∷ slots) rows = r ∷ with_rows slots rows
with_rows (slot.New ∷ slots) [] = 0 ∷ with_rows slots []
with_rows (slot.New ∷ slots) (x ∷ rows) = x ∷ with_rows slots rows

-- there is room for the numbers of all rows, and of the new ones
pub record IsLaidOut (slots : List Slot) (all rows : List ℕ) : Type 0 where
  pub numbered : length all ≡ length slots
  pub counted : length rows ≡ length (new_places 0 slots)
  pub few : length rows < 2 ^ 32
