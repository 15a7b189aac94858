-- How a view is changed, and what each step tells.
use Rattle.std.specs.Prelude.{◌≡◌, ℕ, ◌+◌, ◌<◌, ◌≤◌, [], ◌∷◌, ◌++◌, false, cond}
use lib.Dec.{leb}
use Rattle.atomic_table.specs.Table.{Me, Step}
use Rattle.act_base.specs.Counting.{times}
use Rattle.act_tally.specs.declared.views.Keeper.{Keeper}
use Rattle.act_tally.specs.declared.views.Drawer.{Drawer}
use Rattle.act_tally.specs.declared.views.View.{View}
use Rattle.act_tally.specs.declared.views.View.TheVariants.{Keeps, Draws, Spent}

-- a claimer that has fetched a number: one that is no piece is the end
abbrev pub drawn : Drawer → ℕ → Drawer
drawn t n = record t { fetched = t.fetched ++ n ∷ []; ended = leb t.pieces n }

-- a claimer as it is handed out
abbrev pub newcomer : Keeper → Drawer
newcomer q = record { pieces = q.pieces; fetched = []; ended = false }

abbrev pub handed_out : Keeper → Keeper
handed_out q = record q { handed = q.handed + 1 }

abbrev pub taken_back : Keeper → Drawer → Keeper
taken_back q t = record q { taken = q.taken + 1; ended = q.ended + cond t.ended 1 0; fetched = q.fetched ++ t.fetched }

-- the pieces that were drawn are those below `upto`, and all pieces if a claimer has met the end
pub record IsWhole (q : Keeper) : Type 0 where
  pub upto : ℕ
  pub within : upto ≤ q.pieces
  pub below : (x : ℕ) → x < upto → times q.fetched x ≡ 1
  pub above : (x : ℕ) → upto ≤ x → x < q.pieces → times q.fetched x ≡ 0
  pub all : 0 < q.ended → upto ≡ q.pieces

abbrev Sat : Type 0 → Type 0
Sat S = Me S View

module _ {S : Type 0} where
  -- draw
  abbrev pub draws : Step S → Sat S → ℕ → Sat S → Type 0
  draws st m n m' = (m'.1 ≡ m.1) × ((t : Drawer) → m.0 ≡ Draws t → (m'.0 ≡ Draws (drawn t n)) × (times t.fetched n ≡ 0))

  -- the load after a claimer is taken back
  abbrev pub checks : Step S → Sat S → ℕ → Sat S → Type 0
  checks st m n m' = (m' ≡ m) × ((q : Keeper) → m.0 ≡ Keeps q → ((x : ℕ) → times q.fetched x ≤ 1) × (q.taken ≡ q.handed → IsWhole q))

-- a claimer is handed out
abbrev pub hands_left : View → View
hands_left (Keeps q) = Keeps (handed_out q)
hands_left v = v

abbrev pub hands_right : View → View
hands_right (Keeps q) = Draws (newcomer q)
hands_right v = Spent

-- a claimer is taken back
abbrev pub takes : View → View → View
takes (Keeps q) (Draws t) = Keeps (taken_back q t)
takes v w = v
