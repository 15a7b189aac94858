-- The rule of the table: each number below the word was fetched once, by one seat, and no other number.
use Rattle.std.specs.Prelude.{◌≡◌, ℕ, ◌+◌, ◌^◌, ◌<◌, ◌≤◌, List, [], length, slice_index, sum_by, cond}
use mathlib.Core.Option.{some}
use lib.ListN.{get_elem?}
use Rattle.atomic_table.specs.Table.{State}
use Rattle.act_base.specs.Counting.{times}
use Rattle.act_tally.specs.declared.rule.Sizes.{Sizes}
use Rattle.act_tally.specs.declared.views.Keeper.{Keeper}
use Rattle.act_tally.specs.declared.views.View.{View}
use Rattle.act_tally.specs.declared.views.View.TheVariants.{Keeps, Draws, Spent}

-- the numbers that a seat answers for
abbrev pub fetched_of : View → List ℕ
fetched_of (Keeps q) = q.fetched
fetched_of (Draws t) = t.fetched
fetched_of Spent = []

-- how many claimers are out with a seat
abbrev pub out_of : View → ℕ
out_of (Draws t) = 1
out_of v = 0

-- how many of them may still draw
abbrev pub open_of : View → ℕ
open_of (Draws t) = cond t.ended 0 1
open_of v = 0

-- how many claimers a seat answers for that have met the end
abbrev pub ended_of : View → ℕ
ended_of (Keeps q) = q.ended
ended_of (Draws t) = cond t.ended 1 0
ended_of Spent = 0

-- how often the seats answer for a number
abbrev pub count : List View → ℕ → ℕ
count views x = sum_by (λ v. times (fetched_of v) x) views

-- the claims have the first seat, and each claimer knows how many pieces there are
abbrev pub Knows : Sizes → ℕ → View → Type 0
Knows k seat (Keeps q) = seat ≡ 0
Knows k seat (Draws t) = t.pieces ≡ k.pieces
Knows k seat Spent = Unit {0}

-- the rule of the table
pub record Fair {S : Type 0} (k : Sizes) (s : State S View) : Type 0 where
  -- the first seat is that of the claims
  pub keeper : Keeper
  pub its : get_elem? s.views 0 ≡ some (Keeps keeper)
  -- they know how many pieces and claimers there are
  pub sized : (keeper.pieces ≡ k.pieces) × (keeper.claimers ≡ k.claimers)
  pub limits : (k.pieces < 2 ^ 32) × (k.claimers ≤ 64)
  pub wide : length s.words ≡ 1
  -- each seat knows what is so
  pub each : (seat : ℕ) (v : View) → get_elem? s.views seat ≡ some v → Knows k seat v
  -- each claimer that was handed out is out or taken back
  pub out : sum_by out_of s.views + keeper.taken ≡ keeper.handed
  pub few : keeper.handed ≤ keeper.claimers
  -- those that have met the end, and those that may still draw, were handed out
  pub late : sum_by ended_of s.views + sum_by open_of s.views ≤ keeper.handed
  -- the word is past the pieces by no more than have met the end
  pub low : slice_index s.words 0 ≤ k.pieces + sum_by ended_of s.views
  -- one that has met the end fetched a number past the pieces
  pub high : 0 < sum_by ended_of s.views → k.pieces ≤ slice_index s.words 0
  -- each number below the word was fetched once, and no other
  pub once : (x : ℕ) → x < slice_index s.words 0 → count s.views x ≡ 1
  pub none : (x : ℕ) → slice_index s.words 0 ≤ x → count s.views x ≡ 0

-- the claims as they are made
abbrev pub first_keeper : Sizes → Keeper
first_keeper k = record { pieces = k.pieces; claimers = k.claimers; handed = 0; taken = 0; ended = 0; fetched = [] }

abbrev pub starting : Sizes → View
starting k = Keeps (first_keeper k)
