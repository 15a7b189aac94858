-- Leaves with their costs, as a descent finds them.
use Rattle.std.specs.Prelude.{◌≡◌, ℕ, zero, suc, ◌+◌, ◌-◌, ◌*◌, ◌^◌, ◌++◌, ◌&&◌, ◌||◌, ◌==◌, Bool, cond, List, [], ◌∷◌, count_by, filter, map, nat_le, nat_lt}
use Rattle.act_grid.specs.declared.Point.{Point}
use Rattle.act_grid.specs.Cell.{Address, IsCell, child_of, id_of}
use Rattle.act_super.specs.declared.chosen.Choice.{Choice}
use Rattle.act_super.specs.Grounds.{Ground, is_mixed, some_asks}
use Rattle.act_super.specs.Training.{cost_of, holds}
use Rattle.act_super.specs.Trees.{leaves_of}

-- the id of a cell of level 30 is in the span of a cell exactly where it is part of it
abbrev pub spans : Address → ℕ → Bool
spans c key = nat_le (c.path * 2 ^ (61 - 2 * c.level)) key && nat_lt key ((c.path + 1) * 2 ^ (61 - 2 * c.level))

-- the keys stand for the points: in the span of each cell are as many as it holds points
pub record StandFor (keys : List ℕ) (sample : List Point) : Type 0 where
  pub counts : (c : Address) → IsCell c → count_by (spans c) keys ≡ count_by (holds c) sample

-- the cost of a cell by keys
abbrev pub cost_by : {X : Type 0} → Ground X → List X → List ℕ → Address → ℕ
cost_by g items keys c = count_by (spans c) keys * count_by (λ x. is_mixed (g.class x c)) items

-- the cell with its cost, where it lies above level 28 and its cost is at least the threshold
abbrev pub choice_of : Address → ℕ → ℕ → List Choice
choice_of c threshold cost = cond (nat_lt c.level 28 && nat_le threshold cost) (record { cost = cost; cell = c } ∷ []) []

abbrev pub choice_at : {X : Type 0} → Ground X → List X → List ℕ → ℕ → Address → List Choice
choice_at g items keys threshold c = choice_of c threshold (cost_by g items keys c)

-- the choices among the leaves from a reached cell down, for at most n more levels
unfoldable pub choices_within : {X : Type 0} → Ground X → ℕ → List X → List ℕ → ℕ → Address → List Choice
choices_within g zero items keys threshold c = choice_at g items keys threshold c
choices_within g (suc n) items keys threshold c =
    cond (some_asks g c items)
    (choices_within g n items keys threshold (child_of c 0) ++ choices_within g n items keys threshold (child_of c 1)
    ++ choices_within g n items keys threshold (child_of c 2) ++ choices_within g n items keys threshold (child_of c 3))
    (choice_at g items keys threshold c)

-- the same down to level 28
unfoldable pub choices_under : {X : Type 0} → Ground X → List X → List ℕ → ℕ → Address → List Choice
choices_under g items keys threshold c = choices_within g (28 - c.level) items keys threshold c

-- those under the four children of a cell
abbrev pub choices_of_four : {X : Type 0} → Ground X → List X → List ℕ → ℕ → Address → List Choice
choices_of_four g items keys threshold c =
    choices_under g items keys threshold (child_of c 0) ++ choices_under g items keys threshold (child_of c 1)
    ++ choices_under g items keys threshold (child_of c 2) ++ choices_under g items keys threshold (child_of c 3)

-- the choices among all leaves for a sample, in Z order
unfoldable pub choices_for : {X : Type 0} → Ground X → List X → List Point → ℕ → List Choice
choices_for g items sample threshold =
    let cost = cost_of g items sample in
    map (λ c. record { cost = cost c; cell = c }) (filter (λ c. nat_lt c.level 28 && nat_le threshold (cost c)) (leaves_of g items))

-- the greater cost ranks first, and at equal costs the smaller id
abbrev pub ranks_before : Choice → Choice → Bool
ranks_before a b = nat_lt b.cost a.cost || (a.cost == b.cost && nat_lt (id_of a.cell) (id_of b.cell))

abbrev pub cells_in : List Choice → List Address
cells_in choices = map (λ (choice : Choice). choice.cell) choices
