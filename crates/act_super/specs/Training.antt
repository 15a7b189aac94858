-- Which cells are trained.
use Rattle.std.specs.Prelude.{ℕ, ◌*◌, ◌==◌, ◌&&◌, ◌||◌, ◌++◌, Bool, List, [], ◌∷◌, filter, count_by, drop, length, if◌then◌else◌, int_le, nat_le, nat_lt}
use Rattle.act_grid.specs.declared.Point.{Point}
use Rattle.act_grid.specs.declared.Settings.{Settings}
use Rattle.act_grid.specs.Cell.{Address, hull_of, id_of}
use Rattle.act_super.specs.declared.entry.Zone.{Zone}
use Rattle.act_super.specs.declared.entry.State.{State}
use Rattle.act_super.specs.Grounds.{Ground, is_mixed, zone_ground}
use Rattle.act_super.specs.Sizes.{rows_with}
use Rattle.act_super.specs.Trees.{leaves_of}

-- the point is a grid point of the cell
abbrev pub holds : Address → Point → Bool
holds c p =
    let h = hull_of c in
    (int_le h.lo.x p.x && int_le p.x h.hi.x) && (int_le h.lo.y p.y && int_le p.y h.hi.y)

-- the cost of a leaf for a sample: its sample points, times the items that are Mixed on it
unfoldable pub cost_of : {X : Type 0} → Ground X → List X → List Point → Address → ℕ
cost_of g items sample c = count_by (holds c) sample * count_by (λ x. is_mixed (g.class x c)) items

-- the greater cost comes first, and at equal costs the smaller id
abbrev pub is_first : (Address → ℕ) → Address → Address → Bool
is_first cost c d = nat_lt (cost d) (cost c) || (cost c == cost d && nat_lt (id_of c) (id_of d))

-- the cells in this order, with one more
abbrev pub with_cell : (Address → ℕ) → Address → List Address → List Address
with_cell cost c [] = c ∷ []
with_cell cost c (d ∷ cells) = if is_first cost c d then c ∷ d ∷ cells else d ∷ with_cell cost c cells

abbrev pub in_order : (Address → ℕ) → List Address → List Address
in_order cost [] = []
in_order cost (c ∷ cells) = with_cell cost c (in_order cost cells)

-- the leaves above level 28 whose cost is at least the threshold, in this order
unfoldable pub chosen_among : {X : Type 0} → Ground X → List X → List Point → ℕ → List Address
chosen_among g items sample threshold =
    let cost = cost_of g items sample in
    in_order cost (filter (λ c. nat_lt c.level 28 && nat_le threshold (cost c)) (leaves_of g items))

-- those of a state
unfoldable pub chosen_of : Settings → State → List Point → ℕ → List Address
chosen_of settings state sample threshold = chosen_among (zone_ground settings state.trained) state.zones sample threshold

-- how many cells may be trained
abbrev pub most_trained : ℕ
most_trained = 65536

-- these cells may be trained together
abbrev pub fits : Settings → List Zone → List Address → Bool
fits settings zones cells = nat_le (length cells) most_trained && nat_le (rows_with settings zones cells) settings.rows

-- the cells that are trained, when more are taken in order up to the first that doesn't fit
abbrev pub fit_after : Settings → List Zone → List Address → List Address → List Address
fit_after settings zones taken [] = taken
fit_after settings zones taken (c ∷ cells) = if fits settings zones (taken ++ c ∷ []) then fit_after settings zones (taken ++ c ∷ []) cells else taken

-- the Fit of zones and a list of cells
unfoldable pub fit : Settings → List Zone → List Address → List Address
fit settings zones cells = fit_after settings zones [] cells

-- the cells by which training with a sample and a threshold lengthens the trained list
unfoldable pub trained_more : Settings → State → List Point → ℕ → List Address
trained_more settings state sample threshold =
    drop (length state.trained) (fit settings state.zones (state.trained ++ chosen_of settings state sample threshold))
