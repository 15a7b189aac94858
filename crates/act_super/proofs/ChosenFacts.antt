-- The chosen cells of standings are those of their zones.
use Rattle.std.proofs.Common.{◌≡◌, ℕ, zero, suc, ◌*◌, refl, sym, ap, ◌∙◌, arith, cond, ◌&&◌, nat_le, nat_lt, List, [], ◌∷◌, map, count_by, filter, IsPermutation, IsSortedBy}
use mathlib.Core.Path.{fun_ext}
use Rattle.std.proofs.lemmas.List.Elements.{All-filter}
use Rattle.std.proofs.lemmas.List.Sums.{sum_by-cons}
use Rattle.act_grid.specs.declared.Point.{Point}
use Rattle.act_grid.specs.declared.Settings.{Settings}
use Rattle.act_grid.specs.Cell.{Address, IsCell, child_of, root_cell}
use Rattle.act_cover.specs.Covering.{class_at}
use Rattle.act_super.specs.declared.chosen.Choice.{Choice}
use Rattle.act_super.specs.declared.entry.Zone.{Zone}
use Rattle.act_super.specs.declared.standing.Standing.{Standing}
use Rattle.act_super.specs.Choices.{cells_in, choices_for, ranks_before}
use Rattle.act_super.specs.Grounds.{Ground, is_mixed, some_asks, zone_ground}
use Rattle.act_super.specs.Standings.{shapes_in, standing_ground}
use Rattle.act_super.specs.Training.{chosen_among, cost_of, holds, in_order}
use Rattle.act_super.specs.Trees.{leaves_of, leaves_within}
use Rattle.act_super.proofs.ChoiceFacts.{leaves_are_cells}
use Rattle.act_super.proofs.Keyed.{shapes_are}
use Rattle.act_super.proofs.LinkFacts.{same_asked, zone_shapes}
use Rattle.act_super.proofs.OrderFacts.{ranked_cells}
use Rattle.act_super.proofs.StateFacts.{IsHeld, length_shapes}
use Rattle.act_super.proofs.TopFacts.{root_is_cell}

-- the choices in the order of training have the chosen cells
pub chosen_from_ranked : {X : Type 0} (g : Ground X) (items : List X) (sample : List Point) (threshold : ℕ) (found ranked : List Choice)
    → found ≡ choices_for g items sample threshold → IsPermutation found ranked → IsSortedBy ranks_before ranked → cells_in ranked ≡ chosen_among g items sample threshold
unfolding choices_for chosen_among leaves_of
chosen_from_ranked g items sample threshold found ranked e moved sorted =
    let test = λ (c : Address). nat_lt c.level 28 && nat_le threshold (cost_of g items sample c) in
    ranked_cells (cost_of g items sample) (filter test (leaves_within g 28 items root_cell)) found ranked e moved sorted
    (All-filter test IsCell (leaves_within g 28 items root_cell) (leaves_are_cells g 28 items root_cell root_is_cell (omega arith)))

-- where the same cells are split the leaves are the same
same_leaves : {X Y : Type 0} (g : Ground X) (h : Ground Y) (items : List X) (others : List Y) → ((c : Address) → some_asks g c items ≡ some_asks h c others)
    → (n : ℕ) (c : Address) → leaves_within g n items c ≡ leaves_within h n others c
unfolding leaves_within
same_leaves g h items others asked zero c = refl
same_leaves g h items others asked (suc n) c =
    rw (
      asked c,
      same_leaves g h items others asked n (child_of c 0),
      same_leaves g h items others asked n (child_of c 1),
      same_leaves g h items others asked n (child_of c 2),
      same_leaves g h items others asked n (child_of c 3),
    ) refl

same_mixed : (settings : Settings) (trained : List Address) (zones : List Zone) (standings : List Standing) (c : Address) → zone_shapes zones ≡ shapes_in standings
    → count_by (λ x. is_mixed ((standing_ground trained).class x c)) standings ≡ count_by (λ x. is_mixed ((zone_ground settings trained).class x c)) zones
same_mixed settings trained zones standings c e =
    sym (by_shapes standings) ∙ ap (λ shapes. count_by (λ shape. is_mixed (class_at shape c)) shapes) (sym e) ∙ by_zones zones
  where
    by_shapes : (standings : List Standing) → count_by (λ shape. is_mixed (class_at shape c)) (shapes_in standings) ≡ count_by (λ s. is_mixed (class_at s.shape c)) standings
    by_shapes [] = refl
    by_shapes (s ∷ standings) =
        omega (
          arith,
          by_shapes standings,
          sum_by-cons (λ shape. cond (is_mixed (class_at shape c)) 1 0) s.shape (shapes_in standings),
          sum_by-cons (λ (s : Standing). cond (is_mixed (class_at s.shape c)) 1 0) s standings,
        )

    by_zones : (zones : List Zone) → count_by (λ shape. is_mixed (class_at shape c)) (zone_shapes zones) ≡ count_by (λ z. is_mixed (class_at z.shape c)) zones
    by_zones [] = refl
    by_zones (z ∷ zones) =
        omega (
          arith,
          by_zones zones,
          sum_by-cons (λ shape. cond (is_mixed (class_at shape c)) 1 0) z.shape (zone_shapes zones),
          sum_by-cons (λ (z : Zone). cond (is_mixed (class_at z.shape c)) 1 0) z zones,
        )

same_cost : (settings : Settings) (trained : List Address) (zones : List Zone) (standings : List Standing) (sample : List Point) (c : Address) → zone_shapes zones ≡ shapes_in standings
    → cost_of (standing_ground trained) standings sample c ≡ cost_of (zone_ground settings trained) zones sample c
unfolding cost_of
same_cost settings trained zones standings sample c e = ap (λ n. count_by (holds c) sample * n) (same_mixed settings trained zones standings c e)

-- the chosen cells of the standings are those of their zones
pub held_chosen : (settings : Settings) (zones : List Zone) (keys : List ℕ) (standings : List Standing) (trained : List Address) (sample : List Point) (threshold : ℕ) → IsHeld settings zones keys standings
    → chosen_among (standing_ground trained) standings sample threshold ≡ chosen_among (zone_ground settings trained) zones sample threshold
unfolding chosen_among leaves_of
held_chosen settings zones keys standings trained sample threshold h =
    let shapes : zone_shapes zones ≡ shapes_in standings = ap (λ zs. map (λ (z : Zone). z.shape) zs) h.zones_are ∙ shapes_are keys (shapes_in standings) (length_shapes standings ∙ h.lengths) in
    let leaves : leaves_within (standing_ground trained) 28 standings root_cell ≡ leaves_within (zone_ground settings trained) 28 zones root_cell =
    same_leaves (standing_ground trained) (zone_ground settings trained) standings zones (λ c. same_asked settings trained zones standings c shapes h.levels) 28 root_cell in
    let costs : cost_of (standing_ground trained) standings sample ≡ cost_of (zone_ground settings trained) zones sample =
    fun_ext (λ c. same_cost settings trained zones standings sample c shapes) in
    let choose = λ (cost : Address → ℕ) (cells : List Address). in_order cost (filter (λ c. nat_lt c.level 28 && nat_le threshold (cost c)) cells) in
    ap (choose (cost_of (standing_ground trained) standings sample)) leaves ∙ ap (λ cost. choose cost (leaves_within (zone_ground settings trained) 28 zones root_cell)) costs
