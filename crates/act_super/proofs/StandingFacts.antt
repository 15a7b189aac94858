-- Classes of standings.
use Rattle.std.proofs.Common.{Bool, List, ap, length, ℕ, ◌&&◌, ◌<◌, ◌||◌, ◌∙◌, ◌≡◌}
use Rattle.std.specs.Prelude.{nat_lt}
use Rattle.std.specs.Borrow.{Bor}
use Rattle.std.proofs.lemmas.List.{length-map}
use Rattle.act_grid.specs.declared.Point.{Point}
use Rattle.act_grid.specs.Cell.{Address, IsCell, child_of, hull_of}
use Rattle.act_grid.proofs.CellOrder.{child_within}
use Rattle.act_geom.specs.declared.class.Class.{Class}
use Rattle.act_geom.specs.declared.class.Class.TheVariants.{Outside, Mixed}
use Rattle.act_geom.specs.Class.{class_on}
use Rattle.act_geom.proofs.ClassFacts.{class_goes_down}
use Rattle.act_cover.specs.Covering.{class_at}
use Rattle.act_super.specs.declared.standing.Standing.{Standing}
use Rattle.act_super.specs.Grounds.{asks, is_among, is_mixed}
use Rattle.act_super.specs.Standings.{standing_ground, values}
use Rattle.act_super.proofs.TreeFacts.{GoesDown}

-- as many as the references to them
pub length_values : (refs : List (Bor Standing)) → length (values refs) ≡ length refs
length_values refs = length-map refs (λ (r : Bor Standing). r.now)

pub outside_below : (rings : List (List Point)) (c : Address) (q : ℕ) → IsCell c → c.level < 30 → q < 4 → class_at rings c ≡ Outside → class_at rings (child_of c q) ≡ Outside
unfolding class_at
outside_below rings c q cell low four e =
    let pure : class_on rings (hull_of c) ≡ Mixed → ⊥ = λ m. cc in
    class_goes_down rings (hull_of c) (hull_of (child_of c q)) (child_within c q cell low four) pure ∙ e

pub standings_go_down : (trained : List Address) → GoesDown (standing_ground trained)
standings_go_down trained s c q cell low four e = outside_below s.shape c q cell low four e

-- whether a zone asks for the split of a cell, by what is known of both
pub wanted_is : (c : Address) (s : Standing) (trained : List Address) (class : Class) (level : ℕ) (marked wanted : Bool)
    → class ≡ class_at s.shape c → level ≡ c.level → marked ≡ is_among trained c → wanted ≡ (is_mixed class && (nat_lt level s.level || marked))
    → wanted ≡ asks (standing_ground trained) c s
wanted_is c s trained class level marked wanted e f g h =
    h ∙ ap (λ k. is_mixed k && (nat_lt level s.level || marked)) e
    ∙ ap (λ n. is_mixed (class_at s.shape c) && (nat_lt n s.level || marked)) f
    ∙ ap (λ b. is_mixed (class_at s.shape c) && (nat_lt c.level s.level || b)) g
