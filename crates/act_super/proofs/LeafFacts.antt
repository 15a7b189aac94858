-- The leaf that holds a point, level by level.
use Rattle.std.proofs.Common.{◌≡◌, ℕ, zero, suc, ◌+◌, ◌-◌, ◌<◌, ◌≤◌, refl, sym, ap, ◌∙◌, arith, true, false, List, [], ◌∷◌, ◌++◌, length, take, drop, map}
use Rattle.std.proofs.lemmas.List.{take-append-drop}
use Rattle.act_grid.specs.declared.Point.{Point}
use Rattle.act_grid.specs.declared.Settings.{Settings}
use Rattle.act_grid.specs.Cell.{Address, child_of, root_cell}
use Rattle.act_super.specs.declared.entry.Zone.{Zone}
use Rattle.act_super.specs.declared.standing.Standing.{Standing}
use Rattle.act_super.specs.Grounds.{Ground, leaf_at, leaf_within, quarter_of, some_asks, zone_ground}
use Rattle.act_super.specs.Standings.{standing_ground, shapes_in}
use Rattle.act_super.proofs.Keyed.{shapes_are}
use Rattle.act_super.proofs.LinkFacts.{same_asked}
use Rattle.act_super.proofs.StateFacts.{IsHeld, joined, length_shapes}

-- the leaf lies below a cell on the way to it
abbrev pub IsOnWay : {X : Type 0} → Ground X → List X → Point → ℕ → Address → Type 0
IsOnWay g items p level c = (leaf_at g items p ≡ leaf_within g (28 - level) items c p) × (c.level ≡ level)

pub way_begins : {X : Type 0} (g : Ground X) (items : List X) (p : Point) (c : Address) → c ≡ root_cell → IsOnWay g items p 0 c
unfolding leaf_at
way_begins g items p c e = (ap (λ d. leaf_within g 28 items d p) (sym e), ap (λ d. d.level) e)

pub way_goes_on : {X : Type 0} (g : Ground X) (items : List X) (p : Point) (level : ℕ) (c d : Address) → level < 28 → some_asks g c items ≡ true
    → IsOnWay g items p level c → d ≡ child_of c (quarter_of c p) → IsOnWay g items p (level + 1) d
unfolding leaf_within
way_goes_on g items p level c d low e way is =
    let n = 27 - level in
    let fuel : 28 - level ≡ suc n = omega arith in
    let less : n ≡ 28 - (level + 1) = omega arith in
    let step : leaf_within g (suc n) items c p ≡ leaf_within g n items (child_of c (quarter_of c p)) p = rw e refl in (
      way.0 ∙ ap (λ m. leaf_within g m items c p) fuel ∙ step ∙ ap (λ m. leaf_within g m items (child_of c (quarter_of c p)) p) less ∙ ap (λ x. leaf_within g (28 - (level + 1)) items x p) (sym is),
      omega (arith, ap (λ (x : Address). x.level) is, way.1),
    )

pub way_ends : {X : Type 0} (g : Ground X) (items : List X) (p : Point) (level : ℕ) (c : Address) → some_asks g c items ≡ false → IsOnWay g items p level c → c ≡ leaf_at g items p
unfolding leaf_within
way_ends {X = X} g items p level c e way = sym (way.0 ∙ at (28 - level))
  where
    at : (n : ℕ) → leaf_within g n items c p ≡ c
    at zero = refl
    at (suc n) = rw e refl

pub way_is_deepest : {X : Type 0} (g : Ground X) (items : List X) (p : Point) (level : ℕ) (c : Address) → 28 ≤ level → IsOnWay g items p level c → c ≡ leaf_at g items p
unfolding leaf_within
way_is_deepest g items p level c deep way =
    let none : 28 - level ≡ 0 = omega arith in
    sym (way.0 ∙ ap (λ m. leaf_within g m items c p) none)

-- where the same cells are split, the same leaf holds the point
same_within : {X Y : Type 0} (g : Ground X) (h : Ground Y) (items : List X) (others : List Y) → ((c : Address) → some_asks g c items ≡ some_asks h c others)
    → (n : ℕ) (c : Address) (p : Point) → leaf_within g n items c p ≡ leaf_within h n others c p
unfolding leaf_within
same_within g h items others asked zero c p = refl
same_within g h items others asked (suc n) c p =
    rw (asked c, same_within g h items others asked n (child_of c (quarter_of c p)) p) refl

-- the leaf of the standings is that of their zones
pub held_leaf : (settings : Settings) (zones : List Zone) (keys : List ℕ) (standings : List Standing) (trained : List Address) (p : Point) → IsHeld settings zones keys standings
    → leaf_at (standing_ground trained) standings p ≡ leaf_at (zone_ground settings trained) zones p
unfolding leaf_at
held_leaf settings zones keys standings trained p h =
    let shapes = ap (λ zs. map (λ (z : Zone). z.shape) zs) h.zones_are ∙ shapes_are keys (shapes_in standings) (length_shapes standings ∙ h.lengths) in
    same_within (standing_ground trained) (zone_ground settings trained) standings zones (λ c. same_asked settings trained zones standings c shapes h.levels) 28 root_cell p

-- all items, put together of those up to the last one and none after it
pub all_again : {X : Type 0} (items : List X) (n : ℕ) → n ≡ length items → take n items ++ [] ++ drop n items ≡ items
all_again items n e = ap (λ xs. xs ++ drop n items) (append_nil (take n items)) ∙ take-append-drop n items
  where
    append_nil : {X : Type 0} (xs : List X) → xs ++ [] ≡ xs
    append_nil [] = refl
    append_nil (x ∷ xs) = ap (λ r. x ∷ r) (append_nil xs)

pub joined_all : (standings : List Standing) (n : ℕ) → n ≡ length standings → joined standings n [] n ≡ standings
joined_all standings n e = all_again standings n e
