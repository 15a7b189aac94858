-- The leaves and the child nodes of a node, by the items on its cells.
use Rattle.std.proofs.Common.{◌≡◌, ℕ, zero, suc, ◌-◌, ◌<◌, ◌⊎◌, inl, inr, refl, sym, ap, ◌∙◌, arith, append_assoc, Bool, true, false, ◌&&◌, cond, List, [], ◌∷◌, ◌++◌, map}
use Rattle.std.specs.Prelude.{nat_lt}
use Rattle.std.proofs.lemmas.List.{map-append}
use Rattle.act_grid.specs.declared.Settings.{Settings}
use Rattle.act_grid.specs.Cell.{Address, IsCell, child_of}
use Rattle.act_cover.proofs.Placed.{child_cell}
use Rattle.act_super.specs.declared.entry.Zone.{Zone}
use Rattle.act_super.specs.declared.standing.Standing.{Standing}
use Rattle.act_super.specs.Grounds.{Ground, is_split, on, some_asks, zone_ground}
use Rattle.act_super.specs.NodeParts.{leaves_near, splits_near}
use Rattle.act_super.specs.Standings.{shapes_in, standing_ground}
use Rattle.act_super.proofs.Keyed.{shapes_are}
use Rattle.act_super.proofs.LinkFacts.{same_asked}
use Rattle.act_super.proofs.StateFacts.{IsHeld, length_shapes}
use Rattle.act_super.proofs.TreeFacts.{GoesDown, on_again, on_below, split_on}
use Rattle.act_super.proofs.UnderFacts.{split_low}

same_split : {X : Type 0} (g : Ground X) (items others : List X) (c : Address) → on g items c ≡ on g others c → is_split g items c ≡ is_split g others c
same_split g items others c e = sym (split_on g items c) ∙ ap (λ r. is_split g r c) e ∙ split_on g others c

cases : (b : Bool) → (b ≡ true) ⊎ (b ≡ false)
cases true = inl refl
cases false = inr refl

pub map_four : {X Y : Type 0} (f : X → Y) (a b d e : List X) → map f (a ++ b ++ d ++ e) ≡ map f a ++ map f b ++ map f d ++ map f e
map_four f a b d e =
    map-append f (a ++ b ++ d) e ∙ ap (λ x. x ++ map f e) (map-append f (a ++ b) d ∙ ap (λ x. x ++ map f d) (map-append f a b))

module _ {X : Type 0} (g : Ground X) (down : GoesDown g) where
  same_below : (items others : List X) (c : Address) (q : ℕ) → IsCell c → c.level < 30 → q < 4 → on g items c ≡ on g others c → on g items (child_of c q) ≡ on g others (child_of c q)
  same_below items others c q cell low four e = sym (on_below g down items c q cell low four) ∙ ap (λ r. on g r (child_of c q)) e ∙ on_below g down others c q cell low four

  pub same_leaves : (k : ℕ) (items others : List X) (c : Address) → IsCell c → on g items c ≡ on g others c → leaves_near g k items c ≡ leaves_near g k others c
  unfolding leaves_near
  same_leaves zero items others c cell e = ap (λ b. cond b [] (c ∷ [])) (same_split g items others c e)
  same_leaves (suc k) items others c cell e =
      let test = same_split g items others c e in
      elim (cases (is_split g others c)) [
        | inl s ↦
            let low = split_low g others c s in
            let sub : (q : ℕ) → q < 4 → leaves_near g k items (child_of c q) ≡ leaves_near g k others (child_of c q) =
            λ q four. same_leaves k items others (child_of c q) (child_cell c q cell (omega arith) four) (same_below items others c q cell (omega arith) four e) in
            rw (test, s, sub 0 (omega arith), sub 1 (omega arith), sub 2 (omega arith), sub 3 (omega arith)) refl
        | inr s ↦ rw (test, s) refl
      ]

  pub same_splits : (k : ℕ) (items others : List X) (c : Address) → IsCell c → on g items c ≡ on g others c → splits_near g k items c ≡ splits_near g k others c
  unfolding splits_near
  same_splits zero items others c cell e = ap (λ b. cond b (c ∷ []) []) (same_split g items others c e)
  same_splits (suc k) items others c cell e =
      let test = same_split g items others c e in
      elim (cases (is_split g others c)) [
        | inl s ↦
            let low = split_low g others c s in
            let sub : (q : ℕ) → q < 4 → splits_near g k items (child_of c q) ≡ splits_near g k others (child_of c q) =
            λ q four. same_splits k items others (child_of c q) (child_cell c q cell (omega arith) four) (same_below items others c q cell (omega arith) four e) in
            rw (test, s, sub 0 (omega arith), sub 1 (omega arith), sub 2 (omega arith), sub 3 (omega arith)) refl
        | inr s ↦ rw (test, s) refl
      ]

  -- the items on the cell are enough
  pub narrow_leaves : (k : ℕ) (items : List X) (c : Address) → IsCell c → leaves_near g k (on g items c) c ≡ leaves_near g k items c
  narrow_leaves k items c cell = same_leaves k (on g items c) items c cell (on_again g items c)

  pub narrow_splits : (k : ℕ) (items : List X) (c : Address) → IsCell c → splits_near g k (on g items c) c ≡ splits_near g k items c
  narrow_splits k items c cell = same_splits k (on g items c) items c cell (on_again g items c)

  -- what the items on a cell decide of the leaves in it is the same of those on the cell alone
  pub narrow_equal : {R : Type 0} (r : List X → Address → R) → ((items others : List X) (c : Address) → on g items c ≡ on g others c → r items c ≡ r others c)
      → (k : ℕ) (items : List X) (c : Address) → IsCell c → map (r (on g items c)) (leaves_near g k items c) ≡ map (r items) (leaves_near g k items c)
  unfolding leaves_near
  narrow_equal r same k items c cell = equal k (on g items c) items c cell (on_again g items c)
    where
      equal : (k : ℕ) (some others : List X) (c : Address) → IsCell c → on g some c ≡ on g others c → map (r some) (leaves_near g k items c) ≡ map (r others) (leaves_near g k items c)
      equal zero some others c cell e =
          elim (cases (is_split g items c)) [
            | inl s ↦ rw s refl
            | inr s ↦ rw s (ap (λ x. x ∷ []) (same some others c e))
          ]
      equal (suc k) some others c cell e =
          elim (cases (is_split g items c)) [
            | inl s ↦
                let low = split_low g items c s in
                let sub : (q : ℕ) → q < 4 → map (r some) (leaves_near g k items (child_of c q)) ≡ map (r others) (leaves_near g k items (child_of c q)) =
                λ q four. equal k some others (child_of c q) (child_cell c q cell (omega arith) four) (same_below some others c q cell (omega arith) four e) in
                rw (s, map_four (r some) (leaves_near g k items (child_of c 0)) (leaves_near g k items (child_of c 1)) (leaves_near g k items (child_of c 2)) (leaves_near g k items (child_of c 3)), map_four (r others) (leaves_near g k items (child_of c 0)) (leaves_near g k items (child_of c 1)) (leaves_near g k items (child_of c 2)) (leaves_near g k items (child_of c 3)), sub 0 (omega arith), sub 1 (omega arith), sub 2 (omega arith), sub 3 (omega arith)) refl
            | inr s ↦ rw s (ap (λ x. x ∷ []) (same some others c e))
          ]

pub leaf_alone : {X : Type 0} (g : Ground X) (k : ℕ) (items : List X) (c : Address) → is_split g items c ≡ false → leaves_near g k items c ≡ c ∷ []
unfolding leaves_near
leaf_alone g zero items c e = rw e refl
leaf_alone g (suc k) items c e = rw e refl

pub no_split : {X : Type 0} (g : Ground X) (k : ℕ) (items : List X) (c : Address) → is_split g items c ≡ false → splits_near g k items c ≡ []
unfolding splits_near
no_split g zero items c e = rw e refl
no_split g (suc k) items c e = rw e refl

pub no_leaf : {X : Type 0} (g : Ground X) (k : ℕ) (items : List X) (c : Address) → is_split g items c ≡ true → k ≡ 0 → leaves_near g k items c ≡ []
unfolding leaves_near
no_leaf g k items c e z = ap (λ n. leaves_near g n items c) z ∙ rw e refl

pub split_alone : {X : Type 0} (g : Ground X) (k : ℕ) (items : List X) (c : Address) → is_split g items c ≡ true → k ≡ 0 → splits_near g k items c ≡ c ∷ []
unfolding splits_near
split_alone g k items c e z = ap (λ n. splits_near g n items c) z ∙ rw e refl

-- four lists one after the other
pub four_after : {X : Type 0} (before a b d e x1 x2 x3 x4 : List X) → x1 ≡ before ++ a → x2 ≡ x1 ++ b → x3 ≡ x2 ++ d → x4 ≡ x3 ++ e → x4 ≡ before ++ (a ++ b ++ d ++ e)
four_after before a b d e x1 x2 x3 x4 p q r s =
    s ∙ ap (λ x. x ++ e) (r ∙ ap (λ x. x ++ d) (q ∙ ap (λ x. x ++ b) p))
    ∙ ap (λ x. (x ++ d) ++ e) (append_assoc before a b) ∙ ap (λ x. x ++ e) (append_assoc before (a ++ b) d) ∙ append_assoc before (a ++ b ++ d) e

pub leaves_four : {X : Type 0} (g : Ground X) (k : ℕ) (items : List X) (c : Address) → is_split g items c ≡ true → 0 < k
    → leaves_near g k items c ≡ leaves_near g (k - 1) items (child_of c 0) ++ leaves_near g (k - 1) items (child_of c 1) ++ leaves_near g (k - 1) items (child_of c 2) ++ leaves_near g (k - 1) items (child_of c 3)
unfolding leaves_near
leaves_four g zero items c e h = absurd (omega arith)
leaves_four g (suc k) items c e h = let f : suc k - 1 ≡ k = omega arith in rw (f, e) refl

pub splits_four : {X : Type 0} (g : Ground X) (k : ℕ) (items : List X) (c : Address) → is_split g items c ≡ true → 0 < k
    → splits_near g k items c ≡ splits_near g (k - 1) items (child_of c 0) ++ splits_near g (k - 1) items (child_of c 1) ++ splits_near g (k - 1) items (child_of c 2) ++ splits_near g (k - 1) items (child_of c 3)
unfolding splits_near
splits_four g zero items c e h = absurd (omega arith)
splits_four g (suc k) items c e h = let f : suc k - 1 ≡ k = omega arith in rw (f, e) refl

-- where the same cells are split the nodes are the same
module _ {X Y : Type 0} (g : Ground X) (h : Ground Y) (items : List X) (others : List Y) (asked : (c : Address) → some_asks g c items ≡ some_asks h c others) where
  split_same : (c : Address) → is_split g items c ≡ is_split h others c
  split_same c = ap (λ b. nat_lt c.level 28 && b) (asked c)

  pub leaves_same : (k : ℕ) (c : Address) → leaves_near g k items c ≡ leaves_near h k others c
  unfolding leaves_near
  leaves_same zero c = ap (λ b. cond b [] (c ∷ [])) (split_same c)
  leaves_same (suc k) c = rw (split_same c, leaves_same k (child_of c 0), leaves_same k (child_of c 1), leaves_same k (child_of c 2), leaves_same k (child_of c 3)) refl

  pub splits_same : (k : ℕ) (c : Address) → splits_near g k items c ≡ splits_near h k others c
  unfolding splits_near
  splits_same zero c = ap (λ b. cond b (c ∷ []) []) (split_same c)
  splits_same (suc k) c = rw (split_same c, splits_same k (child_of c 0), splits_same k (child_of c 1), splits_same k (child_of c 2), splits_same k (child_of c 3)) refl

-- the node of the standings is that of their zones
pub held_leaves : (settings : Settings) (zones : List Zone) (keys : List ℕ) (standings : List Standing) (trained : List Address) (c : Address) → IsHeld settings zones keys standings
    → leaves_near (standing_ground trained) 4 standings c ≡ leaves_near (zone_ground settings trained) 4 zones c
held_leaves settings zones keys standings trained c h =
    let shapes = ap (λ zs. map (λ (z : Zone). z.shape) zs) h.zones_are ∙ shapes_are keys (shapes_in standings) (length_shapes standings ∙ h.lengths) in
    leaves_same (standing_ground trained) (zone_ground settings trained) standings zones (λ d. same_asked settings trained zones standings d shapes h.levels) 4 c

pub held_splits : (settings : Settings) (zones : List Zone) (keys : List ℕ) (standings : List Standing) (trained : List Address) (c : Address) → IsHeld settings zones keys standings
    → splits_near (standing_ground trained) 4 standings c ≡ splits_near (zone_ground settings trained) 4 zones c
held_splits settings zones keys standings trained c h =
    let shapes = ap (λ zs. map (λ (z : Zone). z.shape) zs) h.zones_are ∙ shapes_are keys (shapes_in standings) (length_shapes standings ∙ h.lengths) in
    splits_same (standing_ground trained) (zone_ground settings trained) standings zones (λ d. same_asked settings trained zones standings d shapes h.levels) 4 c
