-- The cells of a level are cells, no deeper than the level.
use Rattle.std.proofs.Common.{◌≡◌, ℕ, zero, suc, ◌+◌, ◌*◌, ◌^◌, ◌<◌, ◌≤◌, sym, ap, ◌∙◌, subst, arith, List, [], ◌∷◌, get_or, pow-suc}
use Rattle.std.specs.List.{All, flat_map}
use Rattle.std.proofs.lemmas.List.{get_or-map, length-map}
use Rattle.std.proofs.lemmas.List.Elements.{All-nil, All-cons, All-append, All-head, All-tail, All-filter}
use Rattle.act_grid.specs.declared.Point.{Point}
use Rattle.act_grid.specs.Cell.{Address, IsCell, root_cell, child_of}
use Rattle.act_geom.specs.declared.class.Class.{Class}
use Rattle.act_geom.specs.declared.class.Class.TheVariants.{Inside, Outside, Mixed}
use Rattle.act_cover.specs.declared.held.Held.{Held}
use Rattle.act_cover.specs.Covering.{class_at, is_on, children_of, refined_as, refined, cells_at}
use Rattle.act_cover.specs.Held.{IsReached, cells_of}

pub record IsPlaced (level : ℕ) (c : Address) : Type 0 where
  pub cell : IsCell c
  pub below : c.level ≤ level

pub child_cell : (c : Address) (q : ℕ) → IsCell c → c.level < 30 → q < 4 → IsCell (child_of c q)
child_cell c q h l k =
    let e : 4 ^ (c.level + 1) ≡ 4 ^ c.level * 4 = ap (λ n. 4 ^ n) (more c.level) ∙ pow-suc 4 c.level in
    record { deep = omega arith; short = omega (arith, e, h.short) }
  where
    more : (n : ℕ) → n + 1 ≡ suc n
    more n = omega arith

child_placed : (level : ℕ) (c : Address) (q : ℕ) → IsPlaced level c → level < 30 → q < 4 → IsPlaced (suc level) (child_of c q)
child_placed level c q p l k = record { cell = child_cell c q p.cell (omega (arith, p.below)) k; below = omega (arith, p.below) }

all_four : {X : Type 0} (P : X → Type 0) (a b c d : X) → P a → P b → P c → P d → All P (a ∷ b ∷ c ∷ d ∷ [])
all_four P a b c d h i j k =
    All-cons P a (b ∷ c ∷ d ∷ []) h (All-cons P b (c ∷ d ∷ []) i (All-cons P c (d ∷ []) j (All-cons P d [] k (All-nil P))))

refined_placed : (rings : List (List Point)) (level : ℕ) (c : Address) (class : Class) → level < 30 → IsPlaced level c → All (IsPlaced (suc level)) (refined_as class rings c)
refined_placed rings level c Inside l p =
    All-cons (IsPlaced (suc level)) c [] (record { cell = p.cell; below = omega (arith, p.below) }) (All-nil (IsPlaced (suc level)))
refined_placed rings level c Outside l p = All-nil (IsPlaced (suc level))
refined_placed rings level c Mixed l p =
    All-filter (λ (d : Address). is_on (class_at rings d)) (IsPlaced (suc level)) (children_of c)
    (all_four (IsPlaced (suc level)) _ _ _ _ (child_placed level c 0 p l (omega arith)) (child_placed level c 1 p l (omega arith)) (child_placed level c 2 p l (omega arith)) (child_placed level c 3 p l (omega arith)))

pub all_flat : {X Y : Type 0} (f : X → List Y) (Q : X → Type 0) (P : Y → Type 0) → ((x : X) → Q x → All P (f x)) → (xs : List X) → All Q xs → All P (flat_map f xs)
all_flat f Q P each [] h = All-nil P
all_flat f Q P each (x ∷ xs) h = All-append P (f x) (flat_map f xs) (each x (All-head Q x xs h)) (all_flat f Q P each xs (All-tail Q x xs h))

pub placed : (rings : List (List Point)) (level : ℕ) → level ≤ 30 → All (IsPlaced level) (cells_at rings level)
unfolding cells_at
placed rings zero l =
    All-filter (λ (d : Address). is_on (class_at rings d)) (IsPlaced 0) (root_cell ∷ [])
    (All-cons (IsPlaced 0) root_cell [] (record { cell = record { deep = omega arith; short = omega arith }; below = omega arith }) (All-nil (IsPlaced 0)))
placed rings (suc level) l =
    all_flat (refined rings) (IsPlaced level) (IsPlaced (suc level)) (λ c p. refined_placed rings level c (class_at rings c) (omega arith) p)
    (cells_at rings level) (placed rings level (omega arith))

-- each held cell of a level can be split
pub can_split : (rings : List (List Point)) (level : ℕ) (held : List Held) → level < 28 → IsReached rings level held → All (λ (h : Held). h.cell.level < 30) held
can_split rings level held l r k d i =
    let all : All (IsPlaced level) (cells_of held) = subst (λ (cs : List Address). All (IsPlaced level) cs) (sym r.cells) (placed rings level (omega arith)) in
    let at : IsPlaced level (get_or (cells_of held) k d.cell) = all k d.cell (omega (arith, i, length-map held (λ (h : Held). h.cell))) in
    let e : get_or (cells_of held) k d.cell ≡ (get_or held k d).cell = get_or-map (λ (h : Held). h.cell) held k d d.cell i in
    omega (arith, at.below, ap (λ (c : Address). c.level) e)
