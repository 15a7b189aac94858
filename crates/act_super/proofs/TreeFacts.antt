-- What the part of the super covering under a cell depends on.
use Rattle.std.proofs.Common.{◌≡◌, ℕ, zero, suc, ◌+◌, ◌<◌, ◌≤◌, refl, sym, ap, ◌∙◌, arith, Bool, true, false, cond, ◌&&◌, ◌||◌, List, [], ◌∷◌, length}
use Rattle.std.specs.Prelude.{nat_lt}
use Rattle.std.specs.List.{filter}
use Rattle.act_grid.specs.Cell.{Address, IsCell, child_of}
use Rattle.act_geom.specs.declared.class.Class.{Class}
use Rattle.act_geom.specs.declared.class.Class.TheVariants.{Inside, Outside, Mixed}
use Rattle.act_cover.specs.Covering.{is_on}
use Rattle.act_cover.proofs.Placed.{child_cell}
use Rattle.act_super.specs.Grounds.{Ground, is_mixed, is_split, on, some_asks}
use Rattle.act_super.specs.Trees.{tree_of}
use Rattle.act_super.specs.Trees.Tree.{Leaf}

-- what is Outside on a cell is so on its children
abbrev pub GoesDown : {X : Type 0} → Ground X → Type 0
GoesDown {X = X} g = (x : X) (c : Address) (q : ℕ) → IsCell c → c.level < 30 → q < 4 → g.class x c ≡ Outside → g.class x (child_of c q) ≡ Outside

-- a filter after a weaker one
pub filter_twice : {X : Type 0} (p q : X → Bool) (items : List X) → ((x : X) → p x ≡ false → q x ≡ false) → filter q (filter p items) ≡ filter q items
filter_twice p q [] h = refl
filter_twice p q (x ∷ items) h = step (filter_twice p q items h) (p x) refl
  where
    step : filter q (filter p items) ≡ filter q items → (b : Bool) → p x ≡ b → filter q (cond b (x ∷ filter p items) (filter p items)) ≡ cond (q x) (x ∷ filter q items) (filter q items)
    step r true e = ap (λ r. cond (q x) (x ∷ r) r) r
    step r false e = rw (h x e) r

off : (x : Class) → is_on x ≡ false → x ≡ Outside
off Inside e = cc
off Outside e = refl
off Mixed e = cc

pub on_again : {X : Type 0} (g : Ground X) (items : List X) (c : Address) → on g (on g items c) c ≡ on g items c
on_again g items c = filter_twice (λ x. is_on (g.class x c)) (λ x. is_on (g.class x c)) items (λ x e. e)

pub on_below : {X : Type 0} (g : Ground X) → GoesDown g → (items : List X) (c : Address) (q : ℕ) → IsCell c → c.level < 30 → q < 4
    → on g (on g items c) (child_of c q) ≡ on g items (child_of c q)
on_below g down items c q cell low four =
    filter_twice (λ x. is_on (g.class x c)) (λ x. is_on (g.class x (child_of c q))) items (λ x e. ap is_on (down x c q cell low four (off (g.class x c) e)))

pub asks_on : {X : Type 0} (g : Ground X) (c : Address) (items : List X) → some_asks g c (on g items c) ≡ some_asks g c items
asks_on g c [] = refl
asks_on g c (x ∷ items) = step (asks_on g c items) (g.class x c) refl
  where
    step : some_asks g c (on g items c) ≡ some_asks g c items → (k : Class) → g.class x c ≡ k
        → some_asks g c (cond (is_on k) (x ∷ on g items c) (on g items c)) ≡ (is_mixed k && (nat_lt c.level (g.level x) || g.trained c)) || some_asks g c items
    step r Inside e = rw e r
    step r Outside e = r
    step r Mixed e = rw e (ap (λ r. (nat_lt c.level (g.level x) || g.trained c) || r) r)

pub split_on : {X : Type 0} (g : Ground X) (items : List X) (c : Address) → is_split g (on g items c) c ≡ is_split g items c
split_on g items c = ap (λ b. nat_lt c.level 28 && b) (asks_on g c items)

-- the items on a cell decide all that stands under it
pub same_tree : {X : Type 0} (g : Ground X) → GoesDown g → (n : ℕ) (items others : List X) (c : Address) → IsCell c → c.level + n ≤ 30
    → on g items c ≡ on g others c → tree_of g n items c ≡ tree_of g n others c
unfolding tree_of
same_tree g down zero items others c cell low e = ap (λ r. Leaf (length r)) e
same_tree g down (suc n) items others c cell low e =
    let here : c.level < 30 = omega arith in
    let below : (q : ℕ) → q < 4 → on g items (child_of c q) ≡ on g others (child_of c q) =
    λ q four. sym (on_below g down items c q cell here four) ∙ ap (λ r. on g r (child_of c q)) e ∙ on_below g down others c q cell here four in
    let sub : (q : ℕ) → q < 4 → tree_of g n items (child_of c q) ≡ tree_of g n others (child_of c q) =
    λ q four. same_tree g down n items others (child_of c q) (child_cell c q cell here four) (omega arith) (below q four) in
    let test : some_asks g c items ≡ some_asks g c others =
    sym (asks_on g c items) ∙ ap (some_asks g c) e ∙ asks_on g c others in
    rw (test, sub 0 (omega arith), sub 1 (omega arith), sub 2 (omega arith), sub 3 (omega arith), e) refl

-- a descent may carry along only the items on the cell at hand
pub narrow : {X : Type 0} (g : Ground X) → GoesDown g → (n : ℕ) (items : List X) (c : Address) → IsCell c → c.level + n ≤ 30
    → tree_of g n (on g items c) c ≡ tree_of g n items c
narrow g down n items c cell low = same_tree g down n (on g items c) items c cell low (on_again g items c)

-- items that lie alike make the same tree
pub same_counts : {X Y : Type 0} (g : Ground X) (h : Ground Y) (items : List X) (others : List Y)
    → ((c : Address) → length (on g items c) ≡ length (on h others c))
    → ((c : Address) → some_asks g c items ≡ some_asks h c others)
    → (n : ℕ) (c : Address) → tree_of g n items c ≡ tree_of h n others c
unfolding tree_of
same_counts g h items others count asked zero c = ap Leaf (count c)
same_counts g h items others count asked (suc n) c =
    let sub : (q : ℕ) → tree_of g n items (child_of c q) ≡ tree_of h n others (child_of c q) =
    λ q. same_counts g h items others count asked n (child_of c q) in
    rw (asked c, sub 0, sub 1, sub 2, sub 3, count c) refl
