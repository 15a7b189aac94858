-- Edges in blocks, each with a box around it.
use Rattle.std.proofs.Common.{◌≡◌, ℕ, zero, suc, ◌+◌, ◌*◌, ◌<◌, refl, sym, ap, ◌∙◌, subst, arith, Bool, true, false, ◌||◌, ◌==◌, List, [], ◌∷◌, ◌++◌, length, min, get_or, take, drop, append_assoc, Some}
use Rattle.std.proofs.lemmas.List.{drop-drop, drop-take, drop_more, map-append, take-take, take_more}
use Rattle.std.proofs.Math.Seq.{drop-nil, take-nil}
use Rattle.std.proofs.lemmas.List.Elements.{All-nil, All-cons, All-head, All-tail}
use Rattle.std.proofs.lemmas.List.Folds.{list_any-append}
use Rattle.std.specs.List.{All, list_any, slice_get}
use Rattle.act_grid.specs.declared.Point.{Point}
use Rattle.act_grid.specs.declared.Hull.{Hull}
use Rattle.act_geom.specs.Edges.{Edge, edges_to, edges_of, ring_edges}
use Rattle.act_geom.specs.Inside.{differ, is_odd_by}
use Rattle.act_geom.specs.Touch.{touches_hull}
use Rattle.act_geom.proofs.Parity.{drop_at_get, odd_append, regroup}
use Rattle.act_super.specs.declared.blocks.Side.{Side}
use Rattle.act_super.specs.declared.bounds.Bounds.{Bounds}
use Rattle.act_super.specs.Bounds.{AreBound, IsBound, IsSideIn, edge_of, edges_in}
use Rattle.act_super.specs.Frames.{IsWider, is_apart}
use Rattle.act_super.proofs.FrameFacts.{IsEdgeIn, any_none, touch_apart, wider_in}

-- ---- where a list is cut
pub take_least : {X : Type 0} (xs : List X) (n k : ℕ) → k ≡ min (length xs) n → take k xs ≡ take n xs
take_least [] n k e = take-nil k ∙ sym (take-nil n)
take_least (x ∷ xs) zero k e = let none : k ≡ 0 = omega (arith, e) in ap (λ m. take m (x ∷ xs)) none
take_least (x ∷ xs) (suc n) k e =
    let more : k ≡ suc (min (length xs) n) = omega (arith, e) in
    ap (λ m. take m (x ∷ xs)) more ∙ ap (λ ys. x ∷ ys) (take_least xs n (min (length xs) n) refl)

pub drop_least : {X : Type 0} (xs : List X) (n k : ℕ) → k ≡ min (length xs) n → drop k xs ≡ drop n xs
drop_least [] n k e = drop-nil k ∙ sym (drop-nil n)
drop_least (x ∷ xs) zero k e = let none : k ≡ 0 = omega (arith, e) in ap (λ m. drop m (x ∷ xs)) none
drop_least (x ∷ xs) (suc n) k e =
    let more : k ≡ suc (min (length xs) n) = omega (arith, e) in
    ap (λ m. drop m (x ∷ xs)) more ∙ drop_least xs n (min (length xs) n) refl

-- ---- the edges of a block and those of the blocks behind it
parted : {X : Type 0} (n : ℕ) (xs : List X) → take n xs ++ drop n xs ≡ xs
parted zero xs = refl
parted (suc n) [] = refl
parted (suc n) (x ∷ xs) = ap (λ ys. x ∷ ys) (parted n xs)

edges_cut : (n : ℕ) (rest block after : List Side) → block ≡ take n rest → after ≡ drop n rest → edges_in rest ≡ edges_in block ++ edges_in after
edges_cut n rest block after b a = ap edges_in (sym (parted n rest)) ∙ (map-append edge_of (take n rest) (drop n rest) ∙ λ i. edges_in (sym b i) ++ edges_in (sym a i))

pub any_here : (n : ℕ) (f : Edge → Bool) (sides rest block after : List Side) → block ≡ take n rest → after ≡ drop n rest
    → list_any f (edges_in rest) ≡ list_any f (edges_in sides) → list_any f (edges_in block) ≡ true → true ≡ list_any f (edges_in sides)
any_here n f sides rest block after b a same h =
    sym (sym same ∙ (ap (list_any f) (edges_cut n rest block after b a) ∙ (list_any-append f (edges_in block) (edges_in after) ∙ ap (λ t. t || list_any f (edges_in after)) h)))

pub any_after : (n : ℕ) (f : Edge → Bool) (sides rest block after : List Side) → block ≡ take n rest → after ≡ drop n rest
    → list_any f (edges_in rest) ≡ list_any f (edges_in sides) → list_any f (edges_in block) ≡ false → list_any f (edges_in after) ≡ list_any f (edges_in sides)
any_after n f sides rest block after b a same h =
    sym (sym same ∙ (ap (list_any f) (edges_cut n rest block after b a) ∙ (list_any-append f (edges_in block) (edges_in after) ∙ ap (λ t. t || list_any f (edges_in after)) h)))

pub odd_after : (n : ℕ) (g : Edge → Bool) (rest block after : List Side) (odd now whole : Bool) → block ≡ take n rest → after ≡ drop n rest
    → differ odd (is_odd_by g (edges_in rest)) ≡ whole → now ≡ differ odd (is_odd_by g (edges_in block)) → differ now (is_odd_by g (edges_in after)) ≡ whole
odd_after n g rest block after odd now whole b a same e =
    ap (λ v. differ v (is_odd_by g (edges_in after))) e
    ∙ (sym (regroup odd (is_odd_by g (edges_in block)) (is_odd_by g (edges_in after)))
    ∙ (ap (differ odd) (sym (ap (is_odd_by g) (edges_cut n rest block after b a) ∙ odd_append g (edges_in block) (edges_in after))) ∙ same))

-- ---- boxes
edges_framed : (f : Hull) (sides : List Side) → All (IsSideIn f) sides → All (IsEdgeIn f) (edges_in sides)
edges_framed f [] all = All-nil (IsEdgeIn f)
edges_framed f (s ∷ sides) all =
    let here = All-head (IsSideIn f) s sides all in
    All-cons (IsEdgeIn f) (edge_of s) (edges_in sides) (record { start = here.from; end = here.to }) (edges_framed f sides (All-tail (IsSideIn f) s sides all))

each_edge : (P Q : Edge → Type 0) (edges : List Edge) → ((e : Edge) → P e → Q e) → All P edges → All Q edges
each_edge P Q edges h all n d l = h _ (all n d l)

-- no edge in a box apart from the hull touches it
pub none_touches : (f h : Hull) (sides : List Side) → All (IsSideIn f) sides → is_apart f h ≡ true → list_any (touches_hull h) (edges_in sides) ≡ false
none_touches f h sides all a =
    any_none (touches_hull h) (edges_in sides) (each_edge (IsEdgeIn f) (λ e. touches_hull h e ≡ false) (edges_in sides) (λ e i. touch_apart f h e a i) (edges_framed f sides all))

-- one edge more in a wider box
side_more : (f g : Hull) (sides : List Side) (s : Side) → IsWider f g → All (IsSideIn f) sides → IsSideIn g s → All (IsSideIn g) (sides ++ s ∷ [])
side_more f g [] s w all new = All-cons (IsSideIn g) s [] new (All-nil (IsSideIn g))
side_more f g (t ∷ sides) s w all new =
    let here = All-head (IsSideIn f) t sides all in
    All-cons (IsSideIn g) t (sides ++ s ∷ []) (record { from = wider_in f g t.a w here.from; to = wider_in f g t.b w here.to }) (side_more f g sides s w (All-tail (IsSideIn f) t sides all) new)

pub sides_more : (f g : Hull) (sides : List Side) (i : ℕ) (d : Side) → i < length sides → IsWider f g → All (IsSideIn f) (take i sides) → IsSideIn g (get_or sides i d) → All (IsSideIn g) (take (i + 1) sides)
sides_more f g sides i d h w all new = subst (All (IsSideIn g)) (sym (take_more sides i d h)) (side_more f g (take i sides) (get_or sides i d) w all new)

-- ---- the blocks so far
zero_is : (n : ℕ) → (n == 0) ≡ true → n ≡ 0
zero_is n h = grind arith

pub empty_is : {X : Type 0} (xs : List X) → (length xs == 0) ≡ true → xs ≡ []
empty_is [] h = refl
empty_is (x ∷ xs) h = absurd (omega (arith, zero_is (length (x ∷ xs)) h))

-- the bounds of one block more in front of those of what is left
pub bounds_more : (n : ℕ) (bounds now : List Bounds) (one : Bounds) (sides rest block after : List Side) → now ≡ bounds ++ one ∷ [] → block ≡ take n rest → after ≡ drop n rest
    → ((more : List Bounds) → AreBound n more rest → AreBound n (bounds ++ more) sides) → IsBound one block → (more : List Bounds) → AreBound n more after → AreBound n (now ++ more) sides
bounds_more n bounds now one sides rest block after e b a so_far is more k =
    subst (λ bs. AreBound n bs sides) (sym (ap (λ bs. bs ++ more) e ∙ append_assoc bounds (one ∷ []) more)) (so_far (one ∷ more) (subst (IsBound one) b is, subst (AreBound n more) a k))

-- the bounds at a place, and those behind them
pub bound_at : (n : ℕ) (bounds : List Bounds) (i : ℕ) (one : Bounds) (rest block : List Side) → i < length bounds → one ≡ get_or bounds i one → block ≡ take n rest → AreBound n (drop i bounds) rest → IsBound one block
bound_at n bounds i one rest block h is b k =
    subst (λ (z : Bounds × List Side). IsBound z.0 z.1) (λ j. (sym is j, sym b j)) (subst (λ bs. AreBound n bs rest) (drop_more bounds i one h) k).0

pub bound_behind : (n : ℕ) (bounds : List Bounds) (i : ℕ) (one : Bounds) (rest after : List Side) → i < length bounds → after ≡ drop n rest → AreBound n (drop i bounds) rest → AreBound n (drop (i + 1) bounds) after
bound_behind n bounds i one rest after h a k = subst (AreBound n (drop (i + 1) bounds)) (sym a) (subst (λ bs. AreBound n bs rest) (drop_more bounds i one h) k).1

-- ---- blocks in groups
first_bound : (k : ℕ) (bounds : List Bounds) (sides : List Side) → AreBound 16 bounds sides → AreBound 16 (take k bounds) (take (16 * k) sides)
first_bound zero bounds sides all = refl
first_bound (suc k) [] sides all = ap (take (16 * suc k)) all ∙ take-nil (16 * suc k)
first_bound (suc k) (b ∷ bounds) sides all =
    let more : 16 * suc k ≡ 16 + 16 * k = omega arith in
    rw more (
      subst (IsBound b) (sym (take-take 16 (16 + 16 * k) sides (omega arith))) all.0,
      subst (AreBound 16 (take k bounds)) (sym (drop-take 16 (16 * k) sides)) (first_bound k bounds (drop 16 sides) all.1),
    )

rest_bound : (k : ℕ) (bounds : List Bounds) (sides : List Side) → AreBound 16 bounds sides → AreBound 16 (drop k bounds) (drop (16 * k) sides)
rest_bound zero bounds sides all = all
rest_bound (suc k) [] sides all = ap (drop (16 * suc k)) all ∙ drop-nil (16 * suc k)
rest_bound (suc k) (b ∷ bounds) sides all =
    let more : 16 * suc k ≡ 16 + 16 * k = omega arith in
    rw more (subst (AreBound 16 (drop k bounds)) (drop-drop (16 * k) 16 sides) (rest_bound k bounds (drop 16 sides) all.1))

pub group_blocks : (blocks own : List Bounds) (rest group : List Side) → own ≡ take 64 blocks → group ≡ take 1024 rest → AreBound 16 blocks rest → AreBound 16 own group
group_blocks blocks own rest group o g all = subst (λ (z : List Bounds × List Side). AreBound 16 z.0 z.1) (λ i. (sym o i, sym g i)) (first_bound 64 blocks rest all)

pub other_blocks : (blocks others : List Bounds) (rest after : List Side) → others ≡ drop 64 blocks → after ≡ drop 1024 rest → AreBound 16 blocks rest → AreBound 16 others after
other_blocks blocks others rest after o a all = subst (λ (z : List Bounds × List Side). AreBound 16 z.0 z.1) (λ i. (sym o i, sym a i)) (rest_bound 64 blocks rest all)

-- ---- edges of rings
pub edge_more : (sides : List Side) (s : Side) (items : List Point) (first : Point) (i : ℕ) (d : Point) (whole : List Edge) → i < length items → s.b ≡ get_or items i d
    → edges_in sides ++ edges_to first (s.a ∷ drop i items) ≡ whole → edges_in (sides ++ s ∷ []) ++ edges_to first (get_or items i d ∷ drop (i + 1) items) ≡ whole
edge_more sides s items first i d whole h e same =
    let tail : List Edge = edges_to first (get_or items i d ∷ drop (i + 1) items) in
    ap (λ es. es ++ tail) (map-append edge_of sides (s ∷ []))
    ∙ (append_assoc (edges_in sides) (edge_of s ∷ []) tail
    ∙ (ap (λ b. edges_in sides ++ (record { a = s.a; b = b } ∷ tail)) e
    ∙ (ap (λ ps. edges_in sides ++ edges_to first (s.a ∷ ps)) (sym (drop_more items i d h)) ∙ same)))

pub ring_more : (sides now : List Side) (rings : List (List Point)) (k : ℕ) (ring : List Point) → slice_get rings k ≡ Some ring → edges_in now ≡ edges_in sides ++ ring_edges ring
    → edges_in sides ++ edges_of (drop k rings) ≡ edges_of rings → edges_in now ++ edges_of (drop (k + 1) rings) ≡ edges_of rings
ring_more sides now rings k ring g n same =
    ap (λ es. es ++ edges_of (drop (k + 1) rings)) n
    ∙ (append_assoc (edges_in sides) (ring_edges ring) (edges_of (drop (k + 1) rings))
    ∙ (ap (λ (rs : List (List Point)). edges_in sides ++ edges_of rs) (sym (drop_at_get rings k ring g)) ∙ same))
