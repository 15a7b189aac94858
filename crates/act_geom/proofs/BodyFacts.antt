-- Where the words of a body stand.
use Rattle.std.proofs.Common.{◌≡◌, ◌≢◌, ℕ, zero, suc, ◌+◌, ◌-◌, ◌<◌, ◌≤◌, refl, sym, ap, ◌∙◌, subst, arith, List, [], ◌∷◌, ◌++◌, length, take, drop, get_or, Some, length-append}
use Rattle.std.proofs.lemmas.List.{get_or_append_left, get_or-append-add, length-map, get_or-map, take_more, take_all}
use Rattle.std.proofs.lemmas.List.Sums.{sum_by-cons, sum_by_push}
use Rattle.std.proofs.lemmas.Option.{slice_get_within, get_or_from_slice_get, same_Some}
use Rattle.std.specs.List.{slice_get, flat_map}
use Rattle.act_grid.specs.declared.Point.{Point}
use Rattle.act_geom.specs.Rings.{vertices_of}
use Rattle.act_geom.specs.Laid.{rings_between, begin_of, EndsFit}
use Rattle.act_geom.specs.Body.{vertex_word, ring_words, body_of}
use Rattle.act_geom.proofs.LaidFacts.{length_of, ends_after}

pub length-words : (rings : List (List Point)) → length (flat_map ring_words rings) ≡ length rings + vertices_of rings
length-words [] = refl
length-words (r ∷ rs) =
    omega (arith, length-append (ring_words r) (flat_map ring_words rs), length-map r vertex_word, length-words rs, sum_by-cons (λ (x : List Point). length x) r rs)

pub length-body : (rings : List (List Point)) → length (body_of rings) ≡ 1 + length rings + vertices_of rings
length-body rings = omega (arith, length-words rings)

pub vertices_more : (rings : List (List Point)) (r : ℕ) (ring : List Point) → slice_get rings r ≡ Some ring → vertices_of (take (r + 1) rings) ≡ vertices_of (take r rings) + length ring
vertices_more rings r ring g =
    ap vertices_of (take_more rings r ring (slice_get_within rings r ring g)) ∙ sum_by_push (λ (x : List Point). length x) (take r rings) (get_or rings r ring)
    ∙ ap (λ (x : List Point). vertices_of (take r rings) + length x) (get_or_from_slice_get rings r ring ring g)

-- a word of one ring
word_at : (rings : List (List Point)) (r j : ℕ) (ring : List Point) → slice_get rings r ≡ Some ring → j < length (ring_words ring)
    → get_or (flat_map ring_words rings) (r + vertices_of (take r rings) + j) 0 ≡ get_or (ring_words ring) j 0
word_at [] r j ring g h = absurd (cc)
word_at (x ∷ xs) zero j ring g h =
    let same : x ≡ ring = same_Some x ring g in
    let at : 0 + 0 + j ≡ j = omega arith in
    ap (λ n. get_or (flat_map ring_words (x ∷ xs)) n 0) at
    ∙ ap (λ (y : List Point). get_or (ring_words y ++ flat_map ring_words xs) j 0) same ∙ get_or_append_left (ring_words ring) (flat_map ring_words xs) 0 j h
word_at (x ∷ xs) (suc r) j ring g h =
    let at : suc r + vertices_of (x ∷ take r xs) + j ≡ length (ring_words x) + (r + vertices_of (take r xs) + j) =
    omega (arith, sum_by-cons (λ (y : List Point). length y) x (take r xs), length-map x vertex_word) in
    ap (λ n. get_or (flat_map ring_words (x ∷ xs)) n 0) at ∙ get_or-append-add (ring_words x) (flat_map ring_words xs) (r + vertices_of (take r xs) + j) 0
    ∙ word_at xs r j ring g h

-- the k-th word stands among those of ring r
pub record StandsIn (rings : List (List Point)) (r k start : ℕ) (ring : List Point) : Type 0 where
  pub get : slice_get rings r ≡ Some ring
  pub begin : start ≡ 1 + r + vertices_of (take r rings)
  pub after : start ≤ k
  pub before : k < 2 + r + vertices_of (take (r + 1) rings)

pub within_ring : (rings : List (List Point)) (r k start : ℕ) (ring : List Point) → StandsIn rings r k start ring → k < start + 1 + length ring
within_ring rings r k start ring s = omega (arith, s.before, s.begin, vertices_more rings r ring s.get)

in_body : (rings : List (List Point)) (r k start : ℕ) (ring : List Point) → StandsIn rings r k start ring → get_or (body_of rings) k 0 ≡ get_or (ring_words ring) (k - start) 0
in_body rings r k start ring s =
    let j = k - start in
    let at : k ≡ suc (r + vertices_of (take r rings) + j) = omega (arith, s.begin, s.after) in
    ap (λ n. get_or (body_of rings) n 0) at ∙ word_at rings r j ring s.get (omega (arith, within_ring rings r k start ring s, length-map ring vertex_word))

pub count_word : (rings : List (List Point)) (r k start : ℕ) (ring : List Point) → StandsIn rings r k start ring → k ≡ start → length ring ≡ get_or (body_of rings) k 0
count_word rings r k start ring s e =
    let none : k - start ≡ 0 = omega (arith, e) in
    sym (in_body rings r k start ring s ∙ ap (λ n. get_or (ring_words ring) n 0) none)

pub vertex_at : (rings : List (List Point)) (r k start : ℕ) (ring : List Point) (d : Point) → StandsIn rings r k start ring → k ≢ start → vertex_word (get_or ring (k - start - 1) d) ≡ get_or (body_of rings) k 0
vertex_at rings r k start ring d s n =
    let one : k - start ≡ suc (k - start - 1) = omega (arith, n, s.after) in
    sym (in_body rings r k start ring s ∙ ap (λ m. get_or (ring_words ring) m 0) one
    ∙ get_or-map vertex_word ring (k - start - 1) d 0 (omega (arith, within_ring rings r k start ring s, n, s.after)))

-- the vertices before a ring, by the ends
vertices_to : (start : ℕ) (ends : List ℕ) (points : List Point) (k : ℕ) → EndsFit start ends (length points) → k ≤ length ends
    → vertices_of (take k (rings_between start ends points)) + start ≡ begin_of start ends k
vertices_to start ends points zero h l = refl_of start
  where
    refl_of : (n : ℕ) → 0 + n ≡ n
    refl_of n = omega arith
vertices_to start [] points (suc k) h l = absurd (omega (arith, l))
vertices_to start (end ∷ ends) points (suc k) h l =
    omega (
      arith,
      sum_by-cons (λ (r : List Point). length r) (take (end - start) (drop start points)) (take k (rings_between end ends points)),
      vertices_to end ends points k h.1 (omega (arith, l)),
      length_of start end points (omega (arith, h.0)) (omega (arith, ends_after end ends (length points) h.1)),
    )

pub vertices_before_is : (ends : List ℕ) (points : List Point) (rings : List (List Point)) (k : ℕ) → EndsFit 0 ends (length points) → rings_between 0 ends points ≡ rings → k ≤ length ends
    → begin_of 0 ends k ≡ vertices_of (take k rings)
vertices_before_is ends points rings k h e l =
    sym (subst (λ (rs : List (List Point)). vertices_of (take k rs) ≡ begin_of 0 ends k) e (omega (arith, vertices_to 0 ends points k h l)))

pub begin_within : (start : ℕ) (ends : List ℕ) (total k : ℕ) → EndsFit start ends total → k ≤ length ends → begin_of start ends k ≤ total
begin_within start ends total zero h l = omega (arith, ends_after start ends total h)
begin_within start [] total (suc k) h l = absurd (omega (arith, l))
begin_within start (end ∷ ends) total (suc k) h l = begin_within end ends total k h.1 (omega (arith, l))

-- a body with a word past the first has a ring, and its words end with the last one
pub first_halves : (rings : List (List Point)) (k n : ℕ) → 1 ≤ k → k < length (body_of rings) → n ≡ length rings → (0 < n) × (k < 1 + n + vertices_of (take n rings))
first_halves [] k n h l e = absurd (omega (arith, h, l))
first_halves (r ∷ rs) k n h l e =
    let all : take n (r ∷ rs) ≡ r ∷ rs = take_all n (r ∷ rs) (omega (arith, e)) in
    (omega (arith, e), omega (arith, l, e, length-body (r ∷ rs), ap vertices_of all))
