-- Rings that lie one after another in one list of vertices.
use Rattle.std.proofs.Common.{◌≡◌, ℕ, ◌+◌, ◌-◌, ◌*◌, ◌<◌, ◌≤◌, suc, zero, List, [], ◌∷◌, ◌++◌, length, take, drop, get_or, Some, refl, sym, ap, ◌∙◌, subst, arith, length-append, length-drop}
use Rattle.std.proofs.lemmas.List.{drop_at, take_all, take-append-le, drop-append-le, length-take-le, get_or_read}
use Rattle.std.proofs.lemmas.List.Sums.{sum_by-cons}
use Rattle.std.proofs.lemmas.List.Elements.{All-nil, All-cons, All-head, All-tail}
use Rattle.std.specs.List.{slice_range, slice_get, All}
use Rattle.act_grid.specs.declared.Point.{Point}
use Rattle.act_geom.specs.Rings.{vertices_of, IsShape}
use Rattle.act_geom.specs.Laid.{rings_between, begin_of, EndsFit, IsLaid}

-- a ring begins before all that follow end
pub ends_after : (start : ℕ) (ends : List ℕ) (total : ℕ) → EndsFit start ends total → start + 3 * length ends ≤ total
ends_after start [] total h = omega arith
ends_after start (end ∷ ends) total h = omega (arith, ends_after end ends total h.1, h.0)

pub rings_are : (start : ℕ) (ends : List ℕ) (points : List Point) → length (rings_between start ends points) ≡ length ends
rings_are start [] points = refl
rings_are start (end ∷ ends) points = ap suc (rings_are end ends points)

pub length_of : (start end : ℕ) (points : List Point) → start ≤ end → end ≤ length points → length (slice_range points start end) + start ≡ end
length_of start end points h k =
    let e : length (take (end - start) (drop start points)) ≡ end - start = length-take-le (end - start) (drop start points) (omega (arith, length-drop start points)) in
    omega (arith, e)

pub vertices_are : (start : ℕ) (ends : List ℕ) (points : List Point) → EndsFit start ends (length points) → vertices_of (rings_between start ends points) + start ≡ length points
vertices_are start [] points h = omega (arith, h)
vertices_are start (end ∷ ends) points h =
    omega (
      arith,
      sum_by-cons (λ (r : List Point). length r) (slice_range points start end) (rings_between end ends points),
      vertices_are end ends points h.1,
      length_of start end points (omega (arith, h.0)) (omega (arith, ends_after end ends (length points) h.1)),
    )

pub rings_are_full : (start : ℕ) (ends : List ℕ) (points : List Point) → EndsFit start ends (length points) → All (λ (r : List Point). 3 ≤ length r) (rings_between start ends points)
rings_are_full start [] points h = All-nil (λ (r : List Point). 3 ≤ length r)
rings_are_full start (end ∷ ends) points h =
    All-cons (λ (r : List Point). 3 ≤ length r) (slice_range points start end) (rings_between end ends points)
    (omega (arith, h.0, length_of start end points (omega (arith, h.0)) (omega (arith, ends_after end ends (length points) h.1))))
    (rings_are_full end ends points h.1)

-- what lies in the buffers is a shape
pub is_shape : (ends : List ℕ) (points : List Point) → IsLaid ends points → IsShape (rings_between 0 ends points)
is_shape ends points h = record {
  full = rings_are_full 0 ends points h.fits;
  few = omega (arith, vertices_are 0 ends points h.fits, h.few);
}

-- one more ring at the end
pub rings_pushed : (start : ℕ) (ends : List ℕ) (points ring : List Point) (n : ℕ) → EndsFit start ends (length points) → n ≡ length points + length ring
    → rings_between start (ends ++ n ∷ []) (points ++ ring) ≡ rings_between start ends points ++ ring ∷ []
rings_pushed start [] points ring n h e =
    ap (λ (r : List Point). r ∷ []) (ap (take (n - start)) (drop_at points ring start (sym h)) ∙ take_all (n - start) ring (omega arith))
rings_pushed start (end ∷ ends) points ring n h e =
    let w : end ≤ length points = omega (arith, ends_after end ends (length points) h.1) in
    ap (λ (r : List Point). r ∷ rings_between end (ends ++ n ∷ []) (points ++ ring)) (same start end points ring (omega (arith, h.0)) w)
    ∙ ap (λ (rs : List (List Point)). slice_range points start end ∷ rs) (rings_pushed end ends points ring n h.1 e)
  where
    same : (start end : ℕ) (points ring : List Point) → start ≤ end → end ≤ length points → slice_range (points ++ ring) start end ≡ slice_range points start end
    same start end points ring h k =
        ap (take (end - start)) (drop-append-le start points ring (omega arith)) ∙ take-append-le (end - start) (drop start points) ring (omega (arith, length-drop start points))

pub fits_pushed : (start : ℕ) (ends : List ℕ) (total n : ℕ) → EndsFit start ends total → total + 3 ≤ n → EndsFit start (ends ++ n ∷ []) n
fits_pushed start [] total n h k = (omega arith, refl)
fits_pushed start (end ∷ ends) total n h k = (h.0, fits_pushed end ends total n h.1 k)

pub begin_after : (start : ℕ) (ends : List ℕ) (k : ℕ) → begin_of start ends (suc k) ≡ get_or ends k 0
begin_after start [] k = refl
begin_after start (end ∷ ends) zero = refl
begin_after start (end ∷ ends) (suc k) = begin_after end ends k

pub ring_at : (start : ℕ) (ends : List ℕ) (points : List Point) (k : ℕ) → k < length ends
    → slice_get (rings_between start ends points) k ≡ Some (slice_range points (begin_of start ends k) (get_or ends k 0))
ring_at start [] points k h = absurd (omega arith)
ring_at start (end ∷ ends) points zero h = refl
ring_at start (end ∷ ends) points (suc k) h = ring_at end ends points k (omega arith)

-- a ring lies among the vertices
pub ring_within : (start : ℕ) (ends : List ℕ) (total k : ℕ) → EndsFit start ends total → k < length ends
    → (begin_of start ends k + 3 ≤ get_or ends k 0) × (get_or ends k 0 ≤ total)
ring_within start [] total k h l = absurd (omega arith)
ring_within start (end ∷ ends) total zero h l = (h.0, omega (arith, ends_after end ends total h.1))
ring_within start (end ∷ ends) total (suc k) h l = ring_within end ends total k h.1 (omega arith)

-- what the rings are seen as
pub vertices_seen : (ends : List ℕ) (points : List Point) (rings : List (List Point)) → IsLaid ends points → rings_between 0 ends points ≡ rings → vertices_of rings ≡ length points
vertices_seen ends points rings h e = subst (λ (r : List (List Point)). vertices_of r ≡ length points) e (omega (arith, vertices_are 0 ends points h.fits))

pub rings_seen : (ends : List ℕ) (points : List Point) (rings : List (List Point)) → rings_between 0 ends points ≡ rings → length rings ≡ length ends
rings_seen ends points rings e = subst (λ (r : List (List Point)). length r ≡ length ends) e (rings_are 0 ends points)

pub shape_seen : (ends : List ℕ) (points : List Point) (rings : List (List Point)) → IsLaid ends points → rings_between 0 ends points ≡ rings → IsShape rings
shape_seen ends points rings h e = subst IsShape e (is_shape ends points h)

pub ring_seen : (ends : List ℕ) (points : List Point) (rings : List (List Point)) (k : ℕ) → rings_between 0 ends points ≡ rings → k < length ends
    → slice_get rings k ≡ Some (slice_range points (begin_of 0 ends k) (get_or ends k 0))
ring_seen ends points rings k e h = subst (λ (r : List (List Point)). slice_get r k ≡ Some (slice_range points (begin_of 0 ends k) (get_or ends k 0))) e (ring_at 0 ends points k h)

-- the buffers after a push
pub pushed_laid : (ends : List ℕ) (points ring : List Point) (n : ℕ) → IsLaid ends points → n ≡ length points + length ring → 3 ≤ length ring → n ≤ 262144
    → IsLaid (ends ++ n ∷ []) (points ++ ring)
pushed_laid ends points ring n h e f g =
    let l : length (points ++ ring) ≡ n = length-append points ring ∙ sym e in
    record {
      fits = subst (EndsFit 0 (ends ++ n ∷ [])) (sym l) (fits_pushed 0 ends (length points) n h.fits (omega arith));
      few = omega arith;
    }

pub pushed_seen : (ends : List ℕ) (points ring : List Point) (rings : List (List Point)) (n : ℕ) → IsLaid ends points → rings_between 0 ends points ≡ rings → n ≡ length points + length ring
    → rings_between 0 (ends ++ n ∷ []) (points ++ ring) ≡ rings ++ ring ∷ []
pushed_seen ends points ring rings n h e k =
    rings_pushed 0 ends points ring n h.fits k ∙ ap (λ (r : List (List Point)). r ++ ring ∷ []) e

pub begin_before : (ends : List ℕ) (k : ℕ) → 0 < k → get_or ends (k - 1) 0 ≡ begin_of 0 ends k
begin_before ends zero h = absurd (omega arith)
begin_before ends (suc k) h =
    let e : suc k - 1 ≡ k = omega arith in
    rw e (sym (begin_after 0 ends k))

-- where a ring lies among the vertices
pub record LiesAt (ends : List ℕ) (points : List Point) (k start end : ℕ) : Type 0 where
  pub begin : start ≡ begin_of 0 ends k
  pub close : end ≡ get_or ends k 0
  pub three : start + 3 ≤ end
  pub within : end ≤ length points

pub lies_at : (ends : List ℕ) (points : List Point) (k start end : ℕ) → IsLaid ends points → k < length ends → start ≡ begin_of 0 ends k → end ≡ get_or ends k end → LiesAt ends points k start end
lies_at ends points k start end h l b e =
    let w = ring_within 0 ends (length points) k h.fits l in
    let f : end ≡ get_or ends k 0 = get_or_read ends k end l e 0 in
    record { begin = b; close = f; three = omega (arith, w.0); within = omega (arith, w.1) }

pub ring_is : (ends : List ℕ) (points : List Point) (rings : List (List Point)) (k start end : ℕ) → rings_between 0 ends points ≡ rings → k < length ends
    → LiesAt ends points k start end → slice_get rings k ≡ Some (slice_range points start end)
ring_is ends points rings k start end e h l =
    subst (λ (s : ℕ). slice_get rings k ≡ Some (slice_range points s end)) (sym l.begin)
    (subst (λ (t : ℕ). slice_get rings k ≡ Some (slice_range points (begin_of 0 ends k) t)) (sym l.close) (ring_seen ends points rings k e h))

pub ring_is_full : (ends : List ℕ) (points : List Point) (k start end : ℕ) → LiesAt ends points k start end → 3 ≤ length (slice_range points start end)
ring_is_full ends points k start end l = omega (arith, length_of start end points (omega (arith, l.three)) l.within, l.three)

-- a shape has fewer rings than vertices
pub rings_few : (rings : List (List Point)) → IsShape rings → 3 * length rings ≤ vertices_of rings
rings_few rings h = each rings h.full
  where
    each : (rings : List (List Point)) → All (λ (r : List Point). 3 ≤ length r) rings → 3 * length rings ≤ vertices_of rings
    each [] f = omega arith
    each (r ∷ rs) f =
        omega (arith, sum_by-cons (λ (x : List Point). length x) r rs, All-head (λ (x : List Point). 3 ≤ length x) r rs f, each rs (All-tail (λ (x : List Point). 3 ≤ length x) r rs f))
