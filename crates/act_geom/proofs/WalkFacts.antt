-- One word of a walk.
use Rattle.std.proofs.Common.{◌≡◌, ◌≢◌, ℕ, ◌-◌, ◌<◌, ◌≤◌, refl, sym, ap, ◌∙◌, arith, Bool, true, false, not, List, [], ◌∷◌, length, Option, Some, None, is_some}
use Rattle.std.specs.List.{flat_map, All}
use Rattle.std.proofs.lemmas.List.Elements.{All-head, All-tail}
use mathlib.Core.Bool.{beq}
use Rattle.act_grid.specs.declared.Point.{Point}
use Rattle.act_geom.specs.declared.walk.Walk.{Walk}
use Rattle.act_geom.specs.declared.walk.Phase.TheVariants.{Rings, Count, First, Next}
use Rattle.act_geom.specs.Edges.{ring_edges, edges_to, edges_of}
use Rattle.act_geom.specs.Inside.{counts, differ, is_odd_by}
use Rattle.act_geom.specs.Body.{vertex_word, ring_words}
use Rattle.act_geom.specs.Walk.{Coming, Gives, Expects, Answers}
use Rattle.act_geom.specs.Walk.Expects.{AtRings, AtCount, AtFirst, AtNext}
use Rattle.act_geom.proofs.Parity.{odd_append}

abbrev IsFull : List Point → Type 0
IsFull ring = 3 ≤ length ring

same_head : {x y : ℕ} {xs ys : List ℕ} → x ∷ xs ≡ y ∷ ys → x ≡ y
same_head e = cc

same_tail : {x y : ℕ} {xs ys : List ℕ} → x ∷ xs ≡ y ∷ ys → xs ≡ ys
same_tail e = cc

no_nil : {x : ℕ} {xs ys : List ℕ} → ys ≡ x ∷ xs → ys ≢ []
no_nil e f = cc

-- ---- the number of rings

pub rings_taken : (w : Walk) (word : ℕ) (words : List ℕ) (answer : Bool) → w.phase ≡ Rings → Expects w (word ∷ words) answer → word ≢ 0
    → (words ≢ []) × Expects (record { point = w.point; phase = Count; odd = false; rings = word; vertices = w.vertices; first = w.first; last = w.last }) words answer
rings_taken w word words answer p (AtRings e [] full spelled a) n = absurd (n (same_head spelled))
rings_taken w word words answer p (AtRings e (r ∷ rs) full spelled a) n =
    (no_nil (same_tail spelled), AtCount refl (r ∷ rs) (record { count = sym (same_head spelled); full = full; spelled = same_tail spelled }) (omega (arith, same_head spelled)) a)
rings_taken w word words answer p (AtCount e _ _ _ _) n = absurd (cc)
rings_taken w word words answer p (AtFirst e _ _ _ _ _ _) n = absurd (cc)
rings_taken w word words answer p (AtNext e _ _ _ _ _ _) n = absurd (cc)

-- ---- the number of a ring's vertices

count_at : (w : Walk) (word m : ℕ) (words : List ℕ) (answer : Bool) (rings : List (List Point)) → Coming [] rings w.rings (word ∷ words) → 1 ≤ w.rings
    → differ w.odd (is_odd_by (counts w.point) (edges_of rings)) ≡ answer → m ≡ w.rings - 1
    → (words ≢ []) × Expects (record { point = w.point; phase = First; odd = w.odd; rings = m; vertices = word; first = w.first; last = w.last }) words answer
count_at w word m words answer [] coming one a e = absurd (omega (arith, coming.count, one))
count_at w word m words answer ([] ∷ rs) coming one a e = absurd (omega (arith, All-head IsFull [] rs coming.full))
count_at w word m words answer ((v ∷ vs) ∷ rs) coming one a e = (
  no_nil (same_tail coming.spelled),
  AtFirst refl (v ∷ vs) rs (record { count = omega (arith, coming.count, e); full = All-tail IsFull (v ∷ vs) rs coming.full; spelled = same_tail coming.spelled })
      (sym (same_head coming.spelled)) (All-head IsFull (v ∷ vs) rs coming.full)
      (ap (differ w.odd) (sym (odd_append (counts w.point) (ring_edges (v ∷ vs)) (edges_of rs))) ∙ a),
)

pub count_taken : (w : Walk) (word m : ℕ) (words : List ℕ) (answer : Bool) → w.phase ≡ Count → Expects w (word ∷ words) answer → m ≡ w.rings - 1
    → (words ≢ []) × Expects (record { point = w.point; phase = First; odd = w.odd; rings = m; vertices = word; first = w.first; last = w.last }) words answer
count_taken w word m words answer p (AtRings e _ _ _ _) h = absurd (cc)
count_taken w word m words answer p (AtCount e rings coming one a) h = count_at w word m words answer rings coming one a h
count_taken w word m words answer p (AtFirst e _ _ _ _ _ _) h = absurd (cc)
count_taken w word m words answer p (AtNext e _ _ _ _ _ _) h = absurd (cc)

-- ---- a ring's first vertex

first_at : (w : Walk) (word m : ℕ) (to : Point) (words : List ℕ) (answer : Bool) (ring : List Point) (rings : List (List Point)) → Coming ring rings w.rings (word ∷ words)
    → length ring ≡ w.vertices → 3 ≤ length ring → differ w.odd (differ (is_odd_by (counts w.point) (ring_edges ring)) (is_odd_by (counts w.point) (edges_of rings))) ≡ answer
    → ((v : Point) → vertex_word v ≡ word → to ≡ v) → m ≡ w.vertices - 1
    → (words ≢ []) × Expects (record { point = w.point; phase = Next; odd = w.odd; rings = w.rings; vertices = m; first = to; last = to }) words answer
first_at w word m to words answer [] rings coming n three a f e = absurd (omega (arith, three))
first_at w word m to words answer (v ∷ []) rings coming n three a f e = absurd (omega (arith, three))
first_at w word m to words answer (v ∷ (u ∷ vs)) rings coming n three a f e =
    let same : to ≡ v = f v (sym (same_head coming.spelled)) in (
      no_nil (same_tail coming.spelled),
      AtNext refl (u ∷ vs) rings (record { count = coming.count; full = coming.full; spelled = same_tail coming.spelled }) (omega (arith, n, e)) (omega arith)
          (ap (λ (z : Point). differ w.odd (differ (is_odd_by (counts w.point) (edges_to z (z ∷ (u ∷ vs)))) (is_odd_by (counts w.point) (edges_of rings)))) same ∙ a),
    )

pub first_taken : (w : Walk) (word m : ℕ) (to : Point) (words : List ℕ) (answer : Bool) → w.phase ≡ First → Expects w (word ∷ words) answer
    → ((v : Point) → vertex_word v ≡ word → to ≡ v) → m ≡ w.vertices - 1
    → (words ≢ []) × Expects (record { point = w.point; phase = Next; odd = w.odd; rings = w.rings; vertices = m; first = to; last = to }) words answer
first_taken w word m to words answer p (AtRings e _ _ _ _) f h = absurd (cc)
first_taken w word m to words answer p (AtCount e _ _ _ _) f h = absurd (cc)
first_taken w word m to words answer p (AtFirst e ring rings coming n three a) f h = first_at w word m to words answer ring rings coming n three a f h
first_taken w word m to words answer p (AtNext e _ _ _ _ _ _) f h = absurd (cc)

-- ---- a further vertex

one_edge : (odd c x y answer : Bool) → differ odd (differ (differ c x) y) ≡ answer → differ (not (beq odd c)) (differ x y) ≡ answer
one_edge odd c x y answer h = grind arith

two_edges : (odd c k y answer : Bool) → differ odd (differ (differ c (differ k false)) y) ≡ answer → differ (not (beq (not (beq odd c)) k)) y ≡ answer
two_edges odd c k y answer h = grind arith

-- what is known of the step to the next vertex
pub record Step (w : Walk) (word m : ℕ) (to : Point) (counted : Bool) : Type 0 where
  pub read : (v : Point) → vertex_word v ≡ word → to ≡ v
  pub tested : counted ≡ counts w.point (record { a = w.last; b = to })
  pub left : m ≡ w.vertices - 1

next_at : (w : Walk) (word m : ℕ) (to : Point) (counted : Bool) (words : List ℕ) (answer : Bool) (vs : List Point) (rings : List (List Point)) → w.phase ≡ Next → Coming vs rings w.rings (word ∷ words)
    → length vs ≡ w.vertices → 1 ≤ length vs → Gives w (w.last ∷ vs) rings answer → Step w word m to counted → 0 < m
    → (words ≢ []) × Expects (record { point = w.point; phase = w.phase; odd = not (beq w.odd counted); rings = w.rings; vertices = m; first = w.first; last = to }) words answer
next_at w word m to counted words answer [] rings p coming n one g s h = absurd (omega (arith, one))
next_at w word m to counted words answer (v ∷ []) rings p coming n one g s h = absurd (omega (arith, n, s.left, h))
next_at w word m to counted words answer (v ∷ (u ∷ vs)) rings p coming n one g s h =
    let same : to ≡ v = s.read v (sym (same_head coming.spelled)) in
    let edge : counted ≡ counts w.point (record { a = w.last; b = v }) = s.tested ∙ ap (λ (z : Point). counts w.point (record { a = w.last; b = z })) same in
    let given : differ w.odd (differ (differ counted (is_odd_by (counts w.point) (edges_to w.first (to ∷ (u ∷ vs))))) (is_odd_by (counts w.point) (edges_of rings))) ≡ answer =
    ap (λ c. differ w.odd (differ (differ c (is_odd_by (counts w.point) (edges_to w.first (to ∷ (u ∷ vs))))) (is_odd_by (counts w.point) (edges_of rings)))) edge
    ∙ ap (λ (z : Point). differ w.odd (differ (differ (counts w.point (record { a = w.last; b = v })) (is_odd_by (counts w.point) (edges_to w.first (z ∷ (u ∷ vs))))) (is_odd_by (counts w.point) (edges_of rings)))) same ∙ g in (
      no_nil (same_tail coming.spelled),
      AtNext p (u ∷ vs) rings (record { count = coming.count; full = coming.full; spelled = same_tail coming.spelled }) (omega (arith, n, s.left)) (omega arith)
          (one_edge w.odd counted (is_odd_by (counts w.point) (edges_to w.first (to ∷ (u ∷ vs)))) (is_odd_by (counts w.point) (edges_of rings)) answer given),
    )

pub next_taken : (w : Walk) (word m : ℕ) (to : Point) (counted : Bool) (words : List ℕ) (answer : Bool) → w.phase ≡ Next → Expects w (word ∷ words) answer → Step w word m to counted → 0 < m
    → (words ≢ []) × Expects (record { point = w.point; phase = w.phase; odd = not (beq w.odd counted); rings = w.rings; vertices = m; first = w.first; last = to }) words answer
next_taken w word m to counted words answer p (AtRings e _ _ _ _) s h = absurd (cc)
next_taken w word m to counted words answer p (AtCount e _ _ _ _) s h = absurd (cc)
next_taken w word m to counted words answer p (AtFirst e _ _ _ _ _ _) s h = absurd (cc)
next_taken w word m to counted words answer p (AtNext e vs rings coming n one g) s h = next_at w word m to counted words answer vs rings p coming n one g s h

-- the last vertex of a ring, and the closing edge
last_at : (w : Walk) (word m : ℕ) (to : Point) (counted closing : Bool) (words : List ℕ) (answer : Bool) (vs : List Point) (rings : List (List Point)) → Coming vs rings w.rings (word ∷ words)
    → length vs ≡ w.vertices → 1 ≤ length vs → Gives w (w.last ∷ vs) rings answer → Step w word m to counted → m ≡ 0 → closing ≡ counts w.point (record { a = to; b = w.first })
    → (words ≡ flat_map ring_words rings) × (differ (not (beq (not (beq w.odd counted)) closing)) (is_odd_by (counts w.point) (edges_of rings)) ≡ answer)
last_at w word m to counted closing words answer [] rings coming n one g s h k = absurd (omega (arith, one))
last_at w word m to counted closing words answer (v ∷ []) rings coming n one g s h k =
    let same : to ≡ v = s.read v (sym (same_head coming.spelled)) in
    let edge : counted ≡ counts w.point (record { a = w.last; b = v }) = s.tested ∙ ap (λ (z : Point). counts w.point (record { a = w.last; b = z })) same in
    let last : closing ≡ counts w.point (record { a = v; b = w.first }) = k ∙ ap (λ (z : Point). counts w.point (record { a = z; b = w.first })) same in
    let given : differ w.odd (differ (differ counted (differ closing false)) (is_odd_by (counts w.point) (edges_of rings))) ≡ answer =
    ap (λ c. differ w.odd (differ (differ c (differ closing false)) (is_odd_by (counts w.point) (edges_of rings)))) edge
    ∙ ap (λ c. differ w.odd (differ (differ (counts w.point (record { a = w.last; b = v })) (differ c false)) (is_odd_by (counts w.point) (edges_of rings)))) last ∙ g in
    (same_tail coming.spelled, two_edges w.odd counted closing (is_odd_by (counts w.point) (edges_of rings)) answer given)
last_at w word m to counted closing words answer (v ∷ (u ∷ vs)) rings coming n one g s h k = absurd (omega (arith, n, s.left, h))

more_rings : (w : Walk) (words : List ℕ) (answer : Bool) (rings : List (List Point)) → length rings ≡ w.rings → All IsFull rings → words ≡ flat_map ring_words rings → w.phase ≡ Count → w.rings ≢ 0
    → differ w.odd (is_odd_by (counts w.point) (edges_of rings)) ≡ answer → (words ≢ []) × Expects w words answer
more_rings w words answer [] count full spelled p n a = absurd (n (sym count))
more_rings w words answer (r ∷ rs) count full spelled p n a = (no_nil spelled, AtCount p (r ∷ rs) (record { count = count; full = full; spelled = spelled }) (omega (arith, n)) a)

no_rings : (words : List ℕ) (odd answer : Bool) (p : Point) (rings : List (List Point)) → length rings ≡ 0 → words ≡ flat_map ring_words rings → differ odd (is_odd_by (counts p) (edges_of rings)) ≡ answer → (words ≡ []) × (odd ≡ answer)
no_rings words odd answer p [] count spelled a = (spelled, plain odd answer a)
  where
    plain : (b c : Bool) → differ b false ≡ c → b ≡ c
    plain b c e = grind arith
no_rings words odd answer p (r ∷ rs) count spelled a = absurd (omega (arith, count))

pub ring_ended : (w : Walk) (word m : ℕ) (to : Point) (counted closing : Bool) (words : List ℕ) (answer : Bool) → w.phase ≡ Next → Expects w (word ∷ words) answer → Step w word m to counted → m ≡ 0
    → closing ≡ counts w.point (record { a = to; b = w.first }) → w.rings ≢ 0
    → (words ≢ []) × Expects (record { point = w.point; phase = Count; odd = not (beq (not (beq w.odd counted)) closing); rings = w.rings; vertices = m; first = w.first; last = to }) words answer
ring_ended w word m to counted closing words answer p (AtRings e _ _ _ _) s h k r = absurd (cc)
ring_ended w word m to counted closing words answer p (AtCount e _ _ _ _) s h k r = absurd (cc)
ring_ended w word m to counted closing words answer p (AtFirst e _ _ _ _ _ _) s h k r = absurd (cc)
ring_ended w word m to counted closing words answer p (AtNext e vs rings coming n one g) s h k r =
    let l = last_at w word m to counted closing words answer vs rings coming n one g s h k in
    more_rings _ words answer rings coming.count coming.full l.0 refl r l.1

pub body_ended : (w : Walk) (word m : ℕ) (to : Point) (counted closing : Bool) (words : List ℕ) (answer : Bool) → w.phase ≡ Next → Expects w (word ∷ words) answer → Step w word m to counted → m ≡ 0
    → closing ≡ counts w.point (record { a = to; b = w.first }) → w.rings ≡ 0 → (words ≡ []) × (not (beq (not (beq w.odd counted)) closing) ≡ answer)
body_ended w word m to counted closing words answer p (AtRings e _ _ _ _) s h k r = absurd (cc)
body_ended w word m to counted closing words answer p (AtCount e _ _ _ _) s h k r = absurd (cc)
body_ended w word m to counted closing words answer p (AtFirst e _ _ _ _ _ _) s h k r = absurd (cc)
body_ended w word m to counted closing words answer p (AtNext e vs rings coming n one g) s h k r =
    let l = last_at w word m to counted closing words answer vs rings coming n one g s h k in
    no_rings words _ answer w.point rings (coming.count ∙ r) l.0 l.1

-- ---- a whole body

pub answered : (r : Option Bool) (w : Walk) (words : List ℕ) (answer : Bool) → Answers r w words answer → is_some r ≡ true → r ≡ Some answer
answered (Some b) w words answer a e = ap (λ (v : Bool). Some v) a.1
answered None w words answer a e = absurd (cc)

pub going_on : (r : Option Bool) (w : Walk) (words : List ℕ) (answer : Bool) → Answers r w words answer → is_some r ≡ false → Expects w words answer
going_on (Some b) w words answer a e = absurd (cc)
going_on None w words answer a e = a.1

some_words : (w : Walk) (rings : List (List Point)) → 1 ≤ w.rings → Coming [] rings w.rings [] → ⊥
some_words w [] h c = omega (arith, c.count)
some_words w (r ∷ rs) h c = no_nil c.spelled refl

more_words : (vertices : List Point) (rings : List (List Point)) (r : ℕ) → 1 ≤ length vertices → Coming vertices rings r [] → ⊥
more_words [] rings r h c = omega (arith, h)
more_words (v ∷ vs) rings r h c = no_nil c.spelled refl

pub not_at_end : (w : Walk) (answer : Bool) → Expects w [] answer → ⊥
not_at_end w answer (AtRings e rings full spelled a) = no_nil spelled refl
not_at_end w answer (AtCount e rings coming one a) = some_words w rings one coming
not_at_end w answer (AtFirst e ring rings coming n three a) = more_words ring rings w.rings (omega (arith, three)) coming
not_at_end w answer (AtNext e vs rings coming n one a) = more_words vs rings w.rings one coming
