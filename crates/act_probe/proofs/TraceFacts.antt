-- One word of a body for all candidates of a zone.
use Rattle.std.proofs.Common.{◌≡◌, ◌≢◌, ℕ, suc, ◌-◌, ◌<◌, ◌≤◌, Bool, true, false, not, refl, sym, ap, ◌∙◌, subst, arith, List, [], ◌∷◌, length, map, get_or}
use Rattle.std.specs.List.{All}
use Rattle.std.proofs.lemmas.List.{get_or-map, length-map}
use mathlib.Core.Bool.{beq}
use Rattle.act_grid.specs.declared.Point.{Point}
use Rattle.act_geom.specs.Body.{body_of, vertex_word}
use Rattle.act_geom.specs.Inside.{counts, differ, is_inside}
use Rattle.act_geom.specs.Walk.{Expects}
use Rattle.act_geom.specs.Walk.Expects.{AtRings, AtCount, AtFirst, AtNext}
use Rattle.act_geom.specs.declared.walk.Phase.TheVariants as phase
use Rattle.act_geom.specs.declared.walk.Walk.{Walk}
use Rattle.act_geom.proofs.WalkFacts.{body_ended, count_taken, first_taken, next_taken, ring_ended, rings_taken}
use Rattle.act_super.specs.declared.entry.Zone.{Zone}
use Rattle.act_probe.specs.declared.buffers.Candidate.{Candidate}
use Rattle.act_probe.specs.declared.trace.Stage.TheVariants as stage
use Rattle.act_probe.specs.declared.trace.Trace.{Trace}
use Rattle.act_probe.specs.Batches.{answered}
use Rattle.act_probe.specs.Sweeps.{Ends, at_rest, crossed, phase_of, walk_of}

pub differ_is : (b c : Bool) → differ b c ≡ not (beq b c)
differ_is true true = refl
differ_is true false = refl
differ_is false true = refl
differ_is false false = refl

-- a shape without rings has one word, and holds no point
pub no_rings : (w : Walk) (words : List ℕ) (answer : Bool) → w.phase ≡ phase.Rings → Expects w (0 ∷ words) answer → (words ≡ []) × (false ≡ answer)
no_rings w words answer p (AtRings e [] full spelled a) = (cc, a)
no_rings w words answer p (AtRings e (r ∷ rs) full spelled a) = absurd (cc)
no_rings w words answer p (AtCount e _ _ _ _) = absurd (cc)
no_rings w words answer p (AtFirst e _ _ _ _ _ _) = absurd (cc)
no_rings w words answer p (AtNext e _ _ _ _ _ _) = absurd (cc)

module _ (t : Trace) (c : Candidate) (word : ℕ) (words : List ℕ) (answer : Bool) (e : Expects (walk_of t c) (word ∷ words) answer) where
  pub rings_end : t.stage ≡ stage.Rings → c.odd ≡ false → word ≡ 0 → (words ≡ []) × (c.odd ≡ answer)
  rings_end p even none =
      let got = no_rings (walk_of t c) words answer (ap phase_of p) (subst (λ n. Expects (walk_of t c) (n ∷ words) answer) none e) in
      (got.0, even ∙ got.1)

  pub rings_follow : t.stage ≡ stage.Rings → c.odd ≡ false → word ≢ 0
      → (words ≢ []) × Expects (walk_of (record { stage = stage.Count; rings = word; vertices = t.vertices; first = t.first; last = t.last; at = t.at }) c) words answer
  rings_follow p even some =
      let got = rings_taken (walk_of t c) word words answer (ap phase_of p) e some in
      (got.0, subst (λ o. Expects (record { point = c.point; phase = phase.Count; odd = o; rings = word; vertices = t.vertices; first = t.first; last = t.last }) words answer) (sym even) got.1)

  pub count_follows : (m : ℕ) → t.stage ≡ stage.Count → m ≡ t.rings - 1
      → (words ≢ []) × Expects (walk_of (record { stage = stage.First; rings = m; vertices = word; first = t.first; last = t.last; at = t.at }) c) words answer
  count_follows m p left = count_taken (walk_of t c) word m words answer (ap phase_of p) e left

  pub first_follows : (m at : ℕ) (to : Point) → t.stage ≡ stage.First → ((v : Point) → vertex_word v ≡ word → to ≡ v) → m ≡ t.vertices - 1
      → (words ≢ []) × Expects (walk_of (record { stage = stage.Next; rings = t.rings; vertices = m; first = to; last = to; at = at }) c) words answer
  first_follows m at to p read left = first_taken (walk_of t c) word m to words answer (ap phase_of p) e read left

  -- a further vertex
  module _ (m at : ℕ) (to : Point) (p : t.stage ≡ stage.Next) (read : (v : Point) → vertex_word v ≡ word → to ≡ v) (left : m ≡ t.vertices - 1) where
    abbrev once : Candidate
    once = crossed t.last to c

    abbrev twice : Candidate
    twice = crossed to t.first once

    pub next_follows : 0 < m → (words ≢ []) × Expects (walk_of (record { stage = t.stage; rings = t.rings; vertices = m; first = t.first; last = to; at = at }) once) words answer
    next_follows some =
        let got = next_taken (walk_of t c) word m to (counts c.point (record { a = t.last; b = to })) words answer (ap phase_of p) e (record { read = read; tested = refl; left = left }) some in (
          got.0,
          subst (λ o. Expects (record { point = c.point; phase = phase_of t.stage; odd = o; rings = t.rings; vertices = m; first = t.first; last = to }) words answer)
              (sym (differ_is c.odd (counts c.point (record { a = t.last; b = to })))) got.1,
        )

    both : twice.odd ≡ not (beq (not (beq c.odd (counts c.point (record { a = t.last; b = to })))) (counts c.point (record { a = to; b = t.first })))
    both =
        differ_is (differ c.odd (counts c.point (record { a = t.last; b = to }))) (counts c.point (record { a = to; b = t.first }))
        ∙ ap (λ o. not (beq o (counts c.point (record { a = to; b = t.first })))) (differ_is c.odd (counts c.point (record { a = t.last; b = to })))

    pub ring_follows : m ≡ 0 → t.rings ≢ 0 → (words ≢ []) × Expects (walk_of (record { stage = stage.Count; rings = t.rings; vertices = m; first = t.first; last = to; at = at }) twice) words answer
    ring_follows none more =
        let got = ring_ended (walk_of t c) word m to (counts c.point (record { a = t.last; b = to })) (counts c.point (record { a = to; b = t.first })) words answer (ap phase_of p) e
        (record { read = read; tested = refl; left = left }) none refl more in
        (got.0, subst (λ o. Expects (record { point = c.point; phase = phase.Count; odd = o; rings = t.rings; vertices = m; first = t.first; last = to }) words answer) (sym both) got.1)

    pub body_follows : m ≡ 0 → t.rings ≡ 0 → (words ≡ []) × (twice.odd ≡ answer)
    body_follows none last =
        let got = body_ended (walk_of t c) word m to (counts c.point (record { a = t.last; b = to })) (counts c.point (record { a = to; b = t.first })) words answer (ap phase_of p) e
        (record { read = read; tested = refl; left = left }) none refl last in
        (got.0, both ∙ got.1)

-- ---- all candidates
pub crossed_at : (a b : Point) (xs ys : List Candidate) (k : ℕ) (d : Candidate) → k < length xs → ys ≡ map (crossed a b) xs → get_or ys k d ≡ crossed a b (get_or xs k d)
crossed_at a b xs ys k d within is = ap (λ l. get_or l k d) is ∙ get_or-map (crossed a b) xs k d d within

pub crossed_twice : (a b e : Point) (xs ys zs : List Candidate) (k : ℕ) (d : Candidate) → k < length xs → ys ≡ map (crossed a b) xs → zs ≡ map (crossed b e) ys
    → get_or zs k d ≡ crossed b e (crossed a b (get_or xs k d))
crossed_twice a b e xs ys zs k d within one two =
    crossed_at b e ys zs k d (omega (arith, within, ap length one, length-map xs (crossed a b))) two ∙ ap (crossed b e) (crossed_at a b xs ys k d within one)

-- ---- the counts of a whole run
same_head : {X : Type 0} {x y : X} {xs ys : List X} → x ∷ xs ≡ y ∷ ys → x ≡ y
same_head e = cc

same_tail : {X : Type 0} {x y : X} {xs ys : List X} → x ∷ xs ≡ y ∷ ys → xs ≡ ys
same_tail e = cc

pub rest_long : (new old : List Candidate) → map at_rest new ≡ map at_rest old → length new ≡ length old
rest_long new old same = sym (length-map new at_rest) ∙ ap length same ∙ length-map old at_rest

pub rest_answered : (zones : ℕ → Zone) (new old : List Candidate) → map at_rest new ≡ map at_rest old
    → ((i : ℕ) (d : Candidate) → i < length old → (get_or new i d).odd ≡ is_inside (zones (get_or old i d).slot).shape (get_or old i d).point) → new ≡ map (answered zones) old
rest_answered zones [] [] same odd = refl
rest_answered zones [] (y ∷ old) same odd = absurd (cc)
rest_answered zones (x ∷ new) [] same odd = absurd (cc)
rest_answered zones (x ∷ new) (y ∷ old) same odd =
    let e : at_rest x ≡ at_rest y = same_head same in
    let o : x.odd ≡ is_inside (zones y.slot).shape y.point = odd 0 x (omega arith) in
    let h : x ≡ answered zones y = (λ i. record (e i) { odd = o i }) in
    λ i. h i ∷ rest_answered zones new old (same_tail same) (λ k d within. odd (suc k) d (omega (arith, within))) i

-- what a word makes of a walk, at its end and before
pub at_end : (done : Bool) (w : Walk) (words : List ℕ) (answer : Bool) → done ≡ true → Ends done w words answer → w.odd ≡ answer
at_end true w words answer is h = h.1
at_end false w words answer is h = absurd (cc)

pub not_yet : (done : Bool) (w : Walk) (words : List ℕ) (answer : Bool) → done ≡ false → Ends done w words answer → Expects w words answer
not_yet true w words answer is h = absurd (cc)
not_yet false w words answer is h = h.1

-- before the first word
pub begun : (t : Trace) (c : Candidate) (rings : List (List Point)) → t.stage ≡ stage.Rings → All (λ (ring : List Point). 3 ≤ length ring) rings → Expects (walk_of t c) (body_of rings) (is_inside rings c.point)
begun t c rings is full = AtRings (ap phase_of is) rings full refl refl
