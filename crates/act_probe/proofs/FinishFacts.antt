-- From the zones that are met to the pairs of the answer.
use Rattle.std.proofs.Common.{◌≡◌, ◌⊎◌, inl, inr, ℕ, zero, suc, ◌+◌, ◌≤◌, ◌<◌, ◌++◌, ◌||◌, Bool, true, false, cond, refl, sym, ap, ◌∙◌, subst, arith, List, [], ◌∷◌, length, map, filter, get_or, pos}
use Rattle.std.specs.Prelude.{sum_by}
use Rattle.std.specs.List.{All, AllByRecursion as Each, Contains}
use Rattle.std.specs.List.Sorted.{IsPermutation}
use Rattle.std.proofs.lemmas.List.{get_or-map, length-map}
use Rattle.std.proofs.lemmas.List.Elements.{All-from_recursion, recursion_from_All}
use Rattle.std.proofs.lemmas.List.Sorted.{All-permutation, Contains-permutation, IsPermutation-map, length_permutation, sum_by-IsPermutation}
use Rattle.std.proofs.lemmas.List.Sums.{sum_by-cons}
use Rattle.std.proofs.lemmas.Simd.{map-map}
use Rattle.act_geom.specs.Inside.{is_inside}
use Rattle.act_base.specs.Sight.{Sight}
use Rattle.act_super.specs.declared.entry.Zone.{Zone}
use Rattle.act_probe.specs.declared.buffers.Candidate.{Candidate}
use Rattle.act_probe.specs.declared.buffers.Found.{Found}
use Rattle.act_probe.specs.Reads.{body_reads}
use Rattle.act_probe.specs.Batches.{Asks, Holds, Met, Settles, answered, candidate_of, candidates_from, chosen, is_held, pair_of, test_reads}

-- what stands behind the last zone that is met
abbrev pub no_met : Met
no_met = record { place = 0; point = record { x = pos 0; y = pos 0 }; zone = record { key = 0; shape = [] }; row = 0; hit = false }

abbrev pub met_at : List Met → ℕ → Met
met_at mets k = get_or mets k no_met

-- the zone of a slot
abbrev pub zone_of : List Met → ℕ → Zone
zone_of mets k = (met_at mets k).zone

-- ---- each candidate is that of a slot
pub each_candidate : (P : Candidate → Type 0) (x : Sight) (i : ℕ) (mets : List Met)
    → ((k : ℕ) → k < length mets → (met_at mets k).hit ≡ false → P (candidate_of x (i + k) (met_at mets k))) → Each P (candidates_from x i mets)
each_candidate P x i [] h = tt
each_candidate P x i (m ∷ mets) h =
    by m.hit refl (each_candidate P x (i + 1) mets (λ k within is.
    let e : i + suc k ≡ i + 1 + k = omega arith in
    subst (λ n. P (candidate_of x n (met_at mets k))) e (h (suc k) (omega (arith, within)) is)))
  where
    by : (b : Bool) → m.hit ≡ b → Each P (candidates_from x (i + 1) mets) → Each P (cond b [] (candidate_of x i m ∷ []) ++ candidates_from x (i + 1) mets)
    by true is more = more
    by false is more = let e : i + 0 ≡ i = omega arith in (subst (λ n. P (candidate_of x n m)) e (h 0 (omega arith) is), more)

pub slot_of : (x : Sight) (i : ℕ) (mets : List Met) (k : ℕ) → k < length mets → (met_at mets k).hit ≡ false → Contains (map (λ (c : Candidate). c.slot) (candidates_from x i mets)) (i + k)
slot_of x i [] k within is = absurd (omega (arith, within))
slot_of x i (m ∷ mets) zero within is = let e : i ≡ i + 0 = omega arith in rw is (0, omega arith, e)
slot_of x i (m ∷ mets) (suc k) within is = by m.hit (slot_of x (i + 1) mets k (omega (arith, within)) is)
  where
    by : (b : Bool) → Contains (map (λ (c : Candidate). c.slot) (candidates_from x (i + 1) mets)) (i + 1 + k)
        → Contains (map (λ (c : Candidate). c.slot) (cond b [] (candidate_of x i m ∷ []) ++ candidates_from x (i + 1) mets)) (i + suc k)
    by true h = let e : i + 1 + k ≡ i + suc k = omega arith in subst (λ n. Contains (map (λ (c : Candidate). c.slot) (candidates_from x (i + 1) mets)) n) e h
    by false h =
        let e : i + 1 + k ≡ i + suc k = omega arith in
        subst (λ n. Contains (i ∷ map (λ (c : Candidate). c.slot) (candidates_from x (i + 1) mets)) n) e (suc h.0, omega (arith, h.1), h.2)

pub cost_is : (f : ℕ → Zone) (x : Sight) (i : ℕ) (mets : List Met) → ((k : ℕ) → k < length mets → f (i + k) ≡ zone_of mets k)
    → sum_by (λ (c : Candidate). body_reads (f c.slot)) (candidates_from x i mets) ≡ sum_by test_reads mets
cost_is f x i [] h = refl
cost_is f x i (m ∷ mets) h =
    by m.hit (cost_is f x (i + 1) mets (λ k within. let e : i + 1 + k ≡ i + suc k = omega arith in ap f e ∙ h (suc k) (omega (arith, within))))
    ∙ sym (sum_by-cons test_reads m mets)
  where
    by : (b : Bool) → sum_by (λ (c : Candidate). body_reads (f c.slot)) (candidates_from x (i + 1) mets) ≡ sum_by test_reads mets
        → sum_by (λ (c : Candidate). body_reads (f c.slot)) (cond b [] (candidate_of x i m ∷ []) ++ candidates_from x (i + 1) mets) ≡ cond b 0 (body_reads m.zone) + sum_by test_reads mets
    by true more = more ∙ omega arith
    by false more =
        let e : i ≡ i + 0 = omega arith in
        sum_by-cons (λ (c : Candidate). body_reads (f c.slot)) (candidate_of x i m) (candidates_from x (i + 1) mets)
        ∙ omega (arith, more, ap body_reads (ap f e ∙ h 0 (omega arith)))

pub few_candidates : (x : Sight) (i : ℕ) (mets : List Met) → length (candidates_from x i mets) ≤ length mets
few_candidates x i [] = omega arith
few_candidates x i (m ∷ mets) = by m.hit (few_candidates x (i + 1) mets)
  where
    by : (b : Bool) → length (candidates_from x (i + 1) mets) ≤ length mets → length (cond b [] (candidate_of x i m ∷ []) ++ candidates_from x (i + 1) mets) ≤ suc (length mets)
    by true few = omega (arith, few)
    by false few = omega (arith, few)

-- ---- the pairs of the zones that hold their points
pub chosen_are : (mets : List Met) → chosen (map is_held mets) (map pair_of mets) ≡ map pair_of (filter is_held mets)
chosen_are [] = refl
chosen_are (m ∷ mets) = by (is_held m) (chosen_are mets)
  where
    by : (b : Bool) → chosen (map is_held mets) (map pair_of mets) ≡ map pair_of (filter is_held mets)
        → cond b (pair_of m ∷ chosen (map is_held mets) (map pair_of mets)) (chosen (map is_held mets) (map pair_of mets)) ≡ map pair_of (cond b (m ∷ filter is_held mets) (filter is_held mets))
    by true more = ap (λ l. pair_of m ∷ l) more
    by false more = more

each_map : {X Y : Type 0} (P : Y → Type 0) (f : X → Y) (xs : List X) → Each (λ x. P (f x)) xs → Each P (map f xs)
each_map P f [] each = tt
each_map P f (x ∷ xs) each = (each.0, each_map P f xs each.1)

-- ---- what was gathered, with its candidates in another order
module _ (x : Sight) (found : Found) (mets : List Met) (h : Holds x found mets) where
  asks_from : Each (λ (c : Candidate). Asks x (zone_of mets c.slot) c) (candidates_from x 0 mets)
  asks_from =
      each_candidate (λ (c : Candidate). Asks x (zone_of mets c.slot) c) x 0 mets (λ k within is.
      let e : 0 + k ≡ k = omega arith in
      record { chain = rw e (h.chains k no_met within); next = refl; even = refl })

  abbrev answers : List Bool
  answers = map is_held mets

  tells_from : Each (λ (c : Candidate). get_or answers c.slot false ≡ is_inside (zone_of mets c.slot).shape c.point) (candidates_from x 0 mets)
  tells_from =
      each_candidate (λ (c : Candidate). get_or answers c.slot false ≡ is_inside (zone_of mets c.slot).shape c.point) x 0 mets (λ k within is.
      let e : 0 + k ≡ k = omega arith in
      rw e (get_or-map is_held mets k no_met false within ∙ ap (λ b. b || is_inside (met_at mets k).zone.shape (met_at mets k).point) is))

  within_from : Each (λ (c : Candidate). c.slot < length mets) (candidates_from x 0 mets)
  within_from = each_candidate (λ (c : Candidate). c.slot < length mets) x 0 mets (λ k within is. omega (arith, within))

  module _ (cs : List Candidate) (order : IsPermutation found.candidates.items cs) where
    abbrev same : IsPermutation (candidates_from x 0 mets) cs
    same = rw h.candidates at order

    pub asks : All (λ (c : Candidate). Asks x (zone_of mets c.slot) c) cs
    asks = All-permutation (λ (c : Candidate). Asks x (zone_of mets c.slot) c) (candidates_from x 0 mets) cs same (All-from_recursion (λ (c : Candidate). Asks x (zone_of mets c.slot) c) (candidates_from x 0 mets) asks_from)

    pub cost : sum_by (λ (c : Candidate). body_reads (zone_of mets c.slot)) cs ≡ sum_by test_reads mets
    cost =
        sum_by-IsPermutation (λ (c : Candidate). body_reads (zone_of mets c.slot)) (candidates_from x 0 mets) cs same
        ∙ cost_is (zone_of mets) x 0 mets (λ k within. let e : 0 + k ≡ k = omega arith in ap (zone_of mets) e)

    pub few : length cs ≤ length found.hits.items
    few = omega (arith, length_permutation (candidates_from x 0 mets) cs same, few_candidates x 0 mets, ap length h.hits, length-map mets pair_of)

    -- ---- once they were tested
    module _ (tested : List Candidate) (odd : tested ≡ map (answered (zone_of mets)) cs) where
      slots_same : map (λ (c : Candidate). c.slot) tested ≡ map (λ (c : Candidate). c.slot) cs
      slots_same = ap (map (λ (c : Candidate). c.slot)) odd ∙ map-map (λ (c : Candidate). c.slot) (answered (zone_of mets)) cs

      pub within : All (λ (c : Candidate). c.slot < length found.kept.items) tested
      within =
          let long : length found.kept.items ≡ length mets = ap length h.kept ∙ length-map mets (λ (m : Met). m.hit) in
          rw (long, odd) (
          All-from_recursion (λ (c : Candidate). c.slot < length mets) (map (answered (zone_of mets)) cs) (each_map (λ (c : Candidate). c.slot < length mets) (answered (zone_of mets)) cs (
          recursion_from_All (λ (c : Candidate). c.slot < length mets) cs
          (All-permutation (λ (c : Candidate). c.slot < length mets) (candidates_from x 0 mets) cs same (All-from_recursion (λ (c : Candidate). c.slot < length mets) (candidates_from x 0 mets) within_from))
          ))
          )

      pub settles : Settles found.kept.items answers tested
      settles = record {
        long = ap length h.kept ∙ length-map mets (λ (m : Met). m.hit) ∙ sym (length-map mets is_held);
        told = rw odd (
            All-from_recursion (λ (c : Candidate). get_or answers c.slot false ≡ c.odd) (map (answered (zone_of mets)) cs) (
            each_map (λ (c : Candidate). get_or answers c.slot false ≡ c.odd) (answered (zone_of mets)) cs (
            recursion_from_All (λ (c : Candidate). get_or answers c.slot false ≡ is_inside (zone_of mets c.slot).shape c.point) cs (
            All-permutation (λ (c : Candidate). get_or answers c.slot false ≡ is_inside (zone_of mets c.slot).shape c.point) (candidates_from x 0 mets) cs same
            (All-from_recursion (λ (c : Candidate). get_or answers c.slot false ≡ is_inside (zone_of mets c.slot).shape c.point) (candidates_from x 0 mets) tells_from)
            )
            )
            )
            );
        rest = λ i inside. rest_at i (omega (arith, inside, length-map mets is_held)) (met_at mets i).hit refl;
      }
        where
          rest_at : (i : ℕ) → i < length mets → (b : Bool) → (met_at mets i).hit ≡ b
              → (get_or found.kept.items i false ≡ get_or answers i false) ⊎ Contains (map (λ (c : Candidate). c.slot) tested) i
          rest_at i inside true is =
              inl (
              ap (λ l. get_or l i false) h.kept ∙ get_or-map (λ (m : Met). m.hit) mets i no_met false inside ∙ is
              ∙ sym (get_or-map is_held mets i no_met false inside ∙ ap (λ b. b || is_inside (met_at mets i).zone.shape (met_at mets i).point) is)
              )
          rest_at i inside false is =
              let e : 0 + i ≡ i = omega arith in
              inr (
              subst (λ l. Contains l i) (sym slots_same) (
              Contains-permutation (map (λ (c : Candidate). c.slot) (candidates_from x 0 mets)) (map (λ (c : Candidate). c.slot) cs) i
              (IsPermutation-map (λ (c : Candidate). c.slot) (candidates_from x 0 mets) cs same) (subst (λ n. Contains (map (λ (c : Candidate). c.slot) (candidates_from x 0 mets)) n) e (slot_of x 0 mets i inside is))
              )
              )

  pub hits_are : chosen answers found.hits.items ≡ map pair_of (filter is_held mets)
  hits_are = ap (chosen answers) h.hits ∙ chosen_are mets
