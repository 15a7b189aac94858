-- The zones that meet the leaf of a point.
use Rattle.std.proofs.Common.{◌≡◌, ℕ, suc, ◌+◌, ◌/◌, ◌%◌, ◌^◌, ◌<◌, ◌++◌, Bool, true, false, not, ◌&&◌, cond, pos, refl, sym, ap, ◌∙◌, arith, List, [], ◌∷◌, append_assoc, append-nil, filter, length, map}
use Rattle.std.specs.Prelude.{sum_by}
use Rattle.std.specs.List.{All}
use Rattle.std.proofs.lemmas.List.{map-append, length-map}
use Rattle.std.proofs.lemmas.List.Elements.{All-append, All-cons, All-nil}
use Rattle.std.proofs.lemmas.List.Sums.{sum_by-cons}
use Rattle.act_grid.specs.declared.layers.Layers.{Layers}
use Rattle.act_grid.specs.declared.Point.{Point}
use Rattle.act_grid.specs.Layers.{has_layer, layer_of}
use Rattle.act_base.specs.Counting.{times}
use Rattle.act_base.specs.Sight.{Sight}
use Rattle.act_entry.specs.declared.reference.Ref.{Ref}
use Rattle.act_super.specs.declared.entry.Zone.{Zone}
use Rattle.act_probe.specs.declared.buffers.Found.{Found}
use Rattle.act_probe.specs.Chains.{ChainAt, RefsOf, found_reads}
use Rattle.act_probe.specs.Reads.{body_reads}
use Rattle.act_probe.specs.declared.buffers.Named.{Named}
use Rattle.act_probe.specs.Batches.{Holds, Met, candidate_of, candidates_from, is_of, mets_by, pair_of, test_reads}
use Rattle.act_probe.specs.Names.{headed, named_by, named_of}
use Rattle.act_probe.proofs.ChainFacts.{first_key, held_first}

-- what stands behind the last reference, and the last zone
abbrev pub no_name : Named
no_name = record { r = record { row = 0; hit = false }; head = 0; place = 0; point = record { x = pos 0; y = pos 0 } }

abbrev pub no_met : Met
no_met = record { place = 0; point = record { x = pos 0; y = pos 0 }; zone = record { key = 0; shape = [] }; row = 0; hit = false }

-- the candidates of two lists
pub candidates-append : (x : Sight) (i : ℕ) (ms ns : List Met) → candidates_from x i (ms ++ ns) ≡ candidates_from x i ms ++ candidates_from x (i + length ms) ns
candidates-append x i [] ns = let e : i + 0 ≡ i = omega arith in ap (λ n. candidates_from x n ns) (sym e)
candidates-append x i (m ∷ ms) ns =
    let e : i + 1 + length ms ≡ i + suc (length ms) = omega arith in
    ap (λ cs. cond m.hit [] (candidate_of x i m ∷ []) ++ cs) (candidates-append x (i + 1) ms ns ∙ ap (λ n. candidates_from x (i + 1) ms ++ candidates_from x n ns) e)
    ∙ sym (append_assoc (cond m.hit [] (candidate_of x i m ∷ [])) (candidates_from x (i + 1) ms) (candidates_from x (i + suc (length ms)) ns))

-- one more was put
pub held_more : (x : Sight) (old new : Found) (mets : List Met) (m : Met) → Holds x old mets → ChainAt x m.zone m.row → new.hits.items ≡ old.hits.items ++ pair_of m ∷ []
    → new.kept.items ≡ old.kept.items ++ m.hit ∷ []
    → new.candidates.items ≡ old.candidates.items ++ cond m.hit [] (candidate_of x (length old.hits.items) m ∷ []) → Holds x new (mets ++ m ∷ [])
held_more x old new mets m h chain hits kept candidates = record {
  hits = hits ∙ ap (λ ps. ps ++ pair_of m ∷ []) h.hits ∙ sym (map-append pair_of mets (m ∷ []));
  kept = kept ∙ ap (λ bs. bs ++ m.hit ∷ []) h.kept ∙ sym (map-append (λ (n : Met). n.hit) mets (m ∷ []));
  candidates = (
      let long : length old.hits.items ≡ 0 + length mets = ap length h.hits ∙ length-map mets pair_of ∙ omega arith in
      candidates ∙ ap (λ cs. cs ++ cond m.hit [] (candidate_of x (length old.hits.items) m ∷ [])) h.candidates
      ∙ ap (λ cs. candidates_from x 0 mets ++ cs) (ap (λ n. cond m.hit [] (candidate_of x n m ∷ [])) long ∙ sym (append-nil (cond m.hit [] (candidate_of x (0 + length mets) m ∷ []))))
      ∙ sym (candidates-append x 0 mets (m ∷ [])));
  chains = All-append (λ (n : Met). ChainAt x n.zone n.row) mets (m ∷ []) h.chains (All-cons (λ (n : Met). ChainAt x n.zone n.row) m [] chain (All-nil (λ (n : Met). ChainAt x n.zone n.row)));
}

-- a reference was taken
module _ (x : Sight) (layers : Layers) (n : Named) (m : Met) (old new : Found) (mets : List Met) (is : n ≡ named_of x m) (chain : ChainAt x m.zone m.row) where
  key_is : n.head / 2 ^ 32 ≡ m.zone.key
  key_is = ap (λ (k : Named). k.head / 2 ^ 32) is ∙ first_key chain (x.word m.row 0) refl

  pub left_out : has_layer layers (layer_of (n.head / 2 ^ 32)) ≡ false → Holds x new mets → Holds x new (mets ++ filter (is_of layers) (m ∷ []))
  left_out has holds = rw (rw key_is at has, append-nil) holds

  pub put_in : has_layer layers (layer_of (n.head / 2 ^ 32)) ≡ true → Holds x old mets
      → new.hits.items ≡ old.hits.items ++ record { point = n.place; key = n.head / 2 ^ 32 } ∷ []
      → new.kept.items ≡ old.kept.items ++ n.r.hit ∷ []
      → new.candidates.items ≡ old.candidates.items ++ cond n.r.hit [] (record { row = n.r.row; next = n.head % 2 ^ 32; slot = length old.hits.items; point = n.point; odd = false } ∷ [])
      → Holds x new (mets ++ filter (is_of layers) (m ∷ []))
  put_in has holds hits kept candidates =
      rw (rw key_is at has) (held_more x old new mets m holds chain (rw (key_is, is) at hits) (rw is at kept) (rw is at candidates))

-- the words of the references, and of those to be tested
pub words_are : (x : Sight) (layers : Layers) (place : ℕ) (p : Point) (hit : Zone → Bool) (zones : List Zone) (refs : List Ref) → RefsOf x hit zones refs
    → length refs + sum_by test_reads (filter (is_of layers) (mets_by place p zones refs)) ≡ found_reads layers hit zones
words_are x layers place p hit [] [] h = refl
words_are x layers place p hit [] (r ∷ refs) h = absurd h
words_are x layers place p hit (z ∷ zones) [] h = absurd h
words_are x layers place p hit (z ∷ zones) (r ∷ refs) h =
    let rest = words_are x layers place p hit zones refs h.2 in
    omega (
      arith,
      rest,
      one (has_layer layers (layer_of z.key)) r.hit (filter (is_of layers) (mets_by place p zones refs)),
      ap (λ b. cond (has_layer layers (layer_of z.key) && not b) (body_reads z) 0) h.1,
    )
  where
    one : (has b : Bool) (ms : List Met) → sum_by test_reads (cond has (record { place = place; point = p; zone = z; row = r.row; hit = b } ∷ ms) ms) ≡ cond (has && not b) (body_reads z) 0 + sum_by test_reads ms
    one true true ms = sum_by-cons test_reads (record { place = place; point = p; zone = z; row = r.row; hit = true }) ms
    one true false ms = sum_by-cons test_reads (record { place = place; point = p; zone = z; row = r.row; hit = false }) ms
    one false b ms = omega arith

-- ---- the references of a leaf, with their zones
module _ (x : Sight) (place : ℕ) (p : Point) (hit : Zone → Bool) where
  pub names_here : (zones : List Zone) (refs : List Ref) → RefsOf x hit zones refs → map (headed x) (map (named_by place p) refs) ≡ map (named_of x) (mets_by place p zones refs)
  names_here [] [] h = refl
  names_here [] (r ∷ refs) h = absurd h
  names_here (z ∷ zones) [] h = absurd h
  names_here (z ∷ zones) (r ∷ refs) h = ap (λ (ns : List Named). headed x (named_by place p r) ∷ ns) (names_here zones refs h.2)

  pub chains_here : (zones : List Zone) (refs : List Ref) → RefsOf x hit zones refs → All (λ (m : Met). ChainAt x m.zone m.row) (mets_by place p zones refs)
  chains_here [] [] h = All-nil (λ (m : Met). ChainAt x m.zone m.row)
  chains_here [] (r ∷ refs) h = absurd h
  chains_here (z ∷ zones) [] h = absurd h
  chains_here (z ∷ zones) (r ∷ refs) h =
      All-cons (λ (m : Met). ChainAt x m.zone m.row) (record { place = place; point = p; zone = z; row = r.row; hit = r.hit }) (mets_by place p zones refs) h.0 (chains_here zones refs h.2)

  pub held_here : (zones : List Zone) (refs : List Ref) → RefsOf x hit zones refs → All (λ (n : Named). 0 < times x.rows n.r.row) (map (named_by place p) refs)
  held_here [] [] h = All-nil (λ (n : Named). 0 < times x.rows n.r.row)
  held_here [] (r ∷ refs) h = absurd h
  held_here (z ∷ zones) [] h = absurd h
  held_here (z ∷ zones) (r ∷ refs) h =
      All-cons (λ (n : Named). 0 < times x.rows n.r.row) (named_by place p r) (map (named_by place p) refs) (held_first h.0) (held_here zones refs h.2)
