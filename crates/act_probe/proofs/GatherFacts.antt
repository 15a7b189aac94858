-- What is gathered for a group of points.
use Rattle.std.proofs.Common.{◌≡◌, ℕ, zero, suc, ◌+◌, ◌/◌, ◌==◌, ◌≤◌, ◌<◌, ◌++◌, Bool, true, false, ◌&&◌, ◌||◌, cond, refl, sym, ap, ◌∙◌, arith, List, [], ◌∷◌, append_assoc, length, map, filter}
use Rattle.std.specs.Prelude.{sum_by}
use Rattle.std.specs.List.{All, AllByRecursion as Each}
use Rattle.std.proofs.lemmas.List.{length-append, length-map, map-append}
use Rattle.std.proofs.lemmas.Simd.{map-map}
use Rattle.std.proofs.lemmas.List.Elements.{All-append, All-nil, filter-append, recursion_from_All}
use Rattle.std.proofs.lemmas.List.Sums.{sum_by-append, sum_by-cons}
use Rattle.act_grid.specs.declared.layers.Layers.{Layers}
use Rattle.act_grid.specs.declared.Point.{Point}
use Rattle.act_grid.specs.declared.Settings.{Settings}
use Rattle.act_grid.specs.Cell.{hull_of}
use Rattle.act_grid.specs.Hull.{IsIn}
use Rattle.act_grid.specs.Layers.{has_layer, layer_of}
use Rattle.act_geom.specs.Inside.{is_inside}
use Rattle.act_base.specs.Counting.{times}
use Rattle.act_base.specs.Sight.{Sight}
use Rattle.act_entry.specs.declared.reference.Ref.{Ref}
use Rattle.act_entry.specs.declared.entry.Entry.{Entry}
use Rattle.act_super.specs.declared.entry.State.{State}
use Rattle.act_super.specs.declared.entry.Zone.{Zone}
use Rattle.act_super.specs.Joins.{Hit, join, join_from, zones_at}
use Rattle.act_super.specs.Nodes.{count_at}
use Rattle.act_super.specs.Sizes.{refs_of}
use Rattle.act_super.specs.Stands.{Stands, ref_in, refs_in}
use Rattle.act_probe.specs.declared.buffers.Found.{Found}
use Rattle.act_probe.specs.declared.buffers.Named.{Named}
use Rattle.act_probe.specs.Chains.{ChainAt, RefsOf, found_keys}
use Rattle.act_probe.specs.Reads.{list_reads, reads_of}
use Rattle.act_probe.specs.Ways.{IsReached, leaf_of}
use Rattle.act_probe.specs.Batches.{Gathers, Holds, Met, hit_of, is_held, is_of, mets_by, pair_of, test_reads}
use Rattle.act_probe.specs.Names.{headed, leaf_reads, named_at, named_by, named_from, named_of}
use Rattle.act_probe.proofs.FoundFacts.{found_is, reads_are}
use Rattle.act_probe.proofs.MetFacts.{chains_here, held_here, names_here, words_are}
use Rattle.act_probe.proofs.StandFacts.{hit_on, refs_at, zones_on}

-- the pairs of two lists of points
pub join-append : (layers : Layers) (zones : List Zone) (i : ℕ) (xs ys : List Point) → join_from i layers zones (xs ++ ys) ≡ join_from i layers zones xs ++ join_from (i + length xs) layers zones ys
join-append layers zones i [] ys = let e : i + 0 ≡ i = omega arith in ap (λ n. join_from n layers zones ys) (sym e)
join-append layers zones i (p ∷ xs) ys =
    let e : i + 1 + length xs ≡ i + suc (length xs) = omega arith in
    let here : List Hit = map (λ (zone : Zone). record { point = i; key = zone.key }) (zones_at layers zones p) in
    ap (λ hs. here ++ hs) (join-append layers zones (i + 1) xs ys ∙ ap (λ n. join_from (i + 1) layers zones xs ++ join_from n layers zones ys) e)
    ∙ sym (append_assoc here (join_from (i + 1) layers zones xs) (join_from (i + suc (length xs)) layers zones ys))

-- the pair of a met zone
abbrev pub met_hit : Met → Hit
met_hit m = hit_of (pair_of m)

-- the zones of the layers that are met and hold the point, by their keys
held_keys : (x : Sight) (layers : Layers) (place : ℕ) (p : Point) (hit : Zone → Bool) (zones : List Zone) (refs : List Ref) → RefsOf x hit zones refs
    → map met_hit (filter is_held (filter (is_of layers) (mets_by place p zones refs))) ≡ map (λ k. record { point = place; key = k }) (found_keys layers p hit zones)
held_keys x layers place p hit [] [] h = refl
held_keys x layers place p hit [] (r ∷ refs) h = absurd h
held_keys x layers place p hit (z ∷ zones) [] h = absurd h
held_keys x layers place p hit (z ∷ zones) (r ∷ refs) h =
    one (has_layer layers (layer_of z.key)) r.hit (is_inside z.shape p) (filter (is_of layers) (mets_by place p zones refs)) (found_keys layers p hit zones) refl (held_keys x layers place p hit zones refs h.2)
    ∙ ap (λ b. map (λ k. record { point = place; key = k }) (cond (has_layer layers (layer_of z.key) && (b || is_inside z.shape p)) (z.key ∷ found_keys layers p hit zones) (found_keys layers p hit zones))) h.1
  where
    one : (has b inside : Bool) (ms : List Met) (ks : List ℕ) → inside ≡ is_inside z.shape p → map met_hit (filter is_held ms) ≡ map (λ k. record { point = place; key = k }) ks
        → map met_hit (filter is_held (cond has (record { place = place; point = p; zone = z; row = r.row; hit = b } ∷ ms) ms)) ≡ map (λ k. record { point = place; key = k }) (cond (has && (b || inside)) (z.key ∷ ks) ks)
    one true true inside ms ks e same = ap (λ (hs : List Hit). record { point = place; key = z.key } ∷ hs) same
    one true false true ms ks e same = rw (← e) (ap (λ (hs : List Hit). record { point = place; key = z.key } ∷ hs) same)
    one true false false ms ks e same = rw (← e) same
    one false b inside ms ks e same = same

module _ {settings : Settings} {x : Sight} {root : ℕ} {state : State} (s : Stands settings x root state) where
  abbrev leaf_zones : Point → List Zone
  leaf_zones p = zones_on (leaf_of settings state p) state.zones

  abbrev leaf_refs : Point → List Ref
  leaf_refs p = refs_in s.layout (refs_of state.zones (leaf_of settings state p))

  refs_are : (p : Point) → RefsOf x (hit_on (leaf_of settings state p)) (leaf_zones p) (leaf_refs p)
  refs_are p = refs_at settings x root state s.served s.layout s.by_rows (leaf_of settings state p)

  -- the zones that the leaves of points name
  abbrev pub mets_from : ℕ → List Point → List Met
  mets_from i [] = []
  mets_from i (p ∷ points) = mets_by i p (leaf_zones p) (leaf_refs p) ++ mets_from (i + 1) points

  pub names_from : (i : ℕ) (points : List Point) → map (headed x) (named_from s.layout settings state i points) ≡ map (named_of x) (mets_from i points)
  names_from i [] = refl
  names_from i (p ∷ points) =
      map-append (headed x) (named_at s.layout settings state i p) (named_from s.layout settings state (i + 1) points)
      ∙ ap (λ (ns : List Named). ns ++ map (headed x) (named_from s.layout settings state (i + 1) points)) (names_here x i p (hit_on (leaf_of settings state p)) (leaf_zones p) (leaf_refs p) (refs_are p))
      ∙ ap (λ (ns : List Named). map (named_of x) (mets_by i p (leaf_zones p) (leaf_refs p)) ++ ns) (names_from (i + 1) points)
      ∙ sym (map-append (named_of x) (mets_by i p (leaf_zones p) (leaf_refs p)) (mets_from (i + 1) points))

  pub chains_from : (i : ℕ) (points : List Point) → All (λ (m : Met). ChainAt x m.zone m.row) (mets_from i points)
  chains_from i [] = All-nil (λ (m : Met). ChainAt x m.zone m.row)
  chains_from i (p ∷ points) =
      All-append (λ (m : Met). ChainAt x m.zone m.row) (mets_by i p (leaf_zones p) (leaf_refs p)) (mets_from (i + 1) points)
      (chains_here x i p (hit_on (leaf_of settings state p)) (leaf_zones p) (leaf_refs p) (refs_are p)) (chains_from (i + 1) points)

  pub held_from : (i : ℕ) (points : List Point) → All (λ (n : Named). 0 < times x.rows n.r.row) (named_from s.layout settings state i points)
  held_from i [] = All-nil (λ (n : Named). 0 < times x.rows n.r.row)
  held_from i (p ∷ points) =
      All-append (λ (n : Named). 0 < times x.rows n.r.row) (named_at s.layout settings state i p) (named_from s.layout settings state (i + 1) points)
      (held_here x i p (hit_on (leaf_of settings state p)) (leaf_zones p) (leaf_refs p) (refs_are p)) (held_from (i + 1) points)

  module _ (layers : Layers) where
    -- the pairs of a point
    pairs_here : (place : ℕ) (p : Point) → IsIn (hull_of (leaf_of settings state p)) p
        → map met_hit (filter is_held (filter (is_of layers) (mets_by place p (leaf_zones p) (leaf_refs p)))) ≡ map (λ (zone : Zone). record { point = place; key = zone.key }) (zones_at layers state.zones p)
    pairs_here place p inside =
        held_keys x layers place p (hit_on (leaf_of settings state p)) (leaf_zones p) (leaf_refs p) (refs_are p)
        ∙ ap (map (λ k. record { point = place; key = k })) (found_is layers p (leaf_of settings state p) inside state.zones)
        ∙ map-map (λ k. record { point = place; key = k }) (λ (zone : Zone). zone.key) (zones_at layers state.zones p)

    pairs_from : (i : ℕ) (points : List Point) → Each (λ p. IsIn (hull_of (leaf_of settings state p)) p) points
        → map met_hit (filter is_held (filter (is_of layers) (mets_from i points))) ≡ join_from i layers state.zones points
    pairs_from i [] each = refl
    pairs_from i (p ∷ points) each =
        let here = mets_by i p (leaf_zones p) (leaf_refs p) in
        let rest = mets_from (i + 1) points in
        ap (λ (ms : List Met). map met_hit (filter is_held ms)) (filter-append (is_of layers) here rest)
        ∙ ap (map met_hit) (filter-append is_held (filter (is_of layers) here) (filter (is_of layers) rest))
        ∙ map-append met_hit (filter is_held (filter (is_of layers) here)) (filter is_held (filter (is_of layers) rest))
        ∙ ap (λ (hs : List Hit). hs ++ map met_hit (filter is_held (filter (is_of layers) rest))) (pairs_here i p each.0)
        ∙ ap (λ (hs : List Hit). map (λ (zone : Zone). record { point = i; key = zone.key }) (zones_at layers state.zones p) ++ hs) (pairs_from (i + 1) points each.1)

    -- the words of a point: those that tell its references, one a reference, and those of the tests
    reads_here : (place : ℕ) (p : Point)
        → leaf_reads settings state p + length (leaf_refs p) + sum_by test_reads (filter (is_of layers) (mets_by place p (leaf_zones p) (leaf_refs p))) ≤ reads_of settings state p layers
    unfolding reads_of
    reads_here place p =
        let same : length (leaf_refs p) ≡ count_at state (leaf_of settings state p) = length-map (refs_of state.zones (leaf_of settings state p)) (ref_in s.layout) in
        let long : count_at state (leaf_of settings state p) ≡ length (leaf_zones p) = length-map (leaf_zones p) _ in
        omega (
          arith,
          same,
          long,
          words_are x layers place p (hit_on (leaf_of settings state p)) (leaf_zones p) (leaf_refs p) (refs_are p),
          reads_are layers (leaf_of settings state p) state.zones,
        )

    reads_from : (i : ℕ) (points : List Point)
        → sum_by (leaf_reads settings state) points + length (named_from s.layout settings state i points) + sum_by test_reads (filter (is_of layers) (mets_from i points))
        ≤ sum_by (λ p. reads_of settings state p layers) points
    reads_from i [] = omega arith
    reads_from i (p ∷ points) =
        let here = mets_by i p (leaf_zones p) (leaf_refs p) in
        let rest = mets_from (i + 1) points in
        omega (
          arith,
          reads_here i p,
          reads_from (i + 1) points,
          sum_by-cons (leaf_reads settings state) p points,
          sum_by-cons (λ q. reads_of settings state q layers) p points,
          length-append (named_at s.layout settings state i p) (named_from s.layout settings state (i + 1) points),
          length-map (leaf_refs p) (named_by i p),
          ap (sum_by test_reads) (filter-append (is_of layers) here rest) ∙ sum_by-append test_reads (filter (is_of layers) here) (filter (is_of layers) rest),
        )

    -- points more were gathered
    pub gathered : (first : ℕ) (points more : List Point) (old new : Found) → length points ≡ first → All (λ p. IsIn (hull_of (leaf_of settings state p)) p) more
        → (g : Gathers x settings state layers points old) → Holds x new (g.mets ++ filter (is_of layers) (mets_from first more))
        → new.reads ≤ old.reads + sum_by (leaf_reads settings state) more + length (named_from s.layout settings state first more) → Gathers x settings state layers (points ++ more) new
    gathered first points more old new long inside g holds few = record {
      mets = g.mets ++ filter (is_of layers) (mets_from first more);
      holds = holds;
      are = (
          let e : 0 + length points ≡ first = omega (arith, long) in
          ap (map met_hit) (filter-append is_held g.mets (filter (is_of layers) (mets_from first more)))
          ∙ map-append met_hit (filter is_held g.mets) (filter is_held (filter (is_of layers) (mets_from first more)))
          ∙ ap (λ (hs : List Hit). hs ++ map met_hit (filter is_held (filter (is_of layers) (mets_from first more)))) g.are
          ∙ ap (λ (hs : List Hit). join layers state.zones points ++ hs) (pairs_from first more (recursion_from_All (λ p. IsIn (hull_of (leaf_of settings state p)) p) more inside) ∙ ap (λ n. join_from n layers state.zones more) (sym e))
          ∙ sym (join-append layers state.zones 0 points more));
      few = omega (
        arith,
        few,
        g.few,
        reads_from first more,
        sum_by-append test_reads g.mets (filter (is_of layers) (mets_from first more)),
        sum_by-append (λ q. reads_of settings state q layers) points more,
      );
    }

    -- no more words were read for them than by the points one by one
    pub few_from : (first : ℕ) (points : List Point) (old new : ℕ) → new ≤ old + sum_by (leaf_reads settings state) points + length (named_from s.layout settings state first points)
        → new ≤ old + sum_by (λ p. reads_of settings state p layers) points
    few_from first points old new few = omega (arith, few, reads_from first points)

-- the words that tell the references of a point's leaf
pub few_here : {settings : Settings} {x : Sight} {root : ℕ} {state : State} (s : Stands settings x root state) (p : Point) (entry : Entry) (nodes : ℕ) → IsReached settings state s.layout p entry nodes
    → (old new : ℕ) → new ≤ old + list_reads (length (refs_in s.layout (refs_of state.zones (leaf_of settings state p)))) → new + nodes ≤ old + leaf_reads settings state p
few_here {settings} {x} {root} {state} s p entry nodes reached old new few =
    let same : length (refs_in s.layout (refs_of state.zones (leaf_of settings state p))) ≡ count_at state (leaf_of settings state p) = length-map (refs_of state.zones (leaf_of settings state p)) (ref_in s.layout) in
    omega (arith, few, ap list_reads same, reached.count)

-- a word or more is read for each point
some_read : (settings : Settings) (state : State) (layers : Layers) (p : Point) → 1 ≤ reads_of settings state p layers
unfolding reads_of
some_read settings state layers p = omega (arith, some_nodes (leaf_of settings state p).level)
  where
    some_nodes : (level : ℕ) → 1 ≤ cond (level == 0) 1 ((level + 3) / 4)
    some_nodes zero = omega arith
    some_nodes (suc level) = many (suc level == 0) refl
      where
        many : (b : Bool) → (suc level == 0) ≡ b → 1 ≤ cond b 1 ((suc level + 3) / 4)
        many true is = omega arith
        many false is = omega arith

pub each_read : (settings : Settings) (state : State) (layers : Layers) (points : List Point) → length points ≤ sum_by (λ p. reads_of settings state p layers) points
each_read settings state layers [] = omega arith
each_read settings state layers (p ∷ points) =
    omega (arith, some_read settings state layers p, each_read settings state layers points, sum_by-cons (λ q. reads_of settings state q layers) p points)

-- the buffers were given more room, and words were read
pub regathered : (x : Sight) (settings : Settings) (state : State) (layers : Layers) (points : List Point) (old new : Found) → Gathers x settings state layers points old
    → new.hits.items ≡ old.hits.items → new.kept.items ≡ old.kept.items → new.candidates.items ≡ old.candidates.items → new.reads ≡ old.reads → Gathers x settings state layers points new
regathered x settings state layers points old new g hits kept candidates reads = record {
  mets = g.mets;
  holds = record { hits = hits ∙ g.holds.hits; kept = kept ∙ g.holds.kept; candidates = candidates ∙ g.holds.candidates; chains = g.holds.chains };
  are = g.are;
  few = omega (arith, reads, g.few);
}

-- the words that are read are of no account to what is held
pub read_more : (x : Sight) (found : Found) (mets : List Met) (reads : ℕ) → Holds x found mets → Holds x (record found { reads = reads }) mets
read_more x found mets reads holds = record { hits = holds.hits; kept = holds.kept; candidates = holds.candidates; chains = holds.chains }
