-- What an image that stands for a state has.
use Rattle.std.proofs.Common.{ℕ, ◌^◌, ◌<◌, ◌≤◌, Bool, true, false, cond, refl, arith, List, [], ◌∷◌, filter, length, map}
use Rattle.std.specs.Prelude.{slice_index}
use Rattle.std.specs.List.{All, AllByRecursion as Each, flat_map}
use Rattle.std.proofs.lemmas.List.Elements.{recursion_from_All}
use Rattle.act_grid.specs.declared.Settings.{Settings}
use Rattle.act_grid.specs.Cell.{Address}
use Rattle.act_geom.specs.Rings.{vertices_of}
use Rattle.act_cover.specs.Covering.{class_at, is_on, is_within}
use Rattle.act_base.specs.Counting.{times}
use Rattle.act_base.specs.Sight.{Sight}
use Rattle.act_base.proofs.Times.{times-append, times_get, times_here, times_there}
use Rattle.act_super.specs.declared.entry.State.{State}
use Rattle.act_super.specs.declared.entry.Zone.{Zone}
use Rattle.act_super.specs.Nodes.{IsNode, nodes_of}
use Rattle.act_super.specs.Sizes.{refs_of}
use Rattle.act_super.specs.Stands.{HasChain, IsServed, Layout, StandsBy, ref_in, refs_in}
use Rattle.act_probe.specs.Chains.{ChainAt, RefsOf}
use Rattle.act_probe.proofs.NodeFacts.{node_listed, times_flat}

-- a zone on a leaf is a true hit where it is Inside
abbrev pub hit_on : Address → Zone → Bool
hit_on leaf zone = is_within (class_at zone.shape leaf)

abbrev pub zones_on : Address → List Zone → List Zone
zones_on leaf zones = filter (λ zone. is_on (class_at zone.shape leaf)) zones

module _ (settings : Settings) (x : Sight) (root : ℕ) (state : State) (served : IsServed settings state) (layout : Layout) (s : StandsBy settings x root state layout) where
  node_rows : Address → List ℕ
  node_rows c = layout.node c ∷ layout.lists c

  of_node : (c : Address) (r : ℕ) → IsNode settings state c → 0 < times (layout.node c ∷ layout.lists c) r → 0 < times x.rows r
  of_node c r node some =
      let own = times_flat (λ d. layout.node d ∷ layout.lists d) (nodes_of settings state) c r (node_listed settings state c node) some in
      omega (arith, s.rows r, times-append (flat_map (λ d. layout.node d ∷ layout.lists d) (nodes_of settings state)) (flat_map (λ (zone : Zone). layout.chain zone.key) state.zones) r, own)

  pub held_node : (c : Address) → IsNode settings state c → 0 < times x.rows (layout.node c)
  held_node c node = of_node c (layout.node c) node (omega (arith, times_here (layout.node c) (layout.lists c)))

  pub held_list : (c : Address) (i : ℕ) → IsNode settings state c → i < length (layout.lists c) → 0 < times x.rows (slice_index (layout.lists c) i)
  held_list c i node within =
      of_node c (slice_index (layout.lists c) i) node
      (omega (arith, times_there (layout.node c) (slice_index (layout.lists c) i) (layout.lists c), times_get (layout.lists c) i 0 within))

  -- ---- chains
  chain_rows_of : List Zone → List ℕ
  chain_rows_of zones = flat_map (λ (zone : Zone). layout.chain zone.key) zones

  -- what is known of a zone
  record Known (zone : Zone) : Type 0 where
    pub chain : HasChain x (layout.chain zone.key) zone
    pub full : All (λ ring. 3 ≤ length ring) zone.shape
    pub small : vertices_of zone.shape ≤ 262144
    pub key : zone.key < 2 ^ 32
    pub held : (r : ℕ) → 0 < times (layout.chain zone.key) r → 0 < times x.rows r

  chain_at : (zone : Zone) → Known zone → ChainAt x zone (slice_index (layout.chain zone.key) 0)
  chain_at zone k = record {
    rows = layout.chain zone.key;
    first = refl;
    chain = k.chain;
    held = λ i within. k.held (slice_index (layout.chain zone.key) i) (times_get (layout.chain zone.key) i 0 within);
    low = λ i within. s.low (slice_index (layout.chain zone.key) i) (k.held (slice_index (layout.chain zone.key) i) (times_get (layout.chain zone.key) i 0 within));
    full = k.full;
    small = k.small;
    key = k.key;
  }

  known : (zones : List Zone) → Each (λ (zone : Zone). HasChain x (layout.chain zone.key) zone) zones → Each (λ (zone : Zone). All (λ ring. 3 ≤ length ring) zone.shape) zones
      → Each (λ (zone : Zone). vertices_of zone.shape ≤ 262144) zones → Each (λ (zone : Zone). zone.key < 2 ^ 32) zones
      → ((r : ℕ) → 0 < times (flat_map (λ (zone : Zone). layout.chain zone.key) zones) r → 0 < times x.rows r) → Each Known zones
  known [] chains full small keys held = tt
  known (zone ∷ zones) chains full small keys held =
      let both = λ (r : ℕ). times-append (layout.chain zone.key) (flat_map (λ (other : Zone). layout.chain other.key) zones) r in (
        record { chain = chains.0; full = full.0; small = small.0; key = keys.0; held = λ r some. held r (omega (arith, both r, some)) },
        known zones chains.1 full.1 small.1 keys.1 (λ r some. held r (omega (arith, both r, some))),
      )

  all_known : Each Known state.zones
  all_known =
      known state.zones (recursion_from_All _ state.zones s.chains) (recursion_from_All _ state.zones served.full) (recursion_from_All _ state.zones served.small)
      (recursion_from_All _ state.zones served.keys)
      (λ r some. omega (arith, s.rows r, times-append (flat_map (λ d. layout.node d ∷ layout.lists d) (nodes_of settings state)) (flat_map (λ (zone : Zone). layout.chain zone.key) state.zones) r, some))

  refs_from : (leaf : Address) (zones : List Zone) → Each Known zones → RefsOf x (hit_on leaf) (zones_on leaf zones) (refs_in layout (refs_of zones leaf))
  refs_from leaf [] k = tt
  refs_from leaf (zone ∷ zones) k = by (is_on (class_at zone.shape leaf)) (refs_from leaf zones k.1)
    where
      by : (b : Bool) → RefsOf x (hit_on leaf) (zones_on leaf zones) (refs_in layout (refs_of zones leaf))
          → RefsOf x (hit_on leaf) (cond b (zone ∷ zones_on leaf zones) (zones_on leaf zones))
          (map (ref_in layout) (map (λ (z : Zone). record { key = z.key; hit = is_within (class_at z.shape leaf) }) (cond b (zone ∷ zones_on leaf zones) (zones_on leaf zones))))
      by true rest = (chain_at zone k.0, refl, rest)
      by false rest = rest

  -- the references of a leaf, with their zones
  pub refs_at : (leaf : Address) → RefsOf x (hit_on leaf) (zones_on leaf state.zones) (refs_in layout (refs_of state.zones leaf))
  refs_at leaf = refs_from leaf state.zones all_known
