-- The state after a change is one that an image may stand for.
use Rattle.std.proofs.Common.{◌≡◌, ◌≢◌, ℕ, zero, suc, ◌+◌, ◌^◌, ◌<◌, ◌≤◌, ◌⊎◌, inl, inr, Bool, true, false, cond, ◌&&◌, ◌||◌, refl, sym, ap, ◌∙◌, subst, arith, List, [], ◌∷◌, ◌++◌, ◌==◌, eqb, length, get_or, map, Option, Some, None, nat_lt, not}
use Rattle.std.specs.List.{All, AllByRecursion as Each, flat_map}
use Rattle.std.proofs.lemmas.Bool.Decides.{eqb_tells, nat_tests}
use Rattle.std.proofs.lemmas.List.Elements.{All-from_recursion, recursion_from_All}
use Rattle.act_grid.specs.declared.Point.{Point}
use Rattle.act_grid.specs.declared.Settings.{Settings}
use Rattle.act_grid.specs.Cell.{Address, IsCell, child_of, root_cell}
use Rattle.act_geom.specs.Rings.{IsShape, vertices_of}
use Rattle.act_cover.proofs.Placed.{child_cell}
use Rattle.act_base.specs.Counting.{times}
use Rattle.act_base.specs.Sight.{Sight}
use Rattle.act_base.proofs.Times.{times-append, times_else, times_get, times_here, times_there}
use Rattle.act_super.specs.declared.entry.Entry.{Entry}
use Rattle.act_super.specs.declared.entry.Entry.TheVariants as entry
use Rattle.act_super.specs.declared.entry.State.{State}
use Rattle.act_super.specs.declared.entry.Zone.{Zone}
use Rattle.act_super.specs.declared.verdict.Verdict.{Verdict}
use Rattle.act_super.specs.declared.verdict.Verdict.TheVariants as verdict
use Rattle.act_super.specs.Grounds.{Ground, asks, is_among, is_mixed, leaf_at, leaf_within, on, quarter_of, some_asks, zone_ground}
use Rattle.act_super.specs.Nodes.{count_at, ground_of, nodes_of}
use Rattle.act_super.specs.Sizes.{chain_rows, most_references}
use Rattle.act_super.specs.Stands.{HasChain, IsServed, Layout, StandsBy}
use Rattle.act_super.specs.States.{after, changed, first_cause, has_key, key_of, key_verdict, reshaped, room_verdict, shape_of, verdict_of, with_zone, without_key}
use Rattle.act_super.specs.Trees.{most, tree_of, under}
use Rattle.act_super.specs.Trees.Tree.{Leaf, Split}
use Rattle.act_super.proofs.StandingFacts.{outside_below}
use Rattle.act_super.proofs.TreeFacts.{GoesDown, on_below}
use Rattle.act_super.proofs.UnderFacts.{length_on}
use Rattle.act_probe.proofs.WayFacts.{root_is}
use Rattle.act_image.specs.Pics.{HaveOwnKeys}
use Rattle.act_image.proofs.Leaves.{each_mono}
use Rattle.act_image.proofs.WalkFacts.{count_is}

-- ---- fewer references on smaller leaves
quarter_small : (c : Address) (p : Point) → quarter_of c p < 4
quarter_small c p = pick _ _
  where
    pick : (y x : Bool) → cond y (cond x 3 2) (cond x 1 0) < 4
    pick true true = omega arith
    pick true false = omega arith
    pick false true = omega arith
    pick false false = omega arith

abbrev with_cells : {X : Type 0} → Ground X → (Address → Bool) → Ground X
with_cells g trained = record { class = g.class; level = g.level; trained = trained }

abbrev Fewer : (Address → Bool) → (Address → Bool) → Type 0
Fewer some all = (c : Address) → some c ≡ true → all c ≡ true

module _ {X : Type 0} (g : Ground X) (down : GoesDown g) (items : List X) where
  fewer_below : (c : Address) (q : ℕ) → IsCell c → c.level < 30 → q < 4 → length (on g items (child_of c q)) ≤ length (on g items c)
  fewer_below c q cell low four = let e = length_on g (on g items c) (child_of c q) in rw (on_below g down items c q cell low four) at e

  under_fewer : (trained : Address → Bool) (n : ℕ) (c : Address) (p : Point) → IsCell c → c.level + n ≤ 28 → length (on g items (leaf_within (with_cells g trained) n items c p)) ≤ length (on g items c)
  unfolding leaf_within
  under_fewer trained zero c p cell low = omega arith
  under_fewer trained (suc n) c p cell low =
      let q = quarter_small c p in
      by (some_asks (with_cells g trained) c items)
      (under_fewer trained n (child_of c (quarter_of c p)) p (child_cell c (quarter_of c p) cell (omega (arith, low)) q) (omega (arith, low)))
      (fewer_below c (quarter_of c p) cell (omega (arith, low)) q)
    where
      by : (b : Bool) → length (on g items (leaf_within (with_cells g trained) n items (child_of c (quarter_of c p)) p)) ≤ length (on g items (child_of c (quarter_of c p)))
          → length (on g items (child_of c (quarter_of c p))) ≤ length (on g items c)
          → length (on g items (cond b (leaf_within (with_cells g trained) n items (child_of c (quarter_of c p)) p) c)) ≤ length (on g items c)
      by true h k = omega (arith, h, k)
      by false h k = omega arith

  asks_more : (some all : Address → Bool) → Fewer some all → (c : Address) (xs : List X) → some_asks (with_cells g some) c xs ≡ true → some_asks (with_cells g all) c xs ≡ true
  asks_more some all h c [] e = e
  asks_more some all h c (x ∷ xs) e = one (is_mixed (g.class x c)) (nat_lt c.level (g.level x)) (some c) (all c) (some_asks (with_cells g some) c xs) (some_asks (with_cells g all) c xs) (h c) (asks_more some all h c xs) e
    where
      one : (a b u v s t : Bool) → (u ≡ true → v ≡ true) → (s ≡ true → t ≡ true) → ((a && (b || u)) || s) ≡ true → ((a && (b || v)) || t) ≡ true
      one a b u v s t h k e = grind arith

  -- the more cells are trained, the fewer references
  leaf_fewer : (some all : Address → Bool) → Fewer some all → (n : ℕ) (c : Address) (p : Point) → IsCell c → c.level + n ≤ 28
      → length (on g items (leaf_within (with_cells g all) n items c p)) ≤ length (on g items (leaf_within (with_cells g some) n items c p))
  unfolding leaf_within
  leaf_fewer some all h zero c p cell low = omega arith
  leaf_fewer some all h (suc n) c p cell low =
      let q = quarter_small c p in
      by (some_asks (with_cells g some) c items) (some_asks (with_cells g all) c items) (asks_more some all h c items) refl refl
      (leaf_fewer some all h n (child_of c (quarter_of c p)) p (child_cell c (quarter_of c p) cell (omega (arith, low)) q) (omega (arith, low)))
      (under_fewer all n (child_of c (quarter_of c p)) p (child_cell c (quarter_of c p) cell (omega (arith, low)) q) (omega (arith, low)))
      (fewer_below c (quarter_of c p) cell (omega (arith, low)) q)
    where
      by : (a b : Bool) → (some_asks (with_cells g some) c items ≡ true → some_asks (with_cells g all) c items ≡ true) → some_asks (with_cells g some) c items ≡ a → some_asks (with_cells g all) c items ≡ b
          → length (on g items (leaf_within (with_cells g all) n items (child_of c (quarter_of c p)) p)) ≤ length (on g items (leaf_within (with_cells g some) n items (child_of c (quarter_of c p)) p))
          → length (on g items (leaf_within (with_cells g all) n items (child_of c (quarter_of c p)) p)) ≤ length (on g items (child_of c (quarter_of c p)))
          → length (on g items (child_of c (quarter_of c p))) ≤ length (on g items c)
          → length (on g items (cond b (leaf_within (with_cells g all) n items (child_of c (quarter_of c p)) p) c)) ≤ length (on g items (cond a (leaf_within (with_cells g some) n items (child_of c (quarter_of c p)) p) c))
      by true true more e f h j k = h
      by true false more e f h j k = let no = sym f ∙ more e in absurd (cc)
      by false true more e f h j k = omega (arith, j, k)
      by false false more e f h j k = omega arith

  -- no leaf has more references than the greatest number
  leaf_most : (n : ℕ) (c : Address) (p : Point) → length (on g items (leaf_within g n items c p)) ≤ most (tree_of g n items c)
  unfolding leaf_within tree_of
  leaf_most zero c p = omega arith
  leaf_most (suc n) c p = by (some_asks g c items) (quarter_of c p) (quarter_small c p) (leaf_most n (child_of c (quarter_of c p)) p)
    where
      by : (b : Bool) (q : ℕ) → q < 4 → length (on g items (leaf_within g n items (child_of c q) p)) ≤ most (tree_of g n items (child_of c q))
          → length (on g items (cond b (leaf_within g n items (child_of c q) p) c))
          ≤ most (cond b (Split (tree_of g n items (child_of c 0)) (tree_of g n items (child_of c 1)) (tree_of g n items (child_of c 2)) (tree_of g n items (child_of c 3))) (Leaf (length (on g items c))))
      by false q small h = omega arith
      by true zero small h = omega (arith, h)
      by true (suc zero) small h = omega (arith, h)
      by true (suc (suc zero)) small h = omega (arith, h)
      by true (suc (suc (suc zero))) small h = omega (arith, h)
      by true (suc (suc (suc (suc q)))) small h = absurd (omega (arith, small))

zones_go_down : (settings : Settings) → GoesDown (zone_ground settings [])
zones_go_down settings zone c q cell low four e = outside_below zone.shape c q cell low four e

root_most : (settings : Settings) (zones : List Zone) (n : ℕ) (p : Point) → length (on (zone_ground settings []) zones (leaf_within (zone_ground settings []) n zones root_cell p)) ≤ most (tree_of (zone_ground settings []) n zones root_cell)
root_most settings zones n p = leaf_most (zone_ground settings []) (zones_go_down settings) zones n root_cell p

few_by_most : (settings : Settings) (state : State) (p : Point) → most_references settings state.zones ≤ 510 → count_at state (leaf_at (ground_of settings state) state.zones p) ≤ 510
unfolding leaf_at most_references under
few_by_most settings state p h =
    let fewer = leaf_fewer (zone_ground settings []) (zones_go_down settings) state.zones (is_among []) (is_among state.trained) (λ c e. absurd (cc)) 28 root_cell p root_is (omega arith) in
    let top = root_most settings state.zones 28 p in
    omega (arith, fewer, top, h, count_is settings state (leaf_within (ground_of settings state) 28 state.zones root_cell p))

among_more : (some more : List Address) (c : Address) → is_among some c ≡ true → is_among (some ++ more) c ≡ true
among_more [] more c e = absurd (cc)
among_more (d ∷ some) more c e = by (Rattle.act_super.specs.Grounds.same_cell d c) e (among_more some more c)
  where
    by : (b : Bool) → (b || is_among some c) ≡ true → (is_among some c ≡ true → is_among (some ++ more) c ≡ true) → (b || is_among (some ++ more) c) ≡ true
    by true e h = refl
    by false e h = h e

few_by_training : (settings : Settings) (zones : List Zone) (some more : List Address) (p : Point)
    → count_at (record { zones = zones; trained = some }) (leaf_at (zone_ground settings some) zones p) ≤ 510 → count_at (record { zones = zones; trained = some ++ more }) (leaf_at (zone_ground settings (some ++ more)) zones p) ≤ 510
unfolding leaf_at
few_by_training settings zones some more p h =
    let fewer = leaf_fewer (zone_ground settings []) (zones_go_down settings) zones (is_among some) (is_among (some ++ more)) (among_more some more) 28 root_cell p root_is (omega arith) in
    omega (
      arith,
      fewer,
      h,
      count_is settings (record { zones = zones; trained = some ++ more }) (leaf_within (zone_ground settings (some ++ more)) 28 zones root_cell p),
      count_is settings (record { zones = zones; trained = some }) (leaf_within (zone_ground settings some) 28 zones root_cell p),
    )

-- ---- an accepted change
none_first : (a b : Option Verdict) → first_cause a b ≡ None → a ≡ None
none_first None b e = refl
none_first (Some v) b e = absurd (cc)

none_second : (a b : Option Verdict) → first_cause a b ≡ None → b ≡ None
none_second None b e = e
none_second (Some v) b e = absurd (cc)

room_few : (settings : Settings) (zones : List Zone) → room_verdict settings zones ≡ None → most_references settings zones ≤ 510
unfolding room_verdict
room_few settings zones e = by (nat_lt 510 (most_references settings zones)) refl e
  where
    ge : (a b : ℕ) → nat_lt a b ≡ false → b ≤ a
    ge a b e = grind (arith, nat_tests)

    by : (b : Bool) → nat_lt 510 (most_references settings zones) ≡ b
        → (cond b (Some (verdict.Refs (most_references settings zones))) (cond (nat_lt settings.rows (Rattle.act_super.specs.Sizes.rows_with settings zones [])) (Some (verdict.Rows (Rattle.act_super.specs.Sizes.rows_with settings zones []) settings.rows)) None)) ≡ None
        → most_references settings zones ≤ 510
    by true f e = absurd (cc)
    by false f e = ge 510 (most_references settings zones) f

-- what is kept of each zone
abbrev pub IsGood : Zone → Type 0
IsGood zone = All (λ ring. 3 ≤ length ring) zone.shape × (vertices_of zone.shape ≤ 262144) × (zone.key < 2 ^ 32)

good_with : (zones : List Zone) (new : Zone) → Each IsGood zones → IsGood new → Each IsGood (with_zone new zones)
good_with [] new h k = (k, tt)
good_with (zone ∷ zones) new h k = by (nat_lt new.key zone.key) (good_with zones new h.1 k)
  where
    by : (b : Bool) → Each IsGood (with_zone new zones) → Each IsGood (cond b (new ∷ zone ∷ zones) (zone ∷ with_zone new zones))
    by true rest = (k, h)
    by false rest = (h.0, rest)

good_without : (zones : List Zone) (key : ℕ) → Each IsGood zones → Each IsGood (without_key key zones)
good_without [] key h = tt
good_without (zone ∷ zones) key h = by (zone.key == key) (good_without zones key h.1)
  where
    by : (b : Bool) → Each IsGood (without_key key zones) → Each IsGood (cond (not b) (zone ∷ without_key key zones) (without_key key zones))
    by true rest = rest
    by false rest = (h.0, rest)

good_reshaped : (zones : List Zone) (key : ℕ) (shape : List (List Point)) → Each IsGood zones → IsGood (record { key = key; shape = shape }) → Each IsGood (reshaped key shape zones)
good_reshaped [] key shape h k = tt
good_reshaped (zone ∷ zones) key shape h k = (by (zone.key == key), good_reshaped zones key shape h.1 k)
  where
    by : (b : Bool) → IsGood (cond b (record { key = key; shape = shape }) zone)
    by true = k
    by false = h.0

good_zone : (key : ℕ) (shape : List (List Point)) → key < 2 ^ 32 → IsShape shape → IsGood (record { key = key; shape = shape })
good_zone key shape fits is = (is.full, is.few, fits)

good_changed : (zones : List Zone) (e : Entry) → Each IsGood zones → ((key : ℕ) → key_of e ≡ Some key → key < 2 ^ 32) → ((shape : List (List Point)) → shape_of e ≡ Some shape → IsShape shape) → Each IsGood (changed zones e)
good_changed zones (entry.Add key shape) h keys shapes = good_with zones (record { key = key; shape = shape }) h (good_zone key shape (keys key refl) (shapes shape refl))
good_changed zones (entry.DropZone key) h keys shapes = good_without zones key h
good_changed zones (entry.Replace key shape) h keys shapes = good_reshaped zones key shape h (good_zone key shape (keys key refl) (shapes shape refl))
good_changed zones (entry.Train cells) h keys shapes = h

few_after : (settings : Settings) (state : State) (e : Entry) (p : Point) → IsServed settings state → verdict_of settings state e ≡ None
    → count_at (after settings state e) (leaf_at (ground_of settings (after settings state e)) (after settings state e).zones p) ≤ 510
few_after settings state (entry.Add key shape) p served ok =
    few_by_most settings (after settings state (entry.Add key shape)) p (room_few settings (changed state.zones (entry.Add key shape)) (none_second (key_verdict state.zones (entry.Add key shape)) _ ok))
few_after settings state (entry.DropZone key) p served ok =
    few_by_most settings (after settings state (entry.DropZone key)) p (room_few settings (changed state.zones (entry.DropZone key)) (none_second (key_verdict state.zones (entry.DropZone key)) _ ok))
few_after settings state (entry.Replace key shape) p served ok =
    few_by_most settings (after settings state (entry.Replace key shape)) p (room_few settings (changed state.zones (entry.Replace key shape)) (none_second (key_verdict state.zones (entry.Replace key shape)) _ ok))
few_after settings state (entry.Train cells) p served ok = few_by_training settings state.zones state.trained cells p (served.few p)

three : (zones : List Zone) → Each (λ (zone : Zone). All (λ ring. 3 ≤ length ring) zone.shape) zones → Each (λ (zone : Zone). vertices_of zone.shape ≤ 262144) zones → Each (λ (zone : Zone). zone.key < 2 ^ 32) zones → Each IsGood zones
three [] a b c = tt
three (zone ∷ zones) a b c = ((a.0, b.0, c.0), three zones a.1 b.1 c.1)

pub served_after : (settings : Settings) (state : State) (e : Entry) → IsServed settings state → verdict_of settings state e ≡ None
    → ((key : ℕ) → key_of e ≡ Some key → key < 2 ^ 32) → ((shape : List (List Point)) → shape_of e ≡ Some shape → IsShape shape) → IsServed settings (after settings state e)
served_after settings state e served ok keys shapes =
    let good = three state.zones (recursion_from_All _ state.zones served.full) (recursion_from_All _ state.zones served.small) (recursion_from_All _ state.zones served.keys) in
    let all = good_changed state.zones e good keys shapes in
    record {
      few = λ p. few_after settings state e p served ok;
      full = All-from_recursion (λ (zone : Zone). All (λ ring. 3 ≤ length ring) zone.shape) (changed state.zones e) (each_mono IsGood (λ (zone : Zone). All (λ ring. 3 ≤ length ring) zone.shape) (changed state.zones e) (λ zone h. h.0) all);
      small = All-from_recursion (λ (zone : Zone). vertices_of zone.shape ≤ 262144) (changed state.zones e) (each_mono IsGood (λ (zone : Zone). vertices_of zone.shape ≤ 262144) (changed state.zones e) (λ zone h. h.1) all);
      keys = All-from_recursion (λ (zone : Zone). zone.key < 2 ^ 32) (changed state.zones e) (each_mono IsGood (λ (zone : Zone). zone.key < 2 ^ 32) (changed state.zones e) (λ zone h. h.2) all);
    }

-- ---- keys
abbrev keys_in : List Zone → List ℕ
keys_in zones = map (λ (zone : Zone). zone.key) zones

-- a row of the chain of a key stands once for each zone with the key
chain_times : (layout : Layout) (key r : ℕ) (zones : List Zone) → 0 < times (layout.chain key) r → times (keys_in zones) key ≤ times (flat_map (λ (zone : Zone). layout.chain zone.key) zones) r
chain_times layout key r [] h = omega arith
chain_times layout key r (zone ∷ zones) h = by (eqb_tells zone.key key) (times-append (layout.chain zone.key) (flat_map (λ (other : Zone). layout.chain other.key) zones) r) (chain_times layout key r zones h)
  where
    by : ((eqb zone.key key ≡ true) × (zone.key ≡ key)) ⊎ ((eqb zone.key key ≡ false) × (zone.key ≢ key))
        → times (layout.chain zone.key ++ flat_map (λ (other : Zone). layout.chain other.key) zones) r ≡ times (layout.chain zone.key) r + times (flat_map (λ (other : Zone). layout.chain other.key) zones) r
        → times (keys_in zones) key ≤ times (flat_map (λ (other : Zone). layout.chain other.key) zones) r
        → times (keys_in (zone ∷ zones)) key ≤ times (flat_map (λ (other : Zone). layout.chain other.key) (zone ∷ zones)) r
    by (inl same) both rest =
        let one : times (zone.key ∷ keys_in zones) key ≡ 1 + times (keys_in zones) key = subst (λ k. times (zone.key ∷ keys_in zones) k ≡ 1 + times (keys_in zones) k) same.1 (times_here zone.key (keys_in zones)) in
        let some : 0 < times (layout.chain zone.key) r = subst (λ k. 0 < times (layout.chain k) r) (sym same.1) h in
        omega (arith, one, some, both, rest)
    by (inr other) both rest = let none = times_else zone.key key (keys_in zones) other.1 in omega (arith, none, both, rest)

-- a key that stands has a chain with a row
some_chain : (layout : Layout) (x : Sight) (key : ℕ) (zones : List Zone) → Each (λ (zone : Zone). HasChain x (layout.chain zone.key) zone) zones → 0 < times (keys_in zones) key → 0 < length (layout.chain key)
some_chain layout x key [] h some = absurd (omega (arith, some))
some_chain layout x key (zone ∷ zones) h some = by (eqb_tells zone.key key) (λ more. some_chain layout x key zones h.1 more)
  where
    by : ((eqb zone.key key ≡ true) × (zone.key ≡ key)) ⊎ ((eqb zone.key key ≡ false) × (zone.key ≢ key)) → (0 < times (keys_in zones) key → 0 < length (layout.chain key)) → 0 < length (layout.chain key)
    by (inl same) more = subst (λ k. 0 < length (layout.chain k)) same.1 (omega (arith, h.0.size))
    by (inr other) more = let none = times_else zone.key key (keys_in zones) other.1 in more (omega (arith, some, none))

pub old_keys : (settings : Settings) (x : Sight) (root : ℕ) (state : State) (layout : Layout) → StandsBy settings x root state layout → HaveOwnKeys state.zones
old_keys settings x root state layout s key = by (sides (times (keys_in state.zones) key))
  where
    sides : (n : ℕ) → (n ≡ 0) ⊎ (0 < n)
    sides n = grind arith

    by : (times (keys_in state.zones) key ≡ 0) ⊎ (0 < times (keys_in state.zones) key) → times (keys_in state.zones) key ≤ 1
    by (inl none) = omega (arith, none)
    by (inr some) =
        let long = some_chain layout x key state.zones (recursion_from_All _ state.zones s.chains) some in
        let r = get_or (layout.chain key) 0 0 in
        let there = times_get (layout.chain key) 0 0 long in
        omega (
          arith,
          chain_times layout key r state.zones there,
          s.once r,
          s.rows r,
          times-append (flat_map (λ c. layout.node c ∷ layout.lists c) (nodes_of settings state)) (flat_map (λ (zone : Zone). layout.chain zone.key) state.zones) r,
        )

no_key : (zones : List Zone) (key : ℕ) → has_key key zones ≡ false → times (keys_in zones) key ≡ 0
no_key [] key h = refl
no_key (zone ∷ zones) key h = by (zone.key == key) refl h (λ more. no_key zones key more)
  where
    by : (b : Bool) → (zone.key == key) ≡ b → (b || has_key key zones) ≡ false → (has_key key zones ≡ false → times (keys_in zones) key ≡ 0) → times (keys_in (zone ∷ zones)) key ≡ 0
    by true e h more = absurd (cc)
    by false e h more = let one : times (zone.key ∷ keys_in zones) key ≡ 0 + times (keys_in zones) key = ap (λ b. cond b 1 0 + times (keys_in zones) key) e in omega (arith, one, more h)

keys_with : (zones : List Zone) (new : Zone) (k : ℕ) → times (keys_in (with_zone new zones)) k ≡ times (new.key ∷ keys_in zones) k
keys_with [] new k = refl
keys_with (zone ∷ zones) new k = by (nat_lt new.key zone.key) (keys_with zones new k)
  where
    by : (b : Bool) → times (keys_in (with_zone new zones)) k ≡ times (new.key ∷ keys_in zones) k → times (keys_in (cond b (new ∷ zone ∷ zones) (zone ∷ with_zone new zones))) k ≡ times (new.key ∷ zone.key ∷ keys_in zones) k
    by true rest = refl
    by false rest = omega (arith, rest)

keys_without : (zones : List Zone) (key k : ℕ) → times (keys_in (without_key key zones)) k ≤ times (keys_in zones) k
keys_without [] key k = omega arith
keys_without (zone ∷ zones) key k = by (zone.key == key) (keys_without zones key k)
  where
    by : (b : Bool) → times (keys_in (without_key key zones)) k ≤ times (keys_in zones) k → times (keys_in (cond (not b) (zone ∷ without_key key zones) (without_key key zones))) k ≤ times (zone.key ∷ keys_in zones) k
    by true rest = omega (arith, rest, times_there zone.key k (keys_in zones))
    by false rest = omega (arith, rest)

keys_reshaped : (zones : List Zone) (key : ℕ) (shape : List (List Point)) → keys_in (reshaped key shape zones) ≡ keys_in zones
keys_reshaped [] key shape = refl
keys_reshaped (zone ∷ zones) key shape = by (eqb_tells zone.key key) (keys_reshaped zones key shape)
  where
    by : ((eqb zone.key key ≡ true) × (zone.key ≡ key)) ⊎ ((eqb zone.key key ≡ false) × (zone.key ≢ key)) → keys_in (reshaped key shape zones) ≡ keys_in zones → keys_in (reshaped key shape (zone ∷ zones)) ≡ zone.key ∷ keys_in zones
    by (inl same) rest =
        let yes : (zone.key == key) ≡ true = same.0 in
        let is : (cond (zone.key == key) (record { key = key; shape = shape }) zone).key ≡ zone.key = ap (λ b. (cond b (record { key = key; shape = shape }) zone).key) yes ∙ sym same.1 in
        λ i. is i ∷ rest i
    by (inr other) rest =
        let no : (zone.key == key) ≡ false = other.0 in
        let is : (cond (zone.key == key) (record { key = key; shape = shape }) zone).key ≡ zone.key = ap (λ b. (cond b (record { key = key; shape = shape }) zone).key) no in
        λ i. is i ∷ rest i

free_is : (zones : List Zone) (key : ℕ) (shape : List (List Point)) → key_verdict zones (entry.Add key shape) ≡ None → has_key key zones ≡ false
free_is zones key shape e = by (has_key key zones) e
  where
    by : (b : Bool) → (cond b (Some verdict.Duplicate) None) ≡ None → b ≡ false
    by true e = absurd (cc)
    by false e = refl

pub keys_after : (settings : Settings) (state : State) (e : Entry) → HaveOwnKeys state.zones → verdict_of settings state e ≡ None → HaveOwnKeys (changed state.zones e)
keys_after settings state (entry.Add key shape) h ok k =
    let free = no_key state.zones key (free_is state.zones key shape (none_first _ _ ok)) in
    by (eqb_tells key k) (keys_with state.zones (record { key = key; shape = shape }) k)
  where
    by : ((eqb key k ≡ true) × (key ≡ k)) ⊎ ((eqb key k ≡ false) × (key ≢ k)) → times (keys_in (with_zone (record { key = key; shape = shape }) state.zones)) k ≡ times (key ∷ keys_in state.zones) k → times (keys_in (with_zone (record { key = key; shape = shape }) state.zones)) k ≤ 1
    by (inl same) e =
        let free = no_key state.zones key (free_is state.zones key shape (none_first _ _ ok)) in
        let one : times (key ∷ keys_in state.zones) k ≡ 1 + times (keys_in state.zones) key = subst (λ m. times (key ∷ keys_in state.zones) m ≡ 1 + times (keys_in state.zones) key) same.1 (times_here key (keys_in state.zones)) in
        omega (arith, e, one, free)
    by (inr other) e = omega (arith, e, times_else key k (keys_in state.zones) other.1, h k)
keys_after settings state (entry.DropZone key) h ok k = omega (arith, keys_without state.zones key k, h k)
keys_after settings state (entry.Replace key shape) h ok k = omega (arith, ap (λ v. times v k) (keys_reshaped state.zones key shape), h k)
keys_after settings state (entry.Train cells) h ok k = h k
