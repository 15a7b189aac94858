-- One step of a way down, and the ways of several points.
use Rattle.std.proofs.Common.{◌≡◌, ℕ, ◌+◌, ◌*◌, ◌/◌, ◌%◌, ◌-◌, ◌^◌, ◌<◌, ◌≤◌, ◌++◌, ◌⊎◌, inl, inr, Option, Some, None, pos, refl, sym, ap, ◌∙◌, subst, arith, List, [], ◌∷◌, drop, get_or, length, map, take}
use Rattle.std.specs.Prelude.{sum_by}
use Rattle.std.specs.List.{All}
use Rattle.std.proofs.Math.ListN.{set}
use Rattle.std.proofs.lemmas.List.{get_or-map, length-map}
use Rattle.std.proofs.lemmas.List.Sums.{get_or-le-sum_by}
use Rattle.std.proofs.lemmas.Option.{same_Some}
use Rattle.act_grid.specs.declared.Point.{Point}
use Rattle.act_grid.specs.declared.Settings.{Settings}
use Rattle.act_grid.specs.Cell.{root_cell}
use Rattle.act_base.specs.Counting.{times}
use Rattle.act_base.specs.Sight.{Sight}
use Rattle.act_entry.specs.declared.entry.Entry.{Entry}
use Rattle.act_entry.specs.declared.entry.Entry.TheVariants as entry
use Rattle.act_entry.specs.Entries.{entry_of, entry_word}
use Rattle.act_entry.specs.References.{IsRow}
use Rattle.act_entry.proofs.EntryFacts.{told}
use Rattle.act_super.specs.declared.entry.State.{State}
use Rattle.act_super.specs.Nodes.{IsNode}
use Rattle.act_super.specs.Stands.{Layout, Stands, entry_at}
use Rattle.act_probe.specs.declared.group.Trunk.{Trunk}
use Rattle.act_probe.specs.declared.group.Way.{Way}
use Rattle.act_probe.specs.Groups.{Goes, IsDown, IsOn, led}
use Rattle.act_probe.specs.Ways.{IsReached, IsTop, child_in, over}
use Rattle.act_probe.proofs.EntryFacts.{goes_down, is_there, no_eighth, read_entry, root_node, root_over}
use Rattle.act_probe.proofs.StandFacts.{held_node}
use Rattle.act_probe.proofs.SweepFacts.{front_here, front_more}
use Rattle.act_probe.proofs.WayFacts.{entry_on}

-- what stands behind the last way of a list
abbrev pub no_way : Way
no_way = record { point = record { x = pos 0; y = pos 0 }; nodes = 0; word = 0; id = 0 }

module _ {settings : Settings} {x : Sight} {root : ℕ} {state : State} (s : Stands settings x root state) where
  -- the entry on the way
  abbrev next : ℕ → ℕ → Entry
  next id depth = entry_at s.layout settings state (over (id / 2) (4 * depth)) (entry_on (id / 2) (4 * depth))

  -- the word of a node was read
  pub came : (p : Point) (id depth row place word : ℕ) → IsTop id p → depth ≤ 6 → IsNode settings state (over (id / 2) (4 * depth)) → row ≡ s.layout.node (over (id / 2) (4 * depth))
      → place ≡ id / 2 ^ (53 - 2 * (4 * depth)) % 256 → word ≡ x.word row place → Goes settings state s.layout (depth + 1) (record { point = p; nodes = depth + 1; word = word; id = id })
  came p id depth row place word top few node row_is place_is is = record {
    top = top;
    entry = next id depth;
    word = read_entry s p id depth row place word top few node row_is place_is is;
    on = there (child_in (next id depth)) refl;
  }
    where
      there : (o : Option ℕ) → child_in (next id depth) ≡ o → IsOn settings state s.layout (depth + 1) (record { point = p; nodes = depth + 1; word = word; id = id }) (next id depth) o
      there (Some below) e = let on = goes_down settings x root state s.served s.layout s.by_rows p id top depth few node below e in (on.0, on.1, refl)
      there None e = is_there settings x root state s.served s.layout s.by_rows p id top depth few node e

  -- the root node is of the image, and each way sets out before it
  held_root : 0 < times x.rows root
  held_root = rw s.by_rows.top at (held_node settings x root state s.served s.layout s.by_rows root_cell (root_node settings state))

  pub root_fits : IsRow root
  root_fits = let low = s.by_rows.low root held_root in (low.0, omega (arith, low.1))

  pub outset : (p : Point) (id : ℕ) → IsTop id p → Goes settings state s.layout 0 (record { point = p; nodes = 0; word = entry_word (entry.Child root); id = id })
  outset p id top =
      let over_root = root_over p id top in
      record {
        top = top;
        entry = entry.Child root;
        word = told (entry.Child root) root_fits;
        on = (subst (IsNode settings state) (sym over_root) (root_node settings state), sym s.by_rows.top ∙ ap s.layout.node (sym over_root), refl);
      }

  module _ (depth : ℕ) (way : Way) where
    -- the row of the node ahead is of the image
    pub held_ahead : (row : ℕ) → (goes : Goes settings state s.layout depth way) → child_in goes.entry ≡ Some row → (0 < times x.rows row) × (way.nodes ≡ depth)
    held_ahead row goes is =
        let on : IsOn settings state s.layout depth way goes.entry (Some row) = subst (IsOn settings state s.layout depth way goes.entry) is goes.on in
        (rw on.1 (held_node settings x root state s.served s.layout s.by_rows (over (way.id / 2) (4 * depth)) on.0), on.2)

    pub gone : (row place word : ℕ) → depth ≤ 6 → (goes : Goes settings state s.layout depth way) → child_in goes.entry ≡ Some row → place ≡ way.id / 2 ^ (53 - 2 * (4 * depth)) % 256
        → word ≡ x.word row place → Goes settings state s.layout (depth + 1) (record way { nodes = way.nodes + 1; word = word })
    gone row place word few goes is place_is told =
        let on : IsOn settings state s.layout depth way goes.entry (Some row) = subst (IsOn settings state s.layout depth way goes.entry) is goes.on in
        rw on.2 (came way.point way.id depth row place word goes.top few on.0 on.1 place_is told)

    -- a way that has the word of its leaf waits
    pub waits : (goes : Goes settings state s.layout depth way) → child_in goes.entry ≡ None → Goes settings state s.layout (depth + 1) way
    waits goes is =
        let on : IsOn settings state s.layout depth way goes.entry None = subst (IsOn settings state s.layout depth way goes.entry) is goes.on in
        record { top = goes.top; entry = goes.entry; word = goes.word; on = subst (IsOn settings state s.layout (depth + 1) way goes.entry) (sym is) on }

    -- one that stays the same has come down
    pub stayed : Goes settings state s.layout depth way → Goes settings state s.layout (depth + 1) way → IsDown settings state s.layout way
    stayed before after = by (child_in after.entry) after.on (ap child_in (same_Some _ _ (sym before.word ∙ after.word)))
      where
        by : (o : Option ℕ) → IsOn settings state s.layout (depth + 1) way after.entry o → child_in before.entry ≡ o → IsDown settings state s.layout way
        by (Some row) on is = absurd (omega (arith, on.2, (held_ahead row before is).1))
        by None on is = record { entry = after.entry; word = after.word; reached = on }

    -- and no way has an eighth node
    pub ended : 4 * depth ≡ 28 → Goes settings state s.layout depth way → IsDown settings state s.layout way
    ended eighth goes = by (child_in goes.entry) goes.on
      where
        by : (o : Option ℕ) → IsOn settings state s.layout depth way goes.entry o → IsDown settings state s.layout way
        by (Some row) on = absurd (no_eighth settings state (way.id / 2) (rw eighth at on.0))
        by None on = record { entry = goes.entry; word = goes.word; reached = on }

-- the entry of that word
pub reached_at : (settings : Settings) (state : State) (layout : Layout) (way : Way) (found : Entry) → ((e : Entry) → entry_of way.word ≡ Some e → found ≡ e) → IsDown settings state layout way
    → IsReached settings state layout way.point found way.nodes
reached_at settings state layout way found told down = rw (told down.entry down.word) down.reached

-- ---- all ways as far as they lead together
pub led_all : (trunk : Trunk) (P : Way → Type 0) (ways : List Way) → All (λ (way : Way). P (led trunk way)) ways → All P (map (led trunk) ways)
led_all trunk P ways all k d within =
    let inside : k < length ways = omega (arith, within, length-map ways (led trunk)) in
    subst P (sym (get_or-map (led trunk) ways k d d inside)) (all k d inside)

pub led_sum : (trunk : Trunk) (ways : List Way) → (0 < trunk.nodes → 0 < length ways) → trunk.nodes ≤ sum_by (λ (way : Way). way.nodes) (map (led trunk) ways)
led_sum trunk ways some = by (sides trunk.nodes)
  where
    sides : (n : ℕ) → (n ≡ 0) ⊎ (0 < n)
    sides n = grind arith

    by : (trunk.nodes ≡ 0) ⊎ (0 < trunk.nodes) → trunk.nodes ≤ sum_by (λ (way : Way). way.nodes) (map (led trunk) ways)
    by (inl none) = omega (arith, none)
    by (inr more) =
        let inside : 0 < length (map (led trunk) ways) = omega (arith, some more, length-map ways (led trunk)) in
        let first : (get_or (map (led trunk) ways) 0 no_way).nodes ≡ trunk.nodes = ap (λ (way : Way). way.nodes) (get_or-map (led trunk) ways 0 no_way no_way (some more)) in
        omega (arith, first, get_or-le-sum_by (λ (way : Way). way.nodes) (map (led trunk) ways) 0 no_way inside)

pub led_nodes : (nodes many : ℕ) → nodes ≤ 7 → (0 < nodes → 0 < many) → nodes ≤ 7 * many
led_nodes nodes many few some = by (sides nodes)
  where
    sides : (n : ℕ) → (n ≡ 0) ⊎ (0 < n)
    sides n = grind arith

    by : (nodes ≡ 0) ⊎ (0 < nodes) → nodes ≤ 7 * many
    by (inl none) = omega (arith, none)
    by (inr more) = omega (arith, few, some more)

pub led_begin : (trunk : Trunk) (ways : List Way) → ways ≡ map (led trunk) (take 0 ways) ++ drop 0 ways
led_begin trunk [] = refl
led_begin trunk (way ∷ ways) = refl

pub led_more : (trunk : Trunk) (ways now : List Way) (i : ℕ) (d : Way) → i < length ways → now ≡ map (led trunk) (take i ways) ++ drop i ways
    → set now i (led trunk (get_or now i d)) ≡ map (led trunk) (take (i + 1) ways) ++ drop (i + 1) ways
led_more trunk ways now i d within is =
    ap (λ (l : List Way). set l i (led trunk (get_or l i d))) is
    ∙ ap (λ (way : Way). set (map (led trunk) (take i ways) ++ drop i ways) i (led trunk way)) (front_here (led trunk) ways i d)
    ∙ front_more (led trunk) ways i d within
