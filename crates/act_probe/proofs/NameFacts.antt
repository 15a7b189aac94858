-- The references of the leaves of a group of ways.
use Rattle.std.proofs.Common.{◌≡◌, ℕ, ◌+◌, ◌≤◌, ◌<◌, ◌++◌, suc, sym, ap, ◌∙◌, subst, arith, List, [], ◌∷◌, append_assoc, append-nil, get_or, length, map, take}
use Rattle.std.specs.Prelude.{sum_by}
use Rattle.std.specs.List.{All}
use Rattle.std.proofs.lemmas.List.{get_or-map, length-map, length-take-le, map_push, take_more}
use Rattle.act_grid.specs.declared.Point.{Point}
use Rattle.act_grid.specs.declared.Settings.{Settings}
use Rattle.act_grid.specs.Cell.{hull_of}
use Rattle.act_grid.specs.Hull.{IsIn}
use Rattle.act_super.specs.declared.entry.State.{State}
use Rattle.act_super.specs.Stands.{Layout}
use Rattle.act_probe.specs.declared.buffers.Named.{Named}
use Rattle.act_probe.specs.declared.group.Way.{Way}
use Rattle.act_probe.specs.Groups.{IsDown}
use Rattle.act_probe.specs.Names.{leaf_reads, named_at, named_from}
use Rattle.act_probe.specs.Ways.{leaf_of}
use Rattle.act_probe.proofs.GroupFacts.{no_way}
use Rattle.act_probe.proofs.SumFacts.{sum_by-map, went_on}

module _ (layout : Layout) (settings : Settings) (state : State) where
  names-append : (i : ℕ) (xs ys : List Point) → named_from layout settings state i (xs ++ ys) ≡ named_from layout settings state i xs ++ named_from layout settings state (i + length xs) ys
  names-append i [] ys = let e : i + 0 ≡ i = omega arith in ap (λ n. named_from layout settings state n ys) (sym e)
  names-append i (p ∷ xs) ys =
      let e : i + 1 + length xs ≡ i + suc (length xs) = omega arith in
      let here = named_at layout settings state i p in
      ap (λ (ns : List Named). here ++ ns) (names-append (i + 1) xs ys ∙ ap (λ n. named_from layout settings state (i + 1) xs ++ named_from layout settings state n ys) e)
      ∙ sym (append_assoc here (named_from layout settings state (i + 1) xs) (named_from layout settings state (i + suc (length xs)) ys))

  -- one way more
  pub names_more : (first : ℕ) (ways : List Way) (i : ℕ) (old now new : List Named) → i < length ways → now ≡ old ++ named_from layout settings state first (map (λ (way : Way). way.point) (take i ways))
      → new ≡ now ++ named_at layout settings state (first + i) (get_or ways i no_way).point
      → new ≡ old ++ named_from layout settings state first (map (λ (way : Way). way.point) (take (i + 1) ways))
  names_more first ways i old now new within before step =
      let points = map (λ (way : Way). way.point) (take i ways) in
      let p = (get_or ways i no_way).point in
      let long : length points ≡ i = length-map (take i ways) (λ (way : Way). way.point) ∙ length-take-le i ways (omega (arith, within)) in
      let next : map (λ (way : Way). way.point) (take (i + 1) ways) ≡ points ++ p ∷ [] = ap (map (λ (way : Way). way.point)) (take_more ways i no_way within) ∙ map_push (λ (way : Way). way.point) (take i ways) (get_or ways i no_way) in
      step
      ∙ ap (λ (ns : List Named). ns ++ named_at layout settings state (first + i) p) before
      ∙ append_assoc old (named_from layout settings state first points) (named_at layout settings state (first + i) p)
      ∙ ap (λ (ns : List Named). old ++ (named_from layout settings state first points ++ ns)) (sym (append-nil (named_at layout settings state (first + i) p)))
      ∙ ap (λ n. old ++ (named_from layout settings state first points ++ named_from layout settings state (first + n) (p ∷ []))) (sym long)
      ∙ ap (λ (ns : List Named). old ++ ns) (sym (names-append first points (p ∷ [])))
      ∙ ap (λ (ps : List Point). old ++ named_from layout settings state first ps) (sym next)

  pub few_more : (ways : List Way) (i old before new : ℕ) → i < length ways
      → before + sum_by (λ (way : Way). way.nodes) (take i ways) ≤ old + sum_by (leaf_reads settings state) (map (λ (way : Way). way.point) (take i ways))
      → new + (get_or ways i no_way).nodes ≤ before + leaf_reads settings state (get_or ways i no_way).point
      → new + sum_by (λ (way : Way). way.nodes) (take (i + 1) ways) ≤ old + sum_by (leaf_reads settings state) (map (λ (way : Way). way.point) (take (i + 1) ways))
  few_more ways i old before new within few one =
      let spelled = rw (sum_by-map (leaf_reads settings state) (λ (way : Way). way.point) (take i ways)) at few in
      rw (sum_by-map (leaf_reads settings state) (λ (way : Way). way.point) (take (i + 1) ways))
      (went_on (λ (way : Way). way.nodes) (λ (way : Way). leaf_reads settings state way.point) ways i old before new no_way within spelled one)

  -- the points of ways that have come down lie in their leaves
  pub inside_all : (ways : List Way) → All (IsDown settings state layout) ways → All (λ p. IsIn (hull_of (leaf_of settings state p)) p) (map (λ (way : Way). way.point) ways)
  inside_all ways down k d within =
      let inside : k < length ways = omega (arith, within, length-map ways (λ (way : Way). way.point)) in
      subst (λ p. IsIn (hull_of (leaf_of settings state p)) p) (sym (get_or-map (λ (way : Way). way.point) ways k no_way d inside)) (down k no_way inside).reached.inside
