use Rattle.std.proofs.Common.{rules, ◌≡◌, ◌+◌, ◌*◌, ◌^◌, ◌<◌, ◌≤◌, length, ◌-◌, arith, refl, sym, ◌∙◌, ap}
use Rattle.act_grid.specs.Cell.{Address, IsCell, child_of}
use Rattle.act_cover.proofs.Placed.{child_cell}
use Rattle.act_super.specs.declared.pack.Pack.{Pack}
use Rattle.act_super.specs.Grounds.{is_split, on}
use Rattle.act_super.specs.Packs.{empty_pack, inner, put_leaf, put_tree}
use Rattle.act_super.specs.Parts.{four_parts, inner_four, part, put_four}
use Rattle.act_super.specs.Standings.{standing_ground, values}
use Rattle.act_super.specs.Trees.{under}
use Rattle.act_super.proofs.GrownFacts.{growth_is, growth_leaf, growth_node, growth_none, split_kept, under_apart}
use Rattle.act_super.proofs.RowFacts.{inner_fits, rows_after, rows_four}
use Rattle.act_super.proofs.StandingFacts.{length_values, standings_go_down}
use Rattle.act_super.proofs.TreeFacts.{on_again, split_on}
use Rattle.act_super.proofs.UnderFacts.{inner_as_four, inner_as_node, leaf_here, length_on, pow_one, pow_step, put_as_four, put_none, split_low}
use Rattle.act_super.proofs.grow.+grown.Goals as goal

pub grown-returns-then-not-may_hold-clause-with : goal.grown-returns-then-not-may_hold-clause-with
grown-returns-then-not-may_hold-clause-with t c =
    c.in_ok-lists.ensures.second ∙ ap (put_tree c.args.k c.args.with.now) (sym (under_apart c.args.old.now c.args.new.now c.args.fresh (values c.args.zones.now) c.args.cell c.requires.longer (c.may_hold.ensures c.if-not-may_hold.true)))

pub grown-returns-then-not-may_hold-clause-growth : goal.grown-returns-then-not-may_hold-clause-growth
grown-returns-then-not-may_hold-clause-growth t c =
    growth_is _ _ (inner c.args.k (under (standing_ground c.args.old.now) (values c.args.zones.now) c.args.cell)) (inner c.args.k (under (standing_ground c.args.old.now) (values c.args.zones.now) c.args.cell)) _ refl (ap (inner c.args.k) (under_apart c.args.old.now c.args.new.now c.args.fresh (values c.args.zones.now) c.args.cell c.requires.longer (c.may_hold.ensures c.if-not-may_hold.true)))
    (growth_none (inner c.args.k (under (standing_ground c.args.old.now) (values c.args.zones.now) c.args.cell)))

pub grown-overflow_add-result : goal.grown-overflow_add-result
grown-overflow_add-result t c =
    let p0 : c.grown_four.new.without ≡ put_four 3 empty_pack (four_parts (standing_ground c.args.old.now) (values c.args.zones.now) c.args.cell) = c.in_ok-growth.ensures.without ∙ ap (λ s. put_four 3 s (four_parts (standing_ground c.args.old.now) (values c.args.zones.now) c.args.cell)) c.empty-first.ensures in
    omega (
      arith,
      ap (λ (p : Pack). p.rows) p0,
      rows_four 3 empty_pack (four_parts (standing_ground c.args.old.now) (values c.args.zones.now) c.args.cell),
      c.in_ok-growth.ensures.growth.fewer,
      inner_fits (standing_ground c.args.old.now) (on (standing_ground c.args.old.now) (values c.args.zones.now) (child_of c.args.cell 0)) (child_of c.args.cell 0) 3,
      inner_fits (standing_ground c.args.old.now) (on (standing_ground c.args.old.now) (values c.args.zones.now) (child_of c.args.cell 1)) (child_of c.args.cell 1) 3,
      inner_fits (standing_ground c.args.old.now) (on (standing_ground c.args.old.now) (values c.args.zones.now) (child_of c.args.cell 2)) (child_of c.args.cell 2) 3,
      inner_fits (standing_ground c.args.old.now) (on (standing_ground c.args.old.now) (values c.args.zones.now) (child_of c.args.cell 3)) (child_of c.args.cell 3) 3,
    )

pub grown-overflow_add-result-then-k-eq0 : goal.grown-overflow_add-result-then-k-eq0
grown-overflow_add-result-then-k-eq0 t c =
    let p1 : c.grown_four.new.with ≡ put_four 3 empty_pack (four_parts (standing_ground c.args.new.now) (values c.args.zones.now) c.args.cell) = c.in_ok-growth.ensures.with ∙ ap (λ s. put_four 3 s (four_parts (standing_ground c.args.new.now) (values c.args.zones.now) c.args.cell)) c.empty-second.ensures in
    omega (
      arith,
      ap (λ (p : Pack). p.rows) p1,
      rows_four 3 empty_pack (four_parts (standing_ground c.args.new.now) (values c.args.zones.now) c.args.cell),
      c.in_ok-growth.ensures.growth.newer,
      inner_fits (standing_ground c.args.new.now) (on (standing_ground c.args.new.now) (values c.args.zones.now) (child_of c.args.cell 0)) (child_of c.args.cell 0) 3,
      inner_fits (standing_ground c.args.new.now) (on (standing_ground c.args.new.now) (values c.args.zones.now) (child_of c.args.cell 1)) (child_of c.args.cell 1) 3,
      inner_fits (standing_ground c.args.new.now) (on (standing_ground c.args.new.now) (values c.args.zones.now) (child_of c.args.cell 2)) (child_of c.args.cell 2) 3,
      inner_fits (standing_ground c.args.new.now) (on (standing_ground c.args.new.now) (values c.args.zones.now) (child_of c.args.cell 3)) (child_of c.args.cell 3) 3,
    )

pub grown-returns-then-k-eq0-clause-without : goal.grown-returns-then-k-eq0-clause-without
grown-returns-then-k-eq0-clause-without t c = sym (put_none (standing_ground c.args.old.now) (standings_go_down c.args.old.now) (values c.args.zones.now) c.args.cell c.requires.cell (sym c.requires.split ∙ c.if-split.true) c.args.k c.args.without.now c.if-k-eq0.true)

pub grown-returns-then-k-eq0-clause-with : goal.grown-returns-then-k-eq0-clause-with
grown-returns-then-k-eq0-clause-with t c = sym (put_none (standing_ground c.args.new.now) (standings_go_down c.args.new.now) (values c.args.zones.now) c.args.cell c.requires.cell (split_kept c.args.old.now c.args.new.now c.args.fresh (values c.args.zones.now) c.args.cell c.requires.longer (sym c.requires.split ∙ c.if-split.true)) c.args.k c.args.with.now c.if-k-eq0.true)

pub grown-returns-then-k-eq0-clause-growth : goal.grown-returns-then-k-eq0-clause-growth
grown-returns-then-k-eq0-clause-growth t c =
    let p0 : c.grown_four.new.without ≡ put_four 3 empty_pack (four_parts (standing_ground c.args.old.now) (values c.args.zones.now) c.args.cell) = c.in_ok-growth.ensures.without ∙ ap (λ s. put_four 3 s (four_parts (standing_ground c.args.old.now) (values c.args.zones.now) c.args.cell)) c.empty-first.ensures in
    let p1 : c.grown_four.new.with ≡ put_four 3 empty_pack (four_parts (standing_ground c.args.new.now) (values c.args.zones.now) c.args.cell) = c.in_ok-growth.ensures.with ∙ ap (λ s. put_four 3 s (four_parts (standing_ground c.args.new.now) (values c.args.zones.now) c.args.cell)) c.empty-second.ensures in
    let old : inner c.args.k (under (standing_ground c.args.old.now) (values c.args.zones.now) c.args.cell) ≡ 1 + c.grown_four.new.without.rows + inner_four 3 (four_parts (standing_ground c.args.old.now) (values c.args.zones.now) c.args.cell) = omega (arith, inner_as_node (standing_ground c.args.old.now) (standings_go_down c.args.old.now) (values c.args.zones.now) c.args.cell c.requires.cell (sym c.requires.split ∙ c.if-split.true) c.args.k c.if-k-eq0.true, ap (λ (p : Pack). p.rows) p0) in
    let new : inner c.args.k (under (standing_ground c.args.new.now) (values c.args.zones.now) c.args.cell) ≡ 1 + c.grown_four.new.with.rows + inner_four 3 (four_parts (standing_ground c.args.new.now) (values c.args.zones.now) c.args.cell) = omega (arith, inner_as_node (standing_ground c.args.new.now) (standings_go_down c.args.new.now) (values c.args.zones.now) c.args.cell c.requires.cell (split_kept c.args.old.now c.args.new.now c.args.fresh (values c.args.zones.now) c.args.cell c.requires.longer (sym c.requires.split ∙ c.if-split.true)) c.args.k c.if-k-eq0.true, ap (λ (p : Pack). p.rows) p1) in
    growth_is _ _ _ _ _ old new (growth_node _ _ c.grown_four.new.without.rows c.grown_four.new.with.rows c.in_ok-growth.growth c.in_ok-growth.ensures.growth)

pub grown-grown_four-requires : goal.grown-grown_four-requires
grown-grown_four-requires t c =
    let low : c.args.cell.level < 28 = split_low (standing_ground c.args.old.now) (values c.args.zones.now) c.args.cell (sym c.requires.split ∙ c.if-split.true) in
    search rules

pub grown-grown_four-requires-then-split : goal.grown-grown_four-requires-then-split
grown-grown_four-requires-then-split t c =
    let low : c.args.cell.level < 28 = split_low (standing_ground c.args.old.now) (values c.args.zones.now) c.args.cell (sym c.requires.split ∙ c.if-split.true) in
    let some : 0 < c.args.k = omega (arith, c.if-k-eq0.false) in
    let one : c.args.without.now.rows + 4 * 4 ^ (c.args.k - 1) ≤ 2 ^ 32 = omega (arith, pow_step c.args.k some) in
    let two : c.args.with.now.rows + 4 * 4 ^ (c.args.k - 1) ≤ 2 ^ 32 = omega (arith, pow_step c.args.k some) in
    search rules

pub grown-returns-then-split-clause-without : goal.grown-returns-then-split-clause-without
grown-returns-then-split-clause-without t c =
    let some : 0 < c.args.k = omega (arith, c.if-k-eq0.false) in
    c.in_ok-growth-2.ensures.without ∙ sym (put_as_four (standing_ground c.args.old.now) (standings_go_down c.args.old.now) (values c.args.zones.now) c.args.cell c.requires.cell (sym c.requires.split ∙ c.if-split.true) c.args.k c.args.without.now some)

pub grown-returns-then-split-clause-with : goal.grown-returns-then-split-clause-with
grown-returns-then-split-clause-with t c =
    let some : 0 < c.args.k = omega (arith, c.if-k-eq0.false) in
    c.in_ok-growth-2.ensures.with ∙ sym (put_as_four (standing_ground c.args.new.now) (standings_go_down c.args.new.now) (values c.args.zones.now) c.args.cell c.requires.cell (split_kept c.args.old.now c.args.new.now c.args.fresh (values c.args.zones.now) c.args.cell c.requires.longer (sym c.requires.split ∙ c.if-split.true)) c.args.k c.args.with.now some)

pub grown-returns-then-split-clause-growth : goal.grown-returns-then-split-clause-growth
grown-returns-then-split-clause-growth t c =
    let some : 0 < c.args.k = omega (arith, c.if-k-eq0.false) in
    growth_is _ _ (inner_four (c.args.k - 1) (four_parts (standing_ground c.args.old.now) (values c.args.zones.now) c.args.cell)) (inner_four (c.args.k - 1) (four_parts (standing_ground c.args.new.now) (values c.args.zones.now) c.args.cell)) _ (inner_as_four (standing_ground c.args.old.now) (standings_go_down c.args.old.now) (values c.args.zones.now) c.args.cell c.requires.cell (sym c.requires.split ∙ c.if-split.true) c.args.k some) (inner_as_four (standing_ground c.args.new.now) (standings_go_down c.args.new.now) (values c.args.zones.now) c.args.cell c.requires.cell (split_kept c.args.old.now c.args.new.now c.args.fresh (values c.args.zones.now) c.args.cell c.requires.longer (sym c.requires.split ∙ c.if-split.true)) c.args.k some) c.in_ok-growth-2.ensures.growth

pub grown-put_leaf-requires-clause-rows : goal.grown-put_leaf-requires-clause-rows
grown-put_leaf-requires-clause-rows t c = omega (arith, pow_one c.args.k)

pub grown-returns-clause-without : goal.grown-returns-clause-without
grown-returns-clause-without t c =
    c.put_leaf.ensures.put ∙ ap (put_leaf c.args.without.now) (sym (length_values c.args.zones.now)) ∙ sym (ap (put_tree c.args.k c.args.without.now) (leaf_here (standing_ground c.args.old.now) (values c.args.zones.now) c.args.cell (sym c.requires.split ∙ c.if-split.false) c.requires.on))

pub grown-returns-clause-growth : goal.grown-returns-clause-growth
grown-returns-clause-growth t c =
    growth_is _ _ 0 c.in_ok-more.more _ (ap (inner c.args.k) (leaf_here (standing_ground c.args.old.now) (values c.args.zones.now) c.args.cell (sym c.requires.split ∙ c.if-split.false) c.requires.on)) (sym c.in_ok-more.ensures.rows) (growth_leaf c.in_ok-more.more)

pub grown_below-grown-requires : goal.grown_below-grown-requires
grown_below-grown-requires t c =
    let g = (standing_ground c.args.old.now) in
    let level : c.child-below.result.level ≡ c.args.cell.level + 1 = ap (λ (x : Address). x.level) c.child-below.ensures in
    let cell : IsCell c.child-below.result = rw c.child-below.ensures (child_cell c.args.cell c.args.q c.requires.cell (omega (arith, c.requires.level)) c.requires.quarter) in
    let items : values c.as_slice.result.now ≡ on g (values c.args.zones.now) c.child-below.result = ap values c.as_slice.ensures.value ∙ c.in_ok-there.ensures.zones in
    let again : on g (values c.as_slice.result.now) c.child-below.result ≡ values c.as_slice.result.now =
    ap (λ r. on g r c.child-below.result) items ∙ on_again g (values c.args.zones.now) c.child-below.result ∙ sym items in
    let split : c.in_ok-there.there.split ≡ is_split g (values c.as_slice.result.now) c.child-below.result =
    c.in_ok-there.ensures.split ∙ sym (ap (λ r. is_split g r c.child-below.result) items ∙ split_on g (values c.args.zones.now) c.child-below.result) in
    let few : length c.as_slice.result.now < 2 ^ 32 =
    omega (arith, ap (λ r. length r) items, length_on g (values c.args.zones.now) c.child-below.result, length_values c.as_slice.result.now, length_values c.args.zones.now, c.requires.few) in
    search rules

pub grown_below-returns-clause-fits : goal.grown_below-returns-clause-fits
grown_below-returns-clause-fits t c =
    omega (
      arith,
      c.in_ok-growth.ensures.growth.fewer,
      c.in_ok-growth.ensures.growth.newer,
      inner_fits (standing_ground c.args.old.now) (values c.as_slice.result.now) c.child-below.result c.args.k,
      inner_fits (standing_ground c.args.new.now) (values c.as_slice.result.now) c.child-below.result c.args.k,
    )

pub grown_four-grown_below-requires-2 : goal.grown_four-grown_below-requires-2
grown_four-grown_below-requires-2 t c =
    let one : c.grown_below.new.without.rows + 4 ^ c.args.k ≤ 2 ^ 32 = omega (arith, rows_after c.args.k c.args.without.now c.grown_below.new.without (part (standing_ground c.args.old.now) (values c.args.zones.now) c.args.cell 0) c.in_ok-a.ensures.without) in
    let two : c.grown_below.new.with.rows + 4 ^ c.args.k ≤ 2 ^ 32 = omega (arith, rows_after c.args.k c.args.with.now c.grown_below.new.with (part (standing_ground c.args.new.now) (values c.args.zones.now) c.args.cell 0) c.in_ok-a.ensures.with) in
    search rules

pub grown_four-grown_below-requires-3 : goal.grown_four-grown_below-requires-3
grown_four-grown_below-requires-3 t c =
    let one : c.grown_below-2.new.without.rows + 4 ^ c.args.k ≤ 2 ^ 32 = omega (arith, rows_after c.args.k c.args.without.now c.grown_below.new.without (part (standing_ground c.args.old.now) (values c.args.zones.now) c.args.cell 0) c.in_ok-a.ensures.without, rows_after c.args.k c.grown_below.new.without c.grown_below-2.new.without (part (standing_ground c.args.old.now) (values c.args.zones.now) c.args.cell 1) c.in_ok-b.ensures.without) in
    let two : c.grown_below-2.new.with.rows + 4 ^ c.args.k ≤ 2 ^ 32 = omega (arith, rows_after c.args.k c.args.with.now c.grown_below.new.with (part (standing_ground c.args.new.now) (values c.args.zones.now) c.args.cell 0) c.in_ok-a.ensures.with, rows_after c.args.k c.grown_below.new.with c.grown_below-2.new.with (part (standing_ground c.args.new.now) (values c.args.zones.now) c.args.cell 1) c.in_ok-b.ensures.with) in
    search rules

pub grown_four-grown_below-requires-4 : goal.grown_four-grown_below-requires-4
grown_four-grown_below-requires-4 t c =
    let one : c.grown_below-3.new.without.rows + 4 ^ c.args.k ≤ 2 ^ 32 = omega (arith, rows_after c.args.k c.args.without.now c.grown_below.new.without (part (standing_ground c.args.old.now) (values c.args.zones.now) c.args.cell 0) c.in_ok-a.ensures.without, rows_after c.args.k c.grown_below.new.without c.grown_below-2.new.without (part (standing_ground c.args.old.now) (values c.args.zones.now) c.args.cell 1) c.in_ok-b.ensures.without, rows_after c.args.k c.grown_below-2.new.without c.grown_below-3.new.without (part (standing_ground c.args.old.now) (values c.args.zones.now) c.args.cell 2) c.in_ok-c.ensures.without) in
    let two : c.grown_below-3.new.with.rows + 4 ^ c.args.k ≤ 2 ^ 32 = omega (arith, rows_after c.args.k c.args.with.now c.grown_below.new.with (part (standing_ground c.args.new.now) (values c.args.zones.now) c.args.cell 0) c.in_ok-a.ensures.with, rows_after c.args.k c.grown_below.new.with c.grown_below-2.new.with (part (standing_ground c.args.new.now) (values c.args.zones.now) c.args.cell 1) c.in_ok-b.ensures.with, rows_after c.args.k c.grown_below-2.new.with c.grown_below-3.new.with (part (standing_ground c.args.new.now) (values c.args.zones.now) c.args.cell 2) c.in_ok-c.ensures.with) in
    search rules

pub grown_below-returns-clause-with : goal.grown_below-returns-clause-with
grown_below-returns-clause-with t c =
    let items : values c.as_slice.result.now ≡ on (standing_ground c.args.old.now) (values c.args.zones.now) c.child-below.result = ap values c.as_slice.ensures.value ∙ c.in_ok-there.ensures.zones in
    let there : under (standing_ground c.args.new.now) (values c.as_slice.result.now) c.child-below.result ≡ part (standing_ground c.args.new.now) (values c.args.zones.now) c.args.cell c.args.q = ap (λ xs. under (standing_ground c.args.new.now) xs c.child-below.result) items ∙ ap (λ d. under (standing_ground c.args.new.now) (on (standing_ground c.args.new.now) (values c.args.zones.now) d) d) c.child-below.ensures in
    c.in_ok-growth.ensures.with ∙ ap (put_tree c.args.k c.args.with.now) there

pub grown_below-returns-clause-growth : goal.grown_below-returns-clause-growth
grown_below-returns-clause-growth t c =
    let items : values c.as_slice.result.now ≡ on (standing_ground c.args.old.now) (values c.args.zones.now) c.child-below.result = ap values c.as_slice.ensures.value ∙ c.in_ok-there.ensures.zones in
    let before : under (standing_ground c.args.old.now) (values c.as_slice.result.now) c.child-below.result ≡ part (standing_ground c.args.old.now) (values c.args.zones.now) c.args.cell c.args.q = ap (λ xs. under (standing_ground c.args.old.now) xs c.child-below.result) items ∙ ap (λ d. under (standing_ground c.args.old.now) (on (standing_ground c.args.old.now) (values c.args.zones.now) d) d) c.child-below.ensures in
    let there : under (standing_ground c.args.new.now) (values c.as_slice.result.now) c.child-below.result ≡ part (standing_ground c.args.new.now) (values c.args.zones.now) c.args.cell c.args.q = ap (λ xs. under (standing_ground c.args.new.now) xs c.child-below.result) items ∙ ap (λ d. under (standing_ground c.args.new.now) (on (standing_ground c.args.new.now) (values c.args.zones.now) d) d) c.child-below.ensures in
    growth_is _ _ _ _ _ (ap (inner c.args.k) (sym before)) (ap (inner c.args.k) (sym there)) c.in_ok-growth.ensures.growth
