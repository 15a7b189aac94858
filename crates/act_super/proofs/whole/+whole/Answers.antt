use Rattle.std.proofs.Common.{rules, ◌≡◌, ◌+◌, ◌*◌, ◌^◌, ◌<◌, ◌≤◌, length, ◌-◌, arith, sym, ◌∙◌, ap}
use Rattle.act_grid.specs.Cell.{Address, IsCell, child_of}
use Rattle.act_cover.proofs.Placed.{child_cell}
use Rattle.act_super.specs.declared.pack.Pack.{Pack}
use Rattle.act_super.specs.Grounds.{is_split, on}
use Rattle.act_super.specs.Packs.{empty_pack, inner, put_leaf, put_tree}
use Rattle.act_super.specs.Parts.{four_parts, part, put_four}
use Rattle.act_super.specs.Standings.{standing_ground, values}
use Rattle.act_super.specs.Trees.{most}
use Rattle.act_super.proofs.RowFacts.{inner_fits, rows_after, rows_four}
use Rattle.act_super.proofs.StandingFacts.{length_values, standings_go_down}
use Rattle.act_super.proofs.TreeFacts.{on_again, split_on}
use Rattle.act_super.proofs.UnderFacts.{inner_as_four, inner_as_node, leaf_here, length_on, most_as_four, pow_one, pow_step, put_as_four, put_none, split_low}
use Rattle.act_super.proofs.whole.+whole.Goals as goal

pub whole-put_leaf-requires-clause-rows : goal.whole-put_leaf-requires-clause-rows
whole-put_leaf-requires-clause-rows t c = omega (arith, pow_one c.args.k)

pub whole-returns-then-not-split-clause-put : goal.whole-returns-then-not-split-clause-put
whole-returns-then-not-split-clause-put t c =
    c.put_leaf.ensures.put ∙ ap (put_leaf c.args.pack.now) (sym (length_values c.args.zones.now)) ∙ sym (ap (put_tree c.args.k c.args.pack.now) (leaf_here (standing_ground c.args.marks.now) (values c.args.zones.now) c.args.cell (sym c.requires.split ∙ c.if-not-split.true) c.requires.on))

pub whole-returns-then-not-split-clause-rows : goal.whole-returns-then-not-split-clause-rows
whole-returns-then-not-split-clause-rows t c = sym (ap (inner c.args.k) (leaf_here (standing_ground c.args.marks.now) (values c.args.zones.now) c.args.cell (sym c.requires.split ∙ c.if-not-split.true) c.requires.on))

pub whole-returns-then-not-split-clause-most : goal.whole-returns-then-not-split-clause-most
whole-returns-then-not-split-clause-most t c =
    let count : length (values c.args.zones.now) ≡ length c.args.zones.now = length_values c.args.zones.now in
    omega (arith, count, ap most (leaf_here (standing_ground c.args.marks.now) (values c.args.zones.now) c.args.cell (sym c.requires.split ∙ c.if-not-split.true) c.requires.on))

pub whole-overflow_add-result : goal.whole-overflow_add-result
whole-overflow_add-result t c =
    omega (arith, ap (λ (p : Pack). p.rows) c.in_ok-found.ensures.put, ap (λ (p : Pack). p.rows) c.empty-fresh.ensures, rows_four 3 c.empty-fresh.result (four_parts (standing_ground c.args.marks.now) (values c.args.zones.now) c.args.cell))

pub whole-overflow_add-result-then-k-eq0 : goal.whole-overflow_add-result-then-k-eq0
whole-overflow_add-result-then-k-eq0 t c =
    omega (
      arith,
      ap (λ (p : Pack). p.rows) c.in_ok-found.ensures.put,
      ap (λ (p : Pack). p.rows) c.empty-fresh.ensures,
      rows_four 3 c.empty-fresh.result (four_parts (standing_ground c.args.marks.now) (values c.args.zones.now) c.args.cell),
      c.in_ok-found.ensures.rows,
      inner_fits (standing_ground c.args.marks.now) (on (standing_ground c.args.marks.now) (values c.args.zones.now) (child_of c.args.cell 0)) (child_of c.args.cell 0) 3,
      inner_fits (standing_ground c.args.marks.now) (on (standing_ground c.args.marks.now) (values c.args.zones.now) (child_of c.args.cell 1)) (child_of c.args.cell 1) 3,
      inner_fits (standing_ground c.args.marks.now) (on (standing_ground c.args.marks.now) (values c.args.zones.now) (child_of c.args.cell 2)) (child_of c.args.cell 2) 3,
      inner_fits (standing_ground c.args.marks.now) (on (standing_ground c.args.marks.now) (values c.args.zones.now) (child_of c.args.cell 3)) (child_of c.args.cell 3) 3,
    )

pub whole-returns-then-k-eq0-clause-put : goal.whole-returns-then-k-eq0-clause-put
whole-returns-then-k-eq0-clause-put t c = sym (put_none (standing_ground c.args.marks.now) (standings_go_down c.args.marks.now) (values c.args.zones.now) c.args.cell c.requires.cell (sym c.requires.split ∙ c.if-not-split.false) c.args.k c.args.pack.now c.if-k-eq0.true)

pub whole-returns-then-k-eq0-clause-rows : goal.whole-returns-then-k-eq0-clause-rows
whole-returns-then-k-eq0-clause-rows t c =
    let put : c.whole_four.new.pack ≡ put_four 3 empty_pack (four_parts (standing_ground c.args.marks.now) (values c.args.zones.now) c.args.cell) =
    c.in_ok-found.ensures.put ∙ ap (λ s. put_four 3 s (four_parts (standing_ground c.args.marks.now) (values c.args.zones.now) c.args.cell)) c.empty-fresh.ensures in
    omega (arith, inner_as_node (standing_ground c.args.marks.now) (standings_go_down c.args.marks.now) (values c.args.zones.now) c.args.cell c.requires.cell (sym c.requires.split ∙ c.if-not-split.false) c.args.k c.if-k-eq0.true, ap (λ (p : Pack). p.rows) put, c.in_ok-found.ensures.rows)

pub whole-returns-then-k-eq0-clause-most : goal.whole-returns-then-k-eq0-clause-most
whole-returns-then-k-eq0-clause-most t c = c.in_ok-found.ensures.most ∙ sym (most_as_four (standing_ground c.args.marks.now) (standings_go_down c.args.marks.now) (values c.args.zones.now) c.args.cell c.requires.cell (sym c.requires.split ∙ c.if-not-split.false))

pub whole-whole_four-requires : goal.whole-whole_four-requires
whole-whole_four-requires t c =
    let low : c.args.cell.level < 28 = split_low (standing_ground c.args.marks.now) (values c.args.zones.now) c.args.cell (sym c.requires.split ∙ c.if-not-split.false) in
    search rules

pub whole-whole_four-requires-2 : goal.whole-whole_four-requires-2
whole-whole_four-requires-2 t c =
    let low : c.args.cell.level < 28 = split_low (standing_ground c.args.marks.now) (values c.args.zones.now) c.args.cell (sym c.requires.split ∙ c.if-not-split.false) in
    let some : 0 < c.args.k = omega (arith, c.if-k-eq0.false) in
    let rows : c.args.pack.now.rows + 4 * 4 ^ (c.args.k - 1) ≤ 2 ^ 32 = omega (arith, pow_step c.args.k some) in
    search rules

pub whole-returns-clause-put : goal.whole-returns-clause-put
whole-returns-clause-put t c =
    let some : 0 < c.args.k = omega (arith, c.if-k-eq0.false) in
    c.in_ok-found-2.ensures.put ∙ sym (put_as_four (standing_ground c.args.marks.now) (standings_go_down c.args.marks.now) (values c.args.zones.now) c.args.cell c.requires.cell (sym c.requires.split ∙ c.if-not-split.false) c.args.k c.args.pack.now some)

pub whole-returns-clause-rows : goal.whole-returns-clause-rows
whole-returns-clause-rows t c =
    let some : 0 < c.args.k = omega (arith, c.if-k-eq0.false) in
    c.in_ok-found-2.ensures.rows ∙ sym (inner_as_four (standing_ground c.args.marks.now) (standings_go_down c.args.marks.now) (values c.args.zones.now) c.args.cell c.requires.cell (sym c.requires.split ∙ c.if-not-split.false) c.args.k some)

pub whole-returns-clause-most : goal.whole-returns-clause-most
whole-returns-clause-most t c = c.in_ok-found-2.ensures.most ∙ sym (most_as_four (standing_ground c.args.marks.now) (standings_go_down c.args.marks.now) (values c.args.zones.now) c.args.cell c.requires.cell (sym c.requires.split ∙ c.if-not-split.false))

pub whole_below-whole-requires : goal.whole_below-whole-requires
whole_below-whole-requires t c =
    let g = (standing_ground c.args.marks.now) in
    let level : c.child-below.result.level ≡ c.args.cell.level + 1 = ap (λ (x : Address). x.level) c.child-below.ensures in
    let cell : IsCell c.child-below.result = rw c.child-below.ensures (child_cell c.args.cell c.args.q c.requires.cell (omega (arith, c.requires.level)) c.requires.quarter) in
    let items : values c.as_slice.result.now ≡ on g (values c.args.zones.now) c.child-below.result = ap values c.as_slice.ensures.value ∙ c.in_ok-there.ensures.zones in
    let again : on g (values c.as_slice.result.now) c.child-below.result ≡ values c.as_slice.result.now =
    ap (λ r. on g r c.child-below.result) items ∙ on_again g (values c.args.zones.now) c.child-below.result ∙ sym items in
    let split : c.in_ok-there.there.split ≡ is_split g (values c.as_slice.result.now) c.child-below.result =
    c.in_ok-there.ensures.split ∙ sym (ap (λ r. is_split g r c.child-below.result) items ∙ split_on g (values c.args.zones.now) c.child-below.result) in
    let few : length c.as_slice.result.now ≤ 2 ^ 32 =
    omega (arith, ap (λ r. length r) items, length_on g (values c.args.zones.now) c.child-below.result, length_values c.as_slice.result.now, length_values c.args.zones.now, c.requires.few) in
    search rules

pub whole_below-returns-clause-fits : goal.whole_below-returns-clause-fits
whole_below-returns-clause-fits t c = omega (arith, c.in_ok-found.ensures.rows, inner_fits (standing_ground c.args.marks.now) (values c.as_slice.result.now) c.child-below.result c.args.k)

pub whole_four-whole_below-requires-2 : goal.whole_four-whole_below-requires-2
whole_four-whole_below-requires-2 t c =
    let rows : c.whole_below.new.pack.rows + 4 ^ c.args.k ≤ 2 ^ 32 =
    omega (
      arith,
      rows_after c.args.k c.args.pack.now c.whole_below.new.pack (part (standing_ground c.args.marks.now) (values c.args.zones.now) c.args.cell 0) c.in_ok-a.ensures.put,
    ) in
    search rules

pub whole_four-whole_below-requires-3 : goal.whole_four-whole_below-requires-3
whole_four-whole_below-requires-3 t c =
    let rows : c.whole_below-2.new.pack.rows + 4 ^ c.args.k ≤ 2 ^ 32 =
    omega (
      arith,
      rows_after c.args.k c.args.pack.now c.whole_below.new.pack (part (standing_ground c.args.marks.now) (values c.args.zones.now) c.args.cell 0) c.in_ok-a.ensures.put,
      rows_after c.args.k c.whole_below.new.pack c.whole_below-2.new.pack (part (standing_ground c.args.marks.now) (values c.args.zones.now) c.args.cell 1) c.in_ok-b.ensures.put,
    ) in
    search rules

pub whole_four-whole_below-requires-4 : goal.whole_four-whole_below-requires-4
whole_four-whole_below-requires-4 t c =
    let rows : c.whole_below-3.new.pack.rows + 4 ^ c.args.k ≤ 2 ^ 32 =
    omega (
      arith,
      rows_after c.args.k c.args.pack.now c.whole_below.new.pack (part (standing_ground c.args.marks.now) (values c.args.zones.now) c.args.cell 0) c.in_ok-a.ensures.put,
      rows_after c.args.k c.whole_below.new.pack c.whole_below-2.new.pack (part (standing_ground c.args.marks.now) (values c.args.zones.now) c.args.cell 1) c.in_ok-b.ensures.put,
      rows_after c.args.k c.whole_below-2.new.pack c.whole_below-3.new.pack (part (standing_ground c.args.marks.now) (values c.args.zones.now) c.args.cell 2) c.in_ok-c.ensures.put,
    ) in
    search rules
