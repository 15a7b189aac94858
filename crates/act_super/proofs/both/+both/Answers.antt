use Rattle.std.proofs.Common.{rules, ◌≡◌, ◌+◌, ◌*◌, ◌^◌, ◌<◌, ◌≤◌, ◌&&◌, length, ◌-◌, true, arith, sym, subst, ◌∙◌, ap}
use Rattle.std.specs.Prelude.{nat_lt}
use Rattle.act_grid.specs.Cell.{Address, IsCell, child_of}
use Rattle.act_cover.proofs.Placed.{child_cell}
use Rattle.act_cover.specs.Covering.{class_at, is_on}
use Rattle.act_super.specs.declared.pack.Pack.{Pack}
use Rattle.act_super.specs.Boxes.{AreBoxed}
use Rattle.act_super.specs.Grounds.{asks, is_split, on}
use Rattle.act_super.specs.Packs.{empty_pack, inner, put_leaf, put_tree}
use Rattle.act_super.specs.Parts.{four_parts, inner_four, most_four, part, put_four}
use Rattle.act_super.specs.Shifts.{added}
use Rattle.act_super.specs.Standings.{standing_ground, values}
use Rattle.act_super.specs.Trees.{most, under}
use Rattle.act_super.proofs.BoxFacts.{boxed_below}
use Rattle.act_super.proofs.AddFacts.{length_added, on_added_self, split_new, split_still}
use Rattle.act_super.proofs.RowFacts.{inner_fits, rows_after, rows_four}
use Rattle.act_super.proofs.ShiftFacts.{shift_is, shift_leaf, shift_node}
use Rattle.act_super.proofs.StandingFacts.{length_values, standings_go_down, wanted_is}
use Rattle.act_super.proofs.TreeFacts.{on_again, split_on}
use Rattle.act_super.proofs.UnderFacts.{inner_as_four, inner_as_node, leaf_here, length_on, most_as_four, pow_one, pow_step, put_as_four, put_none, split_low}
use Rattle.act_super.proofs.both.+both.Goals as goal

pub both-overflow_add-result : goal.both-overflow_add-result
both-overflow_add-result t c =
    let p0 : c.both_four.new.without ≡ put_four 3 empty_pack (four_parts (standing_ground c.args.marks.now) (values c.args.zones.now) c.args.cell) = c.in_ok-shift.ensures.without ∙ ap (λ s. put_four 3 s (four_parts (standing_ground c.args.marks.now) (values c.args.zones.now) c.args.cell)) c.empty-old.ensures in
    omega (
      arith,
      ap (λ (p : Pack). p.rows) p0,
      rows_four 3 empty_pack (four_parts (standing_ground c.args.marks.now) (values c.args.zones.now) c.args.cell),
      c.in_ok-shift.ensures.shift.fewer,
      inner_fits (standing_ground c.args.marks.now) (on (standing_ground c.args.marks.now) (values c.args.zones.now) (child_of c.args.cell 0)) (child_of c.args.cell 0) 3,
      inner_fits (standing_ground c.args.marks.now) (on (standing_ground c.args.marks.now) (values c.args.zones.now) (child_of c.args.cell 1)) (child_of c.args.cell 1) 3,
      inner_fits (standing_ground c.args.marks.now) (on (standing_ground c.args.marks.now) (values c.args.zones.now) (child_of c.args.cell 2)) (child_of c.args.cell 2) 3,
      inner_fits (standing_ground c.args.marks.now) (on (standing_ground c.args.marks.now) (values c.args.zones.now) (child_of c.args.cell 3)) (child_of c.args.cell 3) 3,
    )

pub both-overflow_add-result-then-k-eq0 : goal.both-overflow_add-result-then-k-eq0
both-overflow_add-result-then-k-eq0 t c =
    let p1 : c.both_four.new.with ≡ put_four 3 empty_pack (four_parts (standing_ground c.args.marks.now) (added (values c.args.zones.now) c.args.zone.now) c.args.cell) = c.in_ok-shift.ensures.with ∙ ap (λ s. put_four 3 s (four_parts (standing_ground c.args.marks.now) (added (values c.args.zones.now) c.args.zone.now) c.args.cell)) c.empty-new.ensures in
    omega (
      arith,
      ap (λ (p : Pack). p.rows) p1,
      rows_four 3 empty_pack (four_parts (standing_ground c.args.marks.now) (added (values c.args.zones.now) c.args.zone.now) c.args.cell),
      c.in_ok-shift.ensures.shift.newer,
      inner_fits (standing_ground c.args.marks.now) (on (standing_ground c.args.marks.now) (added (values c.args.zones.now) c.args.zone.now) (child_of c.args.cell 0)) (child_of c.args.cell 0) 3,
      inner_fits (standing_ground c.args.marks.now) (on (standing_ground c.args.marks.now) (added (values c.args.zones.now) c.args.zone.now) (child_of c.args.cell 1)) (child_of c.args.cell 1) 3,
      inner_fits (standing_ground c.args.marks.now) (on (standing_ground c.args.marks.now) (added (values c.args.zones.now) c.args.zone.now) (child_of c.args.cell 2)) (child_of c.args.cell 2) 3,
      inner_fits (standing_ground c.args.marks.now) (on (standing_ground c.args.marks.now) (added (values c.args.zones.now) c.args.zone.now) (child_of c.args.cell 3)) (child_of c.args.cell 3) 3,
    )

pub both-returns-then-k-eq0-clause-without : goal.both-returns-then-k-eq0-clause-without
both-returns-then-k-eq0-clause-without t c = sym (put_none (standing_ground c.args.marks.now) (standings_go_down c.args.marks.now) (values c.args.zones.now) c.args.cell c.requires.cell (sym c.requires.split ∙ c.if-split.true) c.args.k c.args.without.now c.if-k-eq0.true)

pub both-returns-then-k-eq0-clause-with : goal.both-returns-then-k-eq0-clause-with
both-returns-then-k-eq0-clause-with t c = sym (put_none (standing_ground c.args.marks.now) (standings_go_down c.args.marks.now) (added (values c.args.zones.now) c.args.zone.now) c.args.cell c.requires.cell (split_still (standing_ground c.args.marks.now) (values c.args.zones.now) c.args.zone.now c.args.cell (sym c.requires.split ∙ c.if-split.true)) c.args.k c.args.with.now c.if-k-eq0.true)

pub both-returns-then-k-eq0-clause-shift : goal.both-returns-then-k-eq0-clause-shift
both-returns-then-k-eq0-clause-shift t c =
    let p0 : c.both_four.new.without ≡ put_four 3 empty_pack (four_parts (standing_ground c.args.marks.now) (values c.args.zones.now) c.args.cell) = c.in_ok-shift.ensures.without ∙ ap (λ s. put_four 3 s (four_parts (standing_ground c.args.marks.now) (values c.args.zones.now) c.args.cell)) c.empty-old.ensures in
    let p1 : c.both_four.new.with ≡ put_four 3 empty_pack (four_parts (standing_ground c.args.marks.now) (added (values c.args.zones.now) c.args.zone.now) c.args.cell) = c.in_ok-shift.ensures.with ∙ ap (λ s. put_four 3 s (four_parts (standing_ground c.args.marks.now) (added (values c.args.zones.now) c.args.zone.now) c.args.cell)) c.empty-new.ensures in
    let old : inner c.args.k (under (standing_ground c.args.marks.now) (values c.args.zones.now) c.args.cell) ≡ 1 + c.both_four.new.without.rows + inner_four 3 (four_parts (standing_ground c.args.marks.now) (values c.args.zones.now) c.args.cell) = omega (arith, inner_as_node (standing_ground c.args.marks.now) (standings_go_down c.args.marks.now) (values c.args.zones.now) c.args.cell c.requires.cell (sym c.requires.split ∙ c.if-split.true) c.args.k c.if-k-eq0.true, ap (λ (p : Pack). p.rows) p0) in
    let new : inner c.args.k (under (standing_ground c.args.marks.now) (added (values c.args.zones.now) c.args.zone.now) c.args.cell) ≡ 1 + c.both_four.new.with.rows + inner_four 3 (four_parts (standing_ground c.args.marks.now) (added (values c.args.zones.now) c.args.zone.now) c.args.cell) = omega (arith, inner_as_node (standing_ground c.args.marks.now) (standings_go_down c.args.marks.now) (added (values c.args.zones.now) c.args.zone.now) c.args.cell c.requires.cell (split_still (standing_ground c.args.marks.now) (values c.args.zones.now) c.args.zone.now c.args.cell (sym c.requires.split ∙ c.if-split.true)) c.args.k c.if-k-eq0.true, ap (λ (p : Pack). p.rows) p1) in
    shift_is _ _ _ _ _ _ (most_four (four_parts (standing_ground c.args.marks.now) (values c.args.zones.now) c.args.cell)) (most_four (four_parts (standing_ground c.args.marks.now) (added (values c.args.zones.now) c.args.zone.now) c.args.cell)) _ old new (most_as_four (standing_ground c.args.marks.now) (standings_go_down c.args.marks.now) (values c.args.zones.now) c.args.cell c.requires.cell (sym c.requires.split ∙ c.if-split.true)) (most_as_four (standing_ground c.args.marks.now) (standings_go_down c.args.marks.now) (added (values c.args.zones.now) c.args.zone.now) c.args.cell c.requires.cell (split_still (standing_ground c.args.marks.now) (values c.args.zones.now) c.args.zone.now c.args.cell (sym c.requires.split ∙ c.if-split.true)))
    (shift_node _ _ _ _ c.both_four.new.without.rows c.both_four.new.with.rows c.in_ok-shift.shift c.in_ok-shift.ensures.shift)

pub both-both_four-requires : goal.both-both_four-requires
both-both_four-requires t c =
    let low : c.args.cell.level < 28 = split_low (standing_ground c.args.marks.now) (values c.args.zones.now) c.args.cell (sym c.requires.split ∙ c.if-split.true) in
    search rules

pub both-both_four-requires-then-split : goal.both-both_four-requires-then-split
both-both_four-requires-then-split t c =
    let low : c.args.cell.level < 28 = split_low (standing_ground c.args.marks.now) (values c.args.zones.now) c.args.cell (sym c.requires.split ∙ c.if-split.true) in
    let some : 0 < c.args.k = omega (arith, c.if-k-eq0.false) in
    let one : c.args.without.now.rows + 4 * 4 ^ (c.args.k - 1) ≤ 2 ^ 32 = omega (arith, pow_step c.args.k some) in
    let two : c.args.with.now.rows + 4 * 4 ^ (c.args.k - 1) ≤ 2 ^ 32 = omega (arith, pow_step c.args.k some) in
    search rules

pub both-returns-then-split-clause-without : goal.both-returns-then-split-clause-without
both-returns-then-split-clause-without t c =
    let some : 0 < c.args.k = omega (arith, c.if-k-eq0.false) in
    c.in_ok-shift-2.ensures.without ∙ sym (put_as_four (standing_ground c.args.marks.now) (standings_go_down c.args.marks.now) (values c.args.zones.now) c.args.cell c.requires.cell (sym c.requires.split ∙ c.if-split.true) c.args.k c.args.without.now some)

pub both-returns-then-split-clause-with : goal.both-returns-then-split-clause-with
both-returns-then-split-clause-with t c =
    let some : 0 < c.args.k = omega (arith, c.if-k-eq0.false) in
    c.in_ok-shift-2.ensures.with ∙ sym (put_as_four (standing_ground c.args.marks.now) (standings_go_down c.args.marks.now) (added (values c.args.zones.now) c.args.zone.now) c.args.cell c.requires.cell (split_still (standing_ground c.args.marks.now) (values c.args.zones.now) c.args.zone.now c.args.cell (sym c.requires.split ∙ c.if-split.true)) c.args.k c.args.with.now some)

pub both-returns-then-split-clause-shift : goal.both-returns-then-split-clause-shift
both-returns-then-split-clause-shift t c =
    let some : 0 < c.args.k = omega (arith, c.if-k-eq0.false) in
    shift_is _ _ _ _ (inner_four (c.args.k - 1) (four_parts (standing_ground c.args.marks.now) (values c.args.zones.now) c.args.cell)) (inner_four (c.args.k - 1) (four_parts (standing_ground c.args.marks.now) (added (values c.args.zones.now) c.args.zone.now) c.args.cell)) (most_four (four_parts (standing_ground c.args.marks.now) (values c.args.zones.now) c.args.cell)) (most_four (four_parts (standing_ground c.args.marks.now) (added (values c.args.zones.now) c.args.zone.now) c.args.cell)) _ (inner_as_four (standing_ground c.args.marks.now) (standings_go_down c.args.marks.now) (values c.args.zones.now) c.args.cell c.requires.cell (sym c.requires.split ∙ c.if-split.true) c.args.k some) (inner_as_four (standing_ground c.args.marks.now) (standings_go_down c.args.marks.now) (added (values c.args.zones.now) c.args.zone.now) c.args.cell c.requires.cell (split_still (standing_ground c.args.marks.now) (values c.args.zones.now) c.args.zone.now c.args.cell (sym c.requires.split ∙ c.if-split.true)) c.args.k some) (most_as_four (standing_ground c.args.marks.now) (standings_go_down c.args.marks.now) (values c.args.zones.now) c.args.cell c.requires.cell (sym c.requires.split ∙ c.if-split.true)) (most_as_four (standing_ground c.args.marks.now) (standings_go_down c.args.marks.now) (added (values c.args.zones.now) c.args.zone.now) c.args.cell c.requires.cell (split_still (standing_ground c.args.marks.now) (values c.args.zones.now) c.args.zone.now c.args.cell (sym c.requires.split ∙ c.if-split.true))) c.in_ok-shift-2.ensures.shift

pub both-put_leaf-requires-clause-rows : goal.both-put_leaf-requires-clause-rows
both-put_leaf-requires-clause-rows t c = omega (arith, pow_one c.args.k)

pub both-returns-then-wanted-clause-without : goal.both-returns-then-wanted-clause-without
both-returns-then-wanted-clause-without t c =
    c.put_leaf.ensures.put ∙ ap (put_leaf c.args.without.now) (sym (length_values c.args.zones.now)) ∙ sym (ap (put_tree c.args.k c.args.without.now) (leaf_here (standing_ground c.args.marks.now) (values c.args.zones.now) c.args.cell (sym c.requires.split ∙ c.if-split.false) c.requires.on))

pub both-returns-then-wanted-clause-shift : goal.both-returns-then-wanted-clause-shift
both-returns-then-wanted-clause-shift t c =
    shift_is _ _ _ _ 0 c.in_ok-found.found.rows (length c.args.zones.now) c.in_ok-found.found.most _ (ap (inner c.args.k) (leaf_here (standing_ground c.args.marks.now) (values c.args.zones.now) c.args.cell (sym c.requires.split ∙ c.if-split.false) c.requires.on)) (sym c.in_ok-found.ensures.rows)
    (ap most (leaf_here (standing_ground c.args.marks.now) (values c.args.zones.now) c.args.cell (sym c.requires.split ∙ c.if-split.false) c.requires.on) ∙ length_values c.args.zones.now) (sym c.in_ok-found.ensures.most) (shift_leaf (length c.args.zones.now) c.in_ok-found.found.rows c.in_ok-found.found.most)

pub both-put_leaf-requires-2-clause-rows : goal.both-put_leaf-requires-2-clause-rows
both-put_leaf-requires-2-clause-rows t c = omega (arith, pow_one c.args.k)

pub both-returns-clause-without : goal.both-returns-clause-without
both-returns-clause-without t c =
    c.put_leaf.ensures.put ∙ ap (put_leaf c.args.without.now) (sym (length_values c.args.zones.now)) ∙ sym (ap (put_tree c.args.k c.args.without.now) (leaf_here (standing_ground c.args.marks.now) (values c.args.zones.now) c.args.cell (sym c.requires.split ∙ c.if-split.false) c.requires.on))

pub both-returns-clause-with : goal.both-returns-clause-with
both-returns-clause-with t c =
    let count : length c.args.zones.now + 1 ≡ length (added (values c.args.zones.now) c.args.zone.now) = omega (arith, length_added (values c.args.zones.now) c.args.zone.now, length_values c.args.zones.now) in
    c.put_leaf-2.ensures.put ∙ ap (put_leaf c.args.with.now) count ∙ sym (ap (put_tree c.args.k c.args.with.now) (leaf_here (standing_ground c.args.marks.now) (added (values c.args.zones.now) c.args.zone.now) c.args.cell (split_new (standing_ground c.args.marks.now) (values c.args.zones.now) c.args.zone.now c.args.cell c.args.wanted (sym c.requires.split ∙ c.if-split.false) c.requires.wanted ∙ c.if-wanted.false) (on_added_self (standing_ground c.args.marks.now) (values c.args.zones.now) c.args.zone.now c.args.cell c.requires.on c.requires.zone_on)))

pub both-returns-clause-shift : goal.both-returns-clause-shift
both-returns-clause-shift t c =
    let count : length (added (values c.args.zones.now) c.args.zone.now) ≡ length c.args.zones.now + 1 = omega (arith, length_added (values c.args.zones.now) c.args.zone.now, length_values c.args.zones.now) in
    shift_is _ _ _ _ 0 0 (length c.args.zones.now) (length c.args.zones.now + 1) _ (ap (inner c.args.k) (leaf_here (standing_ground c.args.marks.now) (values c.args.zones.now) c.args.cell (sym c.requires.split ∙ c.if-split.false) c.requires.on)) (ap (inner c.args.k) (leaf_here (standing_ground c.args.marks.now) (added (values c.args.zones.now) c.args.zone.now) c.args.cell (split_new (standing_ground c.args.marks.now) (values c.args.zones.now) c.args.zone.now c.args.cell c.args.wanted (sym c.requires.split ∙ c.if-split.false) c.requires.wanted ∙ c.if-wanted.false) (on_added_self (standing_ground c.args.marks.now) (values c.args.zones.now) c.args.zone.now c.args.cell c.requires.on c.requires.zone_on)))
    (ap most (leaf_here (standing_ground c.args.marks.now) (values c.args.zones.now) c.args.cell (sym c.requires.split ∙ c.if-split.false) c.requires.on) ∙ length_values c.args.zones.now) (ap most (leaf_here (standing_ground c.args.marks.now) (added (values c.args.zones.now) c.args.zone.now) c.args.cell (split_new (standing_ground c.args.marks.now) (values c.args.zones.now) c.args.zone.now c.args.cell c.args.wanted (sym c.requires.split ∙ c.if-split.false) c.requires.wanted ∙ c.if-wanted.false) (on_added_self (standing_ground c.args.marks.now) (values c.args.zones.now) c.args.zone.now c.args.cell c.requires.on c.requires.zone_on)) ∙ count) (shift_leaf (length c.args.zones.now) 0 (length c.args.zones.now + 1))

pub both_below-both-requires : goal.both_below-both-requires
both_below-both-requires t c =
    let g = (standing_ground c.args.marks.now) in
    let level : c.child-below.result.level ≡ c.args.cell.level + 1 = ap (λ (x : Address). x.level) c.child-below.ensures in
    let cell : IsCell c.child-below.result = rw c.child-below.ensures (child_cell c.args.cell c.args.q c.requires.cell (omega (arith, c.requires.level)) c.requires.quarter) in
    let items : values c.as_slice.result.now ≡ on g (values c.args.zones.now) c.child-below.result = ap values c.as_slice.ensures.value ∙ c.in_ok-there.ensures.zones in
    let again : on g (values c.as_slice.result.now) c.child-below.result ≡ values c.as_slice.result.now =
    ap (λ r. on g r c.child-below.result) items ∙ on_again g (values c.args.zones.now) c.child-below.result ∙ sym items in
    let split : c.in_ok-there.there.split ≡ is_split g (values c.as_slice.result.now) c.child-below.result =
    c.in_ok-there.ensures.split ∙ sym (ap (λ r. is_split g r c.child-below.result) items ∙ split_on g (values c.args.zones.now) c.child-below.result) in
    let few : length c.as_slice.result.now < 2 ^ 32 =
    omega (arith, ap (λ r. length r) items, length_on g (values c.args.zones.now) c.child-below.result, length_values c.as_slice.result.now, length_values c.args.zones.now, c.requires.few) in
    let zone_on : is_on (class_at c.args.zone.now.shape c.child-below.result) ≡ true = ap is_on (sym c.class_on-class.ensures) ∙ sym c.is_on.ensures ∙ c.if-is_on.true in
    let wanted : (nat_lt c.level-level.result 28 && c.asks.result) ≡ (nat_lt c.child-below.result.level 28 && asks g c.child-below.result c.args.zone.now) =
    ap (λ b. nat_lt c.level-level.result 28 && b) (wanted_is c.child-below.result c.args.zone.now c.args.marks.now c.class_on-class.result c.level-level.result c.has.result c.asks.result c.class_on-class.ensures c.level-level.ensures.value c.has.ensures c.asks.ensures)
    ∙ ap (λ n. nat_lt n 28 && asks g c.child-below.result c.args.zone.now) c.level-level.ensures.value in
    let boxed : AreBoxed c.args.frame (values c.as_slice.result.now) = subst (AreBoxed c.args.frame) (sym items) (boxed_below c.args.marks.now c.args.frame (values c.args.zones.now) c.child-below.result c.requires.boxed) in
    search rules

pub both_below-returns-then-is_on-clause-fits : goal.both_below-returns-then-is_on-clause-fits
both_below-returns-then-is_on-clause-fits t c =
    omega (
      arith,
      c.in_ok-shift.ensures.shift.fewer,
      c.in_ok-shift.ensures.shift.newer,
      inner_fits (standing_ground c.args.marks.now) (values c.as_slice.result.now) c.child-below.result c.args.k,
      inner_fits (standing_ground c.args.marks.now) (added (values c.as_slice.result.now) c.args.zone.now) c.child-below.result c.args.k,
    )

pub both_below-lists-requires-clause-few : goal.both_below-lists-requires-clause-few
both_below-lists-requires-clause-few t c =
    let g = (standing_ground c.args.marks.now) in
    let level : c.child-below.result.level ≡ c.args.cell.level + 1 = ap (λ (x : Address). x.level) c.child-below.ensures in
    let cell : IsCell c.child-below.result = rw c.child-below.ensures (child_cell c.args.cell c.args.q c.requires.cell (omega (arith, c.requires.level)) c.requires.quarter) in
    let items : values c.as_slice-2.result.now ≡ on g (values c.args.zones.now) c.child-below.result = ap values c.as_slice-2.ensures.value ∙ c.in_ok-there.ensures.zones in
    let again : on g (values c.as_slice-2.result.now) c.child-below.result ≡ values c.as_slice-2.result.now =
    ap (λ r. on g r c.child-below.result) items ∙ on_again g (values c.args.zones.now) c.child-below.result ∙ sym items in
    let split : c.in_ok-there.there.split ≡ is_split g (values c.as_slice-2.result.now) c.child-below.result =
    c.in_ok-there.ensures.split ∙ sym (ap (λ r. is_split g r c.child-below.result) items ∙ split_on g (values c.args.zones.now) c.child-below.result) in
    let few : length c.as_slice-2.result.now < 2 ^ 32 =
    omega (arith, ap (λ r. length r) items, length_on g (values c.args.zones.now) c.child-below.result, length_values c.as_slice-2.result.now, length_values c.args.zones.now, c.requires.few) in
    omega arith

pub both_below-lists-requires-clause-on : goal.both_below-lists-requires-clause-on
both_below-lists-requires-clause-on t c =
    let g = (standing_ground c.args.marks.now) in
    let level : c.child-below.result.level ≡ c.args.cell.level + 1 = ap (λ (x : Address). x.level) c.child-below.ensures in
    let cell : IsCell c.child-below.result = rw c.child-below.ensures (child_cell c.args.cell c.args.q c.requires.cell (omega (arith, c.requires.level)) c.requires.quarter) in
    let items : values c.as_slice-2.result.now ≡ on g (values c.args.zones.now) c.child-below.result = ap values c.as_slice-2.ensures.value ∙ c.in_ok-there.ensures.zones in
    let again : on g (values c.as_slice-2.result.now) c.child-below.result ≡ values c.as_slice-2.result.now =
    ap (λ r. on g r c.child-below.result) items ∙ on_again g (values c.args.zones.now) c.child-below.result ∙ sym items in
    let split : c.in_ok-there.there.split ≡ is_split g (values c.as_slice-2.result.now) c.child-below.result =
    c.in_ok-there.ensures.split ∙ sym (ap (λ r. is_split g r c.child-below.result) items ∙ split_on g (values c.args.zones.now) c.child-below.result) in
    let few : length c.as_slice-2.result.now < 2 ^ 32 =
    omega (arith, ap (λ r. length r) items, length_on g (values c.args.zones.now) c.child-below.result, length_values c.as_slice-2.result.now, length_values c.args.zones.now, c.requires.few) in
    again

pub both_below-lists-requires-clause-split : goal.both_below-lists-requires-clause-split
both_below-lists-requires-clause-split t c =
    let g = (standing_ground c.args.marks.now) in
    let level : c.child-below.result.level ≡ c.args.cell.level + 1 = ap (λ (x : Address). x.level) c.child-below.ensures in
    let cell : IsCell c.child-below.result = rw c.child-below.ensures (child_cell c.args.cell c.args.q c.requires.cell (omega (arith, c.requires.level)) c.requires.quarter) in
    let items : values c.as_slice-2.result.now ≡ on g (values c.args.zones.now) c.child-below.result = ap values c.as_slice-2.ensures.value ∙ c.in_ok-there.ensures.zones in
    let again : on g (values c.as_slice-2.result.now) c.child-below.result ≡ values c.as_slice-2.result.now =
    ap (λ r. on g r c.child-below.result) items ∙ on_again g (values c.args.zones.now) c.child-below.result ∙ sym items in
    let split : c.in_ok-there.there.split ≡ is_split g (values c.as_slice-2.result.now) c.child-below.result =
    c.in_ok-there.ensures.split ∙ sym (ap (λ r. is_split g r c.child-below.result) items ∙ split_on g (values c.args.zones.now) c.child-below.result) in
    let few : length c.as_slice-2.result.now < 2 ^ 32 =
    omega (arith, ap (λ r. length r) items, length_on g (values c.args.zones.now) c.child-below.result, length_values c.as_slice-2.result.now, length_values c.args.zones.now, c.requires.few) in
    split

pub both_four-both_below-requires-2 : goal.both_four-both_below-requires-2
both_four-both_below-requires-2 t c =
    let one : c.both_below.new.without.rows + 4 ^ c.args.k ≤ 2 ^ 32 = omega (arith, rows_after c.args.k c.args.without.now c.both_below.new.without (part (standing_ground c.args.marks.now) (values c.args.zones.now) c.args.cell 0) c.in_ok-a.ensures.without) in
    let two : c.both_below.new.with.rows + 4 ^ c.args.k ≤ 2 ^ 32 = omega (arith, rows_after c.args.k c.args.with.now c.both_below.new.with (part (standing_ground c.args.marks.now) (added (values c.args.zones.now) c.args.zone.now) c.args.cell 0) c.in_ok-a.ensures.with) in
    search rules

pub both_four-both_below-requires-3 : goal.both_four-both_below-requires-3
both_four-both_below-requires-3 t c =
    let one : c.both_below-2.new.without.rows + 4 ^ c.args.k ≤ 2 ^ 32 = omega (arith, rows_after c.args.k c.args.without.now c.both_below.new.without (part (standing_ground c.args.marks.now) (values c.args.zones.now) c.args.cell 0) c.in_ok-a.ensures.without, rows_after c.args.k c.both_below.new.without c.both_below-2.new.without (part (standing_ground c.args.marks.now) (values c.args.zones.now) c.args.cell 1) c.in_ok-b.ensures.without) in
    let two : c.both_below-2.new.with.rows + 4 ^ c.args.k ≤ 2 ^ 32 = omega (arith, rows_after c.args.k c.args.with.now c.both_below.new.with (part (standing_ground c.args.marks.now) (added (values c.args.zones.now) c.args.zone.now) c.args.cell 0) c.in_ok-a.ensures.with, rows_after c.args.k c.both_below.new.with c.both_below-2.new.with (part (standing_ground c.args.marks.now) (added (values c.args.zones.now) c.args.zone.now) c.args.cell 1) c.in_ok-b.ensures.with) in
    search rules

pub both_four-both_below-requires-4 : goal.both_four-both_below-requires-4
both_four-both_below-requires-4 t c =
    let one : c.both_below-3.new.without.rows + 4 ^ c.args.k ≤ 2 ^ 32 = omega (arith, rows_after c.args.k c.args.without.now c.both_below.new.without (part (standing_ground c.args.marks.now) (values c.args.zones.now) c.args.cell 0) c.in_ok-a.ensures.without, rows_after c.args.k c.both_below.new.without c.both_below-2.new.without (part (standing_ground c.args.marks.now) (values c.args.zones.now) c.args.cell 1) c.in_ok-b.ensures.without, rows_after c.args.k c.both_below-2.new.without c.both_below-3.new.without (part (standing_ground c.args.marks.now) (values c.args.zones.now) c.args.cell 2) c.in_ok-c.ensures.without) in
    let two : c.both_below-3.new.with.rows + 4 ^ c.args.k ≤ 2 ^ 32 = omega (arith, rows_after c.args.k c.args.with.now c.both_below.new.with (part (standing_ground c.args.marks.now) (added (values c.args.zones.now) c.args.zone.now) c.args.cell 0) c.in_ok-a.ensures.with, rows_after c.args.k c.both_below.new.with c.both_below-2.new.with (part (standing_ground c.args.marks.now) (added (values c.args.zones.now) c.args.zone.now) c.args.cell 1) c.in_ok-b.ensures.with, rows_after c.args.k c.both_below-2.new.with c.both_below-3.new.with (part (standing_ground c.args.marks.now) (added (values c.args.zones.now) c.args.zone.now) c.args.cell 2) c.in_ok-c.ensures.with) in
    search rules
