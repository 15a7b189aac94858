use Rattle.std.proofs.Common.{rules, ◌≡◌, ◌+◌, ◌*◌, ◌^◌, ◌<◌, ◌≤◌, length, ◌-◌, arith, sym, ◌∙◌, ap}
use Rattle.act_grid.specs.Cell.{Address, IsCell}
use Rattle.act_cover.proofs.Placed.{child_cell}
use Rattle.act_super.specs.Grounds.{is_split, on}
use Rattle.act_super.specs.Packs.{put_leaf, put_tree}
use Rattle.act_super.specs.Parts.{part}
use Rattle.act_super.specs.Standings.{standing_ground, values}
use Rattle.act_super.proofs.RowFacts.{rows_after}
use Rattle.act_super.proofs.StandingFacts.{length_values, standings_go_down}
use Rattle.act_super.proofs.TreeFacts.{on_again, split_on}
use Rattle.act_super.proofs.UnderFacts.{leaf_here, length_on, pow_one, pow_step, put_as_four, put_none, split_low}
use Rattle.act_super.proofs.lists.+lists.Goals as goal

pub lists-put_leaf-requires-clause-rows : goal.lists-put_leaf-requires-clause-rows
lists-put_leaf-requires-clause-rows t c = omega (arith, pow_one c.args.k)

pub lists-returns-then-not-split-clause-first : goal.lists-returns-then-not-split-clause-first
lists-returns-then-not-split-clause-first t c =
    c.put_leaf.ensures.put ∙ ap (put_leaf c.args.first.now) (sym (length_values c.args.zones.now)) ∙ sym (ap (put_tree c.args.k c.args.first.now) (leaf_here (standing_ground c.args.marks.now) (values c.args.zones.now) c.args.cell (sym c.requires.split ∙ c.if-not-split.true) c.requires.on))

pub lists-returns-then-k-eq0-clause-first : goal.lists-returns-then-k-eq0-clause-first
lists-returns-then-k-eq0-clause-first t c = sym (put_none (standing_ground c.args.marks.now) (standings_go_down c.args.marks.now) (values c.args.zones.now) c.args.cell c.requires.cell (sym c.requires.split ∙ c.if-not-split.false) c.args.k c.args.first.now c.if-k-eq0.true)

pub lists-returns-clause-first : goal.lists-returns-clause-first
lists-returns-clause-first t c =
    let some : 0 < c.args.k = omega (arith, c.if-k-eq0.false) in
    c.in_ok-lists_four.ensures.first ∙ sym (put_as_four (standing_ground c.args.marks.now) (standings_go_down c.args.marks.now) (values c.args.zones.now) c.args.cell c.requires.cell (sym c.requires.split ∙ c.if-not-split.false) c.args.k c.args.first.now some)

pub lists-put_leaf-requires-then-not-split-clause-rows : goal.lists-put_leaf-requires-then-not-split-clause-rows
lists-put_leaf-requires-then-not-split-clause-rows t c = omega (arith, pow_one c.args.k)

pub lists-returns-then-not-split-clause-second : goal.lists-returns-then-not-split-clause-second
lists-returns-then-not-split-clause-second t c =
    c.put_leaf-then-not-split.ensures.put ∙ ap (put_leaf c.args.second.now) (sym (length_values c.args.zones.now)) ∙ sym (ap (put_tree c.args.k c.args.second.now) (leaf_here (standing_ground c.args.marks.now) (values c.args.zones.now) c.args.cell (sym c.requires.split ∙ c.if-not-split.true) c.requires.on))

pub lists-returns-then-k-eq0-clause-second : goal.lists-returns-then-k-eq0-clause-second
lists-returns-then-k-eq0-clause-second t c = sym (put_none (standing_ground c.args.marks.now) (standings_go_down c.args.marks.now) (values c.args.zones.now) c.args.cell c.requires.cell (sym c.requires.split ∙ c.if-not-split.false) c.args.k c.args.second.now c.if-k-eq0.true)

pub lists-returns-clause-second : goal.lists-returns-clause-second
lists-returns-clause-second t c =
    let some : 0 < c.args.k = omega (arith, c.if-k-eq0.false) in
    c.in_ok-lists_four.ensures.second ∙ sym (put_as_four (standing_ground c.args.marks.now) (standings_go_down c.args.marks.now) (values c.args.zones.now) c.args.cell c.requires.cell (sym c.requires.split ∙ c.if-not-split.false) c.args.k c.args.second.now some)

pub lists-lists_four-requires : goal.lists-lists_four-requires
lists-lists_four-requires t c =
    let low : c.args.cell.level < 28 = split_low (standing_ground c.args.marks.now) (values c.args.zones.now) c.args.cell (sym c.requires.split ∙ c.if-not-split.false) in
    let some : 0 < c.args.k = omega (arith, c.if-k-eq0.false) in
    let one : c.args.first.now.rows + 4 * 4 ^ (c.args.k - 1) ≤ 2 ^ 32 = omega (arith, pow_step c.args.k some) in
    let two : c.args.second.now.rows + 4 * 4 ^ (c.args.k - 1) ≤ 2 ^ 32 = omega (arith, pow_step c.args.k some) in
    search rules

pub lists_below-lists-requires : goal.lists_below-lists-requires
lists_below-lists-requires t c =
    let g = (standing_ground c.args.marks.now) in
    let level : c.child-below.result.level ≡ c.args.cell.level + 1 = ap (λ (x : Address). x.level) c.child-below.ensures in
    let cell : IsCell c.child-below.result = rw c.child-below.ensures (child_cell c.args.cell c.args.q c.requires.cell (omega (arith, c.requires.level)) c.requires.quarter) in
    let items : values c.as_slice.result.now ≡ on g (values c.args.zones.now) c.child-below.result = ap values c.as_slice.ensures.value ∙ c.in_ok-there.ensures.zones in
    let again : on g (values c.as_slice.result.now) c.child-below.result ≡ values c.as_slice.result.now =
    ap (λ r. on g r c.child-below.result) items ∙ on_again g (values c.args.zones.now) c.child-below.result ∙ sym items in
    let split : c.in_ok-there.there.split ≡ is_split g (values c.as_slice.result.now) c.child-below.result =
    c.in_ok-there.ensures.split ∙ sym (ap (λ r. is_split g r c.child-below.result) items ∙ split_on g (values c.args.zones.now) c.child-below.result) in
    let few : length c.as_slice.result.now ≤ 2 ^ 32 =
    omega (arith, ap (λ r. length r) items, length_on g (values c.args.zones.now) c.child-below.result, length_values c.as_slice.result.now, length_values c.args.zones.now, c.requires.few) in
    search rules

pub lists_four-lists_below-requires-2 : goal.lists_four-lists_below-requires-2
lists_four-lists_below-requires-2 t c =
    let one : c.lists_below.new.first.rows + 4 ^ c.args.k ≤ 2 ^ 32 = omega (arith, rows_after c.args.k c.args.first.now c.lists_below.new.first (part (standing_ground c.args.marks.now) (values c.args.zones.now) c.args.cell 0) c.in_ok-lists_below.ensures.first) in
    let two : c.lists_below.new.second.rows + 4 ^ c.args.k ≤ 2 ^ 32 = omega (arith, rows_after c.args.k c.args.second.now c.lists_below.new.second (part (standing_ground c.args.marks.now) (values c.args.zones.now) c.args.cell 0) c.in_ok-lists_below.ensures.second) in
    search rules

pub lists_four-lists_below-requires-3 : goal.lists_four-lists_below-requires-3
lists_four-lists_below-requires-3 t c =
    let one : c.lists_below-2.new.first.rows + 4 ^ c.args.k ≤ 2 ^ 32 = omega (arith, rows_after c.args.k c.args.first.now c.lists_below.new.first (part (standing_ground c.args.marks.now) (values c.args.zones.now) c.args.cell 0) c.in_ok-lists_below.ensures.first, rows_after c.args.k c.lists_below.new.first c.lists_below-2.new.first (part (standing_ground c.args.marks.now) (values c.args.zones.now) c.args.cell 1) c.in_ok-lists_below-2.ensures.first) in
    let two : c.lists_below-2.new.second.rows + 4 ^ c.args.k ≤ 2 ^ 32 = omega (arith, rows_after c.args.k c.args.second.now c.lists_below.new.second (part (standing_ground c.args.marks.now) (values c.args.zones.now) c.args.cell 0) c.in_ok-lists_below.ensures.second, rows_after c.args.k c.lists_below.new.second c.lists_below-2.new.second (part (standing_ground c.args.marks.now) (values c.args.zones.now) c.args.cell 1) c.in_ok-lists_below-2.ensures.second) in
    search rules

pub lists_four-lists_below-requires-4 : goal.lists_four-lists_below-requires-4
lists_four-lists_below-requires-4 t c =
    let one : c.lists_below-3.new.first.rows + 4 ^ c.args.k ≤ 2 ^ 32 = omega (arith, rows_after c.args.k c.args.first.now c.lists_below.new.first (part (standing_ground c.args.marks.now) (values c.args.zones.now) c.args.cell 0) c.in_ok-lists_below.ensures.first, rows_after c.args.k c.lists_below.new.first c.lists_below-2.new.first (part (standing_ground c.args.marks.now) (values c.args.zones.now) c.args.cell 1) c.in_ok-lists_below-2.ensures.first, rows_after c.args.k c.lists_below-2.new.first c.lists_below-3.new.first (part (standing_ground c.args.marks.now) (values c.args.zones.now) c.args.cell 2) c.in_ok-lists_below-3.ensures.first) in
    let two : c.lists_below-3.new.second.rows + 4 ^ c.args.k ≤ 2 ^ 32 = omega (arith, rows_after c.args.k c.args.second.now c.lists_below.new.second (part (standing_ground c.args.marks.now) (values c.args.zones.now) c.args.cell 0) c.in_ok-lists_below.ensures.second, rows_after c.args.k c.lists_below.new.second c.lists_below-2.new.second (part (standing_ground c.args.marks.now) (values c.args.zones.now) c.args.cell 1) c.in_ok-lists_below-2.ensures.second, rows_after c.args.k c.lists_below-2.new.second c.lists_below-3.new.second (part (standing_ground c.args.marks.now) (values c.args.zones.now) c.args.cell 2) c.in_ok-lists_below-3.ensures.second) in
    search rules
