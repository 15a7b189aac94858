use Rattle.std.proofs.Common.{rules, ◌≡◌, ℕ, ◌+◌, ◌<◌, length, arith, sym, ◌∙◌, ap}
use Rattle.act_grid.specs.Cell.{Address, IsCell}
use Rattle.act_cover.proofs.Placed.{child_cell}
use Rattle.act_super.specs.Grounds.{is_among, is_split, on}
use Rattle.act_super.specs.Losses.{loss_at}
use Rattle.act_super.specs.Standings.{standing_ground, values}
use Rattle.act_super.proofs.LossFacts.{losses_few, losses_fit, losses_leaf, losses_split}
use Rattle.act_super.proofs.StandingFacts.{length_values, standings_go_down}
use Rattle.act_super.proofs.TreeFacts.{on_again, split_on}
use Rattle.act_super.proofs.lost.+lost.Goals as goal

joined : (a b h x t : ℕ) → a ≡ h → b ≡ x → t ≡ h + x → a + b ≡ t
joined a b h x t e f g = omega (arith, e, f, g)

pub lost-returns-then-not-split : goal.lost-returns-then-not-split
lost-returns-then-not-split t c = sym (losses_leaf (standing_ground c.args.marks.now) (is_among c.args.old.now) (values c.args.zones.now) c.args.cell (sym c.requires.split ∙ c.if-not-split.true))

pub lost-returns-then-zones-lt-LISTED : goal.lost-returns-then-zones-lt-LISTED
lost-returns-then-zones-lt-LISTED t c =
    let few : length (on (standing_ground c.args.marks.now) (values c.args.zones.now) c.args.cell) < 3 = omega (arith, ap (λ xs. length xs) c.requires.on, length_values c.args.zones.now, c.if-zones-lt-LISTED.true) in
    sym (losses_few (standing_ground c.args.marks.now) (standings_go_down c.args.marks.now) (is_among c.args.old.now) (values c.args.zones.now) c.args.cell c.requires.cell c.requires.level few)

pub lost-returns : goal.lost-returns
lost-returns t c =
    let count : length (on (standing_ground c.args.marks.now) (values c.args.zones.now) c.args.cell) ≡ length c.args.zones.now = ap (λ xs. length xs) c.requires.on ∙ length_values c.args.zones.now in
    joined _ _ _ _ _
    (c.lost_at-here.ensures.is ∙ ap (loss_at (is_among c.args.marks.now c.args.cell) (is_among c.args.old.now c.args.cell)) (sym count))
    c.in_ok-below.ensures.is
    (losses_split (standing_ground c.args.marks.now) (standings_go_down c.args.marks.now) (is_among c.args.old.now) (values c.args.zones.now) c.args.cell c.requires.cell (sym c.requires.split ∙ c.if-not-split.false))

pub lost_below-lost-requires : goal.lost_below-lost-requires
lost_below-lost-requires t c =
    let g = (standing_ground c.args.marks.now) in
    let level : c.child-below.result.level ≡ c.args.cell.level + 1 = ap (λ (x : Address). x.level) c.child-below.ensures in
    let cell : IsCell c.child-below.result = rw c.child-below.ensures (child_cell c.args.cell c.args.q c.requires.cell (omega (arith, c.requires.level)) c.requires.quarter) in
    let items : values c.as_slice.result.now ≡ on g (values c.args.zones.now) c.child-below.result = ap values c.as_slice.ensures.value ∙ c.in_ok-there.ensures.zones in
    let again : on g (values c.as_slice.result.now) c.child-below.result ≡ values c.as_slice.result.now =
    ap (λ r. on g r c.child-below.result) items ∙ on_again g (values c.args.zones.now) c.child-below.result ∙ sym items in
    let split : c.in_ok-there.there.split ≡ is_split g (values c.as_slice.result.now) c.child-below.result =
    c.in_ok-there.ensures.split ∙ sym (ap (λ r. is_split g r c.child-below.result) items ∙ split_on g (values c.args.zones.now) c.child-below.result) in
    search rules

pub lost_below-returns-clause-fits : goal.lost_below-returns-clause-fits
lost_below-returns-clause-fits t c = omega (arith, c.in_ok-rows.ensures, losses_fit (standing_ground c.args.marks.now) (is_among c.args.old.now) (values c.as_slice.result.now) c.child-below.result)
