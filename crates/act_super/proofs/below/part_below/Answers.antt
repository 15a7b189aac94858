use Rattle.std.proofs.Common.{◌≡◌, ◌∙◌, sym, ap, true}
use Rattle.act_grid.specs.Cell.{hull_of}
use Rattle.act_super.specs.Frames.{is_apart, is_around}
use Rattle.act_super.specs.Standings.{values}
use Rattle.act_super.proofs.BoxFacts.{mixed_around, none_apart, whole_apart}
use Rattle.act_super.proofs.below.part_below.Goals as goal

pub returns-then-is_apart-clause-zones : goal.returns-then-is_apart-clause-zones
returns-then-is_apart-clause-zones c =
    let apart : is_apart c.args.frame (hull_of c.args.cell) ≡ true = ap (is_apart c.args.frame) (sym c.hull-hull.ensures) ∙ sym c.is_apart.ensures ∙ c.if-is_apart.true in
    ap values c.new.ensures.items ∙ sym (none_apart c.args.marks.now c.args.frame (values c.args.zones.now) c.args.cell c.requires apart)

pub returns-then-is_apart-clause-split : goal.returns-then-is_apart-clause-split
returns-then-is_apart-clause-split c =
    let apart : is_apart c.args.frame (hull_of c.args.cell) ≡ true = ap (is_apart c.args.frame) (sym c.hull-hull.ensures) ∙ sym c.is_apart.ensures ∙ c.if-is_apart.true in
    sym (whole_apart c.args.marks.now c.args.frame (values c.args.zones.now) c.args.cell c.requires apart)

pub part_around-requires : goal.part_around-requires
part_around-requires c =
    mixed_around c.args.frame (values c.args.zones.now) c.args.cell c.requires (ap (λ h. is_around h c.args.frame) (sym c.hull-hull.ensures) ∙ sym c.is_around.ensures ∙ c.if-is_around.true)
