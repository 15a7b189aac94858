use Rattle.std.proofs.Common.{◌∙◌, ◌++◌, sym, ap}
use Rattle.act_super.specs.Standings.{values}
use Rattle.act_super.proofs.BoxFacts.{all_mixed}
use Rattle.act_super.proofs.below.part_around.Goals as goal

pub returns-clause-zones : goal.returns-clause-zones
returns-clause-zones c =
    ap values (c.in_ok-extend_from_slice.ensures.items ∙ ap (λ refs. refs ++ c.args.zones.now) c.in_ok-all.ensures.items)
    ∙ sym (all_mixed c.args.marks.now (values c.args.zones.now) c.args.cell c.requires)
