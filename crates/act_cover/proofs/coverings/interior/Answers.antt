use Rattle.std.proofs.Common.{ap, ◌∙◌, List}
use Rattle.std.specs.List.{filter}
use Rattle.act_cover.specs.declared.held.Held.{Held}
use Rattle.act_cover.specs.Covering.{is_within}
use Rattle.act_cover.specs.Held.{cells_of}
use Rattle.act_cover.proofs.LevelFacts.{interior_held}
use Rattle.act_cover.proofs.coverings.interior.Goals as goal

pub returns : goal.returns
returns g c =
    c.from_vec.ensures ∙ c.in_ok-items.ensures ∙ ap (λ (held : List Held). cells_of (filter (λ (h : Held). is_within h.class) held)) c.as_slice.ensures
    ∙ interior_held (g.S.Classes.rings c.args.shape.now) c.args.cells c.reach-reached.result.level c.reach-reached.result.cells c.reach-reached.ensures.level c.reach-reached.ensures.cells
