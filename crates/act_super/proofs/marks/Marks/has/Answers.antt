use Rattle.std.proofs.Common.{◌∙◌, ap, sym, length}
use Rattle.act_grid.specs.Cell.{id_of}
use Rattle.act_super.specs.Grounds.{is_among}
use Rattle.act_super.proofs.MarkFacts.{among_indexed, among_none, between, found_at, found_nowhere, none_when}
use Rattle.act_super.proofs.marks.Marks.has.Goals as goal

pub returns-then-is_empty : goal.returns-then-is_empty
returns-then-is_empty c =
    sym (among_none c.self.inside.cells.items c.self.inside.ids.items c.args.cell c.self.invariant (ap (λ ids. length ids) (sym c.as_slice-ids.ensures.value) ∙ none_when (length c.as_slice-ids.result.now) c.is_empty.result c.is_empty.ensures c.if-is_empty.true))
    ∙ ap (λ cells. is_among cells c.args.cell) c.self.view_is

pub returns-in-Ok : goal.returns-in-Ok
returns-in-Ok c =
    let place = rw (c.as_slice-ids.ensures.value, c.id_in.ensures.is) at c.in-Ok.ensures in
    sym (found_at c.self.inside.ids.items (id_of c.args.cell) c.in-Ok.field-0 place.0 place.1)
    ∙ sym (among_indexed c.self.inside.cells.items c.self.inside.ids.items c.args.cell c.id_in.ensures.cell c.self.invariant)
    ∙ ap (λ cells. is_among cells c.args.cell) c.self.view_is

pub returns-in-Err : goal.returns-in-Err
returns-in-Err c =
    let place = rw (c.as_slice-ids.ensures.value, c.id_in.ensures.is) at c.in-Err.ensures in
    sym (found_nowhere c.self.inside.ids.items (id_of c.args.cell) (λ k. between c.self.inside.ids.items (id_of c.args.cell) c.in-Err.field-0 k place.1 place.2))
    ∙ sym (among_indexed c.self.inside.cells.items c.self.inside.ids.items c.args.cell c.id_in.ensures.cell c.self.invariant)
    ∙ ap (λ cells. is_among cells c.args.cell) c.self.view_is
