use Rattle.std.proofs.Common.{arith, sym, ◌∙◌}
use Rattle.act_script.specs.Records.{split_at_commas}
use Rattle.act_script.proofs.RowFacts.{field_front, field_last, field_none, length_more}
use Rattle.act_script.proofs.row.QuotedRow.field.Goals as goal

pub returns-then-place-before : goal.returns-then-place-before
returns-then-place-before c =
    c.split_field.ensures ∙ sym (field_front (split_at_commas c.args.self.now.front.now) _ c.args.place (omega (arith, c.if-place-before.true, c.count_split-before.ensures.value)))

pub returns-then-place-before-2 : goal.returns-then-place-before-2
returns-then-place-before-2 c =
    sym (field_last (split_at_commas c.args.self.now.front.now) c.args.self.now.last.now c.args.place (omega (arith, c.if-place-before-2.true, c.count_split-before.ensures.value)))

pub returns-else-place-before-2 : goal.returns-else-place-before-2
returns-else-place-before-2 c =
    sym (field_none _ c.args.place
    (length_more (split_at_commas c.args.self.now.front.now) c.args.self.now.last.now c.args.place (omega (arith, c.if-place-before.false, c.if-place-before-2.false, c.count_split-before.ensures.value))))
