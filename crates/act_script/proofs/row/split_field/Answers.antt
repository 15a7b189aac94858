use Rattle.std.proofs.Common.{◌≡◌, ◌-◌, ◌+◌, arith, sym, ◌∙◌}
use Rattle.act_script.specs.Fields.{field_text}
use Rattle.act_script.specs.Records.{split_at_commas}
use Rattle.act_script.proofs.RowFacts.{field_first, field_later, field_one}
use Rattle.act_script.proofs.row.split_field.Goals as goal

pub returns-in_default : goal.returns-in_default
returns-in_default c =
    let kept : field_text (split_at_commas c.loop.rest.now) (c.args.place - c.loop.counter) ≡ field_text (split_at_commas c.args.text.now) c.args.place = c.loop.invariant in
    sym (field_one (split_at_commas c.loop.rest.now) c.loop.rest.now (c.args.place - c.loop.counter) c.in_default.ensures (omega (arith, c.loop-test.true))) ∙ kept

pub loop-preserved : goal.loop-preserved
loop-preserved c =
    let kept : field_text (split_at_commas c.loop.rest.now) (c.args.place - c.loop.counter) ≡ field_text (split_at_commas c.args.text.now) c.args.place = c.loop.invariant in
    sym (field_later (split_at_commas c.loop.rest.now) _ (split_at_commas c.in-Some.more.now) (c.args.place - c.loop.counter) (c.args.place - (c.loop.counter + 1)) c.in-Some.ensures.0 (omega (arith, c.loop-test.true)))
    ∙ kept

pub returns-in-Some-cut : goal.returns-in-Some-cut
returns-in-Some-cut c =
    let kept : field_text (split_at_commas c.loop.rest.now) (c.args.place - c.loop.counter) ≡ field_text (split_at_commas c.args.text.now) c.args.place = c.loop.invariant in
    sym (field_first (split_at_commas c.loop.rest.now) c.in-Some-cut.first.now _ (c.args.place - c.loop.counter) c.in-Some-cut.ensures.0 (omega (arith, c.loop-test.false))) ∙ kept

pub returns-in-None : goal.returns-in-None
returns-in-None c =
    let kept : field_text (split_at_commas c.loop.rest.now) (c.args.place - c.loop.counter) ≡ field_text (split_at_commas c.args.text.now) c.args.place = c.loop.invariant in
    sym (field_first (split_at_commas c.loop.rest.now) c.loop.rest.now _ (c.args.place - c.loop.counter) c.in-None.ensures (omega (arith, c.loop-test.false))) ∙ kept
