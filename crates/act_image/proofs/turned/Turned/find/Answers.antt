use Rattle.std.proofs.Common.{◌≡◌, ◌++◌, [], ◌∙◌}
use Rattle.act_grid.specs.Cell.{root_cell}
use Rattle.act_super.specs.declared.entry.Entry.{Entry}
use Rattle.act_super.specs.States.{after}
use Rattle.act_image.specs.Turned.{turned_under}
use Rattle.act_image.proofs.TurnedFacts.{turned_all}
use Rattle.act_image.proofs.turned.Turned.find.Goals as goal

pub returns : goal.returns
returns c =
    let settings = c.args.state.now.settings in
    let old = c.args.state.now.state in
    let e : Entry = c.args.next.now.entry in
    let found : c.in_ok-of.field-0 ≡ [] ++ turned_under settings old (after settings old e) e root_cell =
    c.in_ok-of.ensures ∙ c.deref-3.ensures.value ∙ c.in_ok-look.ensures.turned ∙ (λ j. c.new-turned.ensures.items j ++ turned_under settings old (after settings old e) e (c.root.ensures j)) in
    turned_all settings old e c.in_ok-of.field-0 found
