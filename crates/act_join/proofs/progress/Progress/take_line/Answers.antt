use Rattle.std.proofs.Common.{◌≡◌, Option, Some, None, Ok, refl, sym, ◌∙◌, ap}
use Rattle.act_script.specs.Answers.{IsFaultOf}
use Rattle.act_script.specs.Items.{item_of}
use Rattle.act_script.specs.declared.item.Item.{Item}
use Rattle.act_join.proofs.FeedFacts.{line_blank, line_stopped}
use Rattle.act_join.proofs.progress.Progress.take_line.Goals as goal

pub returns-in-Ok-Some-clause-takes : goal.returns-in-Ok-Some-clause-takes
returns-in-Ok-Some-clause-takes g c =
    let says : item_of c.args.digits c.args.self.now.cutter.line ≡ Ok (Some c.in-Ok-Some.item) =
    ap (item_of c.args.digits) (sym c.line.ensures.line) ∙ c.in-Ok-Some.ensures.said ∙ ap (λ (item : Option Item). Ok item) c.in-Ok-Some.field-0-is in
    rw says (c.take_item.ensures.takes c.args.self.now.cutter.number)

pub returns-in-Ok-None-clause-takes : goal.returns-in-Ok-None-clause-takes
returns-in-Ok-None-clause-takes g c =
    let says : item_of c.args.digits c.args.self.now.cutter.line ≡ Ok None =
    ap (item_of c.args.digits) (sym c.line.ensures.line) ∙ c.in-Ok-None.ensures.said ∙ ap (λ (item : Option Item). Ok item) c.in-Ok-None.field-0-is in
    line_blank c.args.self.now.cutter.number (item_of c.args.digits c.args.self.now.cutter.line) c.args.self.now c.args.self.now (g.K.Sink.written c.args.out.now) says refl refl

pub returns-in-Err-clause-takes : goal.returns-in-Err-clause-takes
returns-in-Err-clause-takes g c more =
    let why = c.in-Err.fault in
    let said : IsFaultOf why (item_of c.args.digits c.args.self.now.cutter.line) = rw c.line.ensures.line at c.in-Err.ensures.said in
    rw (c.end_at_line.ensures, c.number.ensures) (line_stopped c.args.self.now.cutter.number why (item_of c.args.digits c.args.self.now.cutter.line) c.args.self.now _ _ _ said more)
