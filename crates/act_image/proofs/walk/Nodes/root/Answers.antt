use Rattle.std.proofs.Common.{◌++◌, [], ◌∷◌, ◌∙◌}
use Rattle.act_super.specs.States.{after}
use Rattle.act_image.proofs.StepFacts.{root_walk}
use Rattle.act_image.proofs.walk.Nodes.root.Goals as goal

pub returns : goal.returns
returns c =
    root_walk c.args.state.now.settings (after c.args.state.now.settings c.args.state.now.state c.args.next.now.entry) _
    (c.in_ok-push.ensures.items ∙ (λ i. c.new-cells.ensures.items i ++ c.root.ensures i ∷ [])) c.new.ensures.items c.new-2.ensures.items c.new-3.ensures.items c.new-4.ensures.items
