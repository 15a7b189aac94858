use Rattle.std.proofs.Common.{◌++◌, [], ◌∷◌, map, refl, ◌∙◌}
use Rattle.act_super.specs.States.{after}
use Rattle.act_image.specs.Paths.{source_in}
use Rattle.act_image.proofs.PathWalk.{root_walker}
use Rattle.act_image.proofs.path.Walker.root.Goals as goal

pub returns : goal.returns
returns c =
    root_walker c.args.state.now.settings c.args.state.now.state (after c.args.state.now.settings c.args.state.now.state c.args.next.now.entry) c.args.next.now.entry c.args.old.nodes.now c.args.old.rows.now c.args.turned.now _ c.requires.turned
    (c.in_ok-push.ensures.items ∙ (λ i. c.new-cells.ensures.items i ++ c.root.ensures i ∷ []))
    (c.in_ok-push_sources.ensures ∙ (λ i. c.new-sources.ensures.items i ++ map (source_in c.args.old.nodes.now c.args.turned.now) (c.as_slice.ensures.value i)))
    c.new.ensures.items c.new-2.ensures.items c.new-3.ensures.items c.new-4.ensures.items c.new-5.ensures.items c.new-6.ensures.items refl
