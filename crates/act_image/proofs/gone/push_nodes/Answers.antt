use Rattle.std.proofs.Common.{◌∙◌, ap, get_or, refl}
use Rattle.std.proofs.lemmas.List.{get_or_default}
use Rattle.act_image.specs.Pics.{no_node}
use Rattle.act_image.proofs.GoneFacts.{node_goes, node_stays}
use Rattle.act_image.proofs.gone.push_nodes.Goals as goal
use Rattle.act_image.proofs.gone.push_nodes.Goals.{then-not-stays-i+in_ok-push+in_ok-push_part, else-not-stays-i}

pub loop-i-preserved : goal.loop-i-preserved
loop-i-preserved c =
    elim c.if-not-stays-i.branch [
      | then-not-stays-i+in_ok-push+in_ok-push_part w ↦
          node_goes c.args.old.nodes.now c.args.stays.now c.args.old.rows.now c.args.gone.now.items c.loop-i.gone.items c.loop-i.i c.loop-i.invariant _ w.push.new.self.items _ (get_or c.args.old.nodes.now c.loop-i.i w.index-old-i.result) w.if-not-stays-i.true refl
          (get_or_default c.args.old.nodes.now c.loop-i.i w.index-old-i.result no_node c.loop-i-test.true) w.in_ok-push.ensures.items (ap (λ v. v.items) w.gone-is ∙ w.in_ok-push_part.ensures)
      | else-not-stays-i w ↦
          node_stays c.args.old.nodes.now c.args.stays.now c.args.old.rows.now c.args.gone.now.items c.loop-i.gone.items c.loop-i.i c.loop-i.invariant _ w.if-not-stays-i.false (ap (λ v. v.items) w.gone-is)
    ]
