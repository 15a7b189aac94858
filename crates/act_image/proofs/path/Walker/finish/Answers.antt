use Rattle.std.proofs.Common.{length, refl, subst}
use Rattle.act_super.specs.States.{after}
use Rattle.act_image.specs.Paths.{StaysIn}
use Rattle.act_image.proofs.PathEnd.{finished}
use Rattle.act_image.proofs.path.Walker.finish.Goals as goal

pub returns : goal.returns
returns c =
    finished c.args.state.now.settings c.args.state.now.state (after c.args.state.now.settings c.args.state.now.state c.args.next.now.entry) c.args.next.now.entry c.args.old.nodes.now c.args.old.under.now c.args.old.rows.now c.requires.copy.0 c.requires.copy.1
    c.args.self _ c.requires.walk refl refl refl refl refl refl refl
    (subst (λ v. StaysIn v (length c.args.old.nodes.now) c.in_ok-stays.stays.items) c.as_slice.ensures.value c.in_ok-stays.ensures)
