use Rattle.std.proofs.Common.{subst, sym}
use Rattle.act_super.specs.Stands.{Stands}
use Rattle.act_image.specs.Pics.{empty_sight, renewed}
use Rattle.act_image.proofs.tests.found.Goals as goal

pub probe-reads-requires : goal.probe-reads-requires
probe-reads-requires g c =
    let s = c.requires.stands in
    record { stands = (s.0, s.1, subst (λ root. Stands s.0 (renewed empty_sight c.args.words.now.plan) root s.1) (sym c.root-root.ensures) s.2) }
