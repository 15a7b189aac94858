use Rattle.std.proofs.Common.{◌∙◌, ◌++◌, ap, arith, refl}
use Rattle.std.proofs.lemmas.List.{take_all}
use Rattle.act_super.specs.Places.{zones_with}
use Rattle.act_super.specs.Sizes.{refs_of}
use Rattle.act_super.specs.Standings.{shapes_in}
use Rattle.act_super.proofs.Keyed.{length-zones}
use Rattle.act_super.proofs.RefFacts.{refs_more}
use Rattle.act_super.proofs.StateFacts.{length_shapes}
use Rattle.act_super.proofs.refs.push_refs.Goals as goal

pub loop-i-preserved : goal.loop-i-preserved
loop-i-preserved c =
    refs_more c.args.keys.now c.args.standings.now c.args.cell c.loop-i.i _ c.index-standings-i.result c.args.refs.now.items c.loop-i.refs.items c.push_ref.new.refs.items
    c.requires c.loop-i-test.true refl c.index-standings-i.is c.loop-i.invariant c.in_ok-push_ref.ensures

pub returns : goal.returns
returns c =
    let shapes = length_shapes c.args.standings.now ∙ c.requires in
    c.loop-i.invariant
    ∙ ap (λ zs. c.args.refs.now.items ++ refs_of zs c.args.cell)
    (take_all c.loop-i.i (zones_with c.args.keys.now (shapes_in c.args.standings.now)) (omega (arith, length-zones c.args.keys.now (shapes_in c.args.standings.now) shapes, c.loop-i-test.false)))
