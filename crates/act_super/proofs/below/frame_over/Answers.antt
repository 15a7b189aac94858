use Rattle.std.proofs.Common.{◌≡◌, arith, subst, take}
use Rattle.std.proofs.lemmas.List.{length-map, take_all}
use Rattle.std.specs.Borrow.{Bor}
use Rattle.act_super.specs.declared.standing.Standing.{Standing}
use Rattle.act_super.specs.Boxes.{AreFramed}
use Rattle.act_super.specs.Standings.{values}
use Rattle.act_super.proofs.BoxFacts.{framed_next}
use Rattle.act_super.proofs.ListingFacts.{frame_wider}
use Rattle.act_super.proofs.below.frame_over.Goals as goal

pub loop-zone-preserved : goal.loop-zone-preserved
loop-zone-preserved c =
    let r = c.zone-item.result in
    framed_next c.loop-zone.frame c.with_frame-frame.result c.args.zones.now c.loop-zone.zone-index r c.loop-zone-test.true c.zone-item.is c.with_frame-frame.ensures.first
    (frame_wider r.now.frame c.with_frame-frame.result r.now.shape c.with_frame-frame.ensures.second r.now.framed) c.loop-zone.invariant

pub returns : goal.returns
returns c =
    let all : take c.loop-zone.zone-index (values c.args.zones.now) ≡ values c.args.zones.now =
    take_all c.loop-zone.zone-index (values c.args.zones.now) (omega (arith, c.loop-zone-test.false, length-map c.args.zones.now (λ (r : Bor Standing). r.now))) in
    subst (AreFramed c.loop-zone.frame) all c.loop-zone.invariant
