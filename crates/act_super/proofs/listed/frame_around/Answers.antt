use Rattle.std.proofs.Common.{◌≡◌, arith, subst, take}
use Rattle.std.proofs.lemmas.List.{take_all}
use Rattle.act_super.specs.Listings.{AreFramed}
use Rattle.act_super.proofs.ListingFacts.{frame_wider, framed_more}
use Rattle.act_super.proofs.listed.frame_around.Goals as goal

pub loop-one-preserved : goal.loop-one-preserved
loop-one-preserved c =
    let z = c.one-item.result in
    framed_more c.loop-one.frame c.with_frame-frame.result c.args.zones.now c.loop-one.one-index z c.loop-one-test.true c.one-item.is c.with_frame-frame.ensures.first
    (frame_wider z.zone.now.frame c.with_frame-frame.result z.zone.now.shape c.with_frame-frame.ensures.second z.zone.now.framed) c.loop-one.invariant

pub returns : goal.returns
returns c =
    let all : take c.loop-one.one-index c.args.zones.now ≡ c.args.zones.now = take_all c.loop-one.one-index c.args.zones.now (omega (arith, c.loop-one-test.false)) in
    subst (AreFramed c.loop-one.frame) all c.loop-one.invariant
