use Rattle.std.proofs.Common.{◌≡◌, ◌∙◌, sym, ap, arith, take}
use Rattle.std.specs.Borrow.{Bor}
use Rattle.std.proofs.lemmas.List.{length-map, take_all}
use Rattle.act_geom.specs.declared.class.Class.TheVariants.{Mixed}
use Rattle.act_super.specs.declared.standing.Standing.{Standing}
use Rattle.act_super.specs.Grounds.{some_asks}
use Rattle.act_super.specs.Standings.{standing_ground, values}
use Rattle.act_super.proofs.BoxFacts.{asked_at, mixed_at}
use Rattle.act_super.proofs.NarrowFacts.{put_asked}
use Rattle.act_super.proofs.StandingFacts.{wanted_is}
use Rattle.act_super.proofs.below.any_asks.Goals as goal

pub returns-then-asks : goal.returns-then-asks
returns-then-asks c =
    let r = c.zone-item.result in
    let mixed = mixed_at c.args.zones.now c.args.cell c.loop-zone.zone-index r c.loop-zone-test.true c.zone-item.is c.requires in
    let one = wanted_is c.args.cell r.now c.args.marks.now Mixed c.level-level.result c.has-marked.result c.asks.result (sym mixed) c.level-level.ensures.value c.has-marked.ensures c.asks.ensures in
    sym (asked_at c.args.marks.now c.args.zones.now c.args.cell c.loop-zone.zone-index r c.loop-zone-test.true c.zone-item.is (sym one ∙ c.if-asks.true))

pub loop-zone-preserved : goal.loop-zone-preserved
loop-zone-preserved c =
    let r = c.zone-item.result in
    let mixed = mixed_at c.args.zones.now c.args.cell c.loop-zone.zone-index r c.loop-zone-test.true c.zone-item.is c.requires in
    let one = wanted_is c.args.cell r.now c.args.marks.now Mixed c.level-level.result c.has-marked.result c.asks.result (sym mixed) c.level-level.ensures.value c.has-marked.ensures c.asks.ensures in
    sym (put_asked (standing_ground c.args.marks.now) c.args.zones.now c.args.cell c.loop-zone.zone-index r _ _ c.asks.result c.loop-zone-test.true c.zone-item.is (sym c.loop-zone.invariant) one (sym c.if-asks.false))

pub returns : goal.returns
returns c =
    let all : take c.loop-zone.zone-index (values c.args.zones.now) ≡ values c.args.zones.now =
    take_all c.loop-zone.zone-index (values c.args.zones.now) (omega (arith, c.loop-zone-test.false, length-map c.args.zones.now (λ (r : Bor Standing). r.now))) in
    sym c.loop-zone.invariant ∙ ap (some_asks (standing_ground c.args.marks.now) c.args.cell) all
