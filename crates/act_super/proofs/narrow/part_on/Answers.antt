use Rattle.std.proofs.Common.{◌≡◌, ◌∙◌, ◌&&◌, ◌||◌, ap, sym, refl, arith, take, true, false, ◌++◌, ◌∷◌, []}
use Rattle.std.specs.Prelude.{nat_lt}
use Rattle.std.specs.Borrow.{Bor}
use Rattle.std.specs.declared.vec.Vec.{Vec}
use Rattle.std.specs.declared.alloc.Global.{Global}
use Rattle.std.proofs.lemmas.List.{length-map, take_all}
use Rattle.act_cover.specs.Covering.{class_at, is_on}
use Rattle.act_super.specs.declared.standing.Standing.{Standing}
use Rattle.act_super.specs.Grounds.{is_among, is_mixed, on, some_asks}
use Rattle.act_super.specs.Standings.{standing_ground, values}
use Rattle.act_super.proofs.NarrowFacts.{put_on, skip_on, put_asked, skip_asked}
use Rattle.act_super.proofs.narrow.part_on.Goals as goal
use Rattle.act_super.proofs.narrow.part_on.Goals.{then-is_on+in_ok-push, else-is_on}

pub loop-zone-init : goal.loop-zone-init
loop-zone-init c = (ap values c.in_ok-found.ensures.items, refl)

pub loop-zone-preserved : goal.loop-zone-preserved
loop-zone-preserved c =
    let g = standing_ground c.args.marks.now in
    let r = c.zone-item.result in
    let class : c.class_on-class.result ≡ class_at r.now.shape c.args.cell = c.class_on-class.ensures in
    let tested : is_on (class_at r.now.shape c.args.cell) ≡ c.is_on.result = ap is_on (sym class) ∙ sym c.is_on.ensures in
    elim c.if-is_on.branch [
      | then-is_on+in_ok-push w ↦
          let on_it : is_on (class_at r.now.shape c.args.cell) ≡ true = tested ∙ w.if-is_on.true in
          let more : c.if-is_on.found.items ≡ c.loop-zone.found.items ++ (r ∷ []) = ap (λ (v : Vec (Bor Standing) Global). v.items) w.found-is ∙ w.in_ok-push.ensures.items in
          let one : w.asks-asked.result ≡ (is_mixed (class_at r.now.shape c.args.cell) && (nat_lt c.args.cell.level r.now.level || is_among c.args.marks.now c.args.cell)) =
          w.asks-asked.ensures
          ∙ ap (λ k. is_mixed k && (nat_lt c.level-level.result r.now.level || c.has-marked.result)) class
          ∙ ap (λ n. is_mixed (class_at r.now.shape c.args.cell) && (nat_lt n r.now.level || c.has-marked.result)) c.level-level.ensures.value
          ∙ ap (λ b. is_mixed (class_at r.now.shape c.args.cell) && (nat_lt c.args.cell.level r.now.level || b)) c.has-marked.ensures in (
            put_on g c.args.zones.now c.loop-zone.found.items c.if-is_on.found.items c.args.cell c.loop-zone.zone-index r c.loop-zone-test.true c.zone-item.is on_it c.loop-zone.invariant.0 more,
            put_asked g c.args.zones.now c.args.cell c.loop-zone.zone-index r c.loop-zone.asked c.if-is_on.asked w.asks-asked.result c.loop-zone-test.true c.zone-item.is c.loop-zone.invariant.1 one w.asked-is,
          )
      | else-is_on w ↦
          let off : is_on (class_at r.now.shape c.args.cell) ≡ false = tested ∙ w.if-is_on.false in (
            skip_on g c.args.zones.now c.if-is_on.found.items c.args.cell c.loop-zone.zone-index r c.loop-zone-test.true c.zone-item.is off
                (ap (λ (v : Vec (Bor Standing) Global). values v.items) w.found-is ∙ c.loop-zone.invariant.0),
            w.asked-is ∙ skip_asked g c.args.zones.now c.args.cell c.loop-zone.zone-index r c.loop-zone.asked c.loop-zone-test.true c.zone-item.is off c.loop-zone.invariant.1,
          )
    ]

pub returns-clause-zones : goal.returns-clause-zones
returns-clause-zones c =
    let all : take c.loop-zone.zone-index (values c.args.zones.now) ≡ values c.args.zones.now =
    take_all c.loop-zone.zone-index (values c.args.zones.now) (omega (arith, c.loop-zone-test.false, length-map c.args.zones.now (λ (r : Bor Standing). r.now))) in
    c.loop-zone.invariant.0 ∙ ap (λ xs. on (standing_ground c.args.marks.now) xs c.args.cell) all

pub returns-clause-split : goal.returns-clause-split
returns-clause-split c =
    let all : take c.loop-zone.zone-index (values c.args.zones.now) ≡ values c.args.zones.now =
    take_all c.loop-zone.zone-index (values c.args.zones.now) (omega (arith, c.loop-zone-test.false, length-map c.args.zones.now (λ (r : Bor Standing). r.now))) in
    ap (λ n. nat_lt n 28 && c.loop-zone.asked) c.level-level.ensures.value
    ∙ ap (λ b. nat_lt c.args.cell.level 28 && b) (c.loop-zone.invariant.1 ∙ ap (λ xs. some_asks (standing_ground c.args.marks.now) c.args.cell xs) all)
