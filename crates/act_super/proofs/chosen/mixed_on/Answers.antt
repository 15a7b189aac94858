use Rattle.std.proofs.Common.{◌≡◌, ◌+◌, ◌≤◌, ◌∙◌, ap, arith, cond, refl, Bool, true, false, ℕ}
use Rattle.std.specs.Int.{from_bool}
use Rattle.act_cover.specs.Covering.{class_at}
use Rattle.act_super.specs.declared.standing.Standing.{Standing}
use Rattle.act_super.specs.Grounds.{is_mixed}
use Rattle.act_super.proofs.NarrowFacts.{sum_more}
use Rattle.act_super.proofs.chosen.mixed_on.Goals as goal

abbrev one_if : Bool → ℕ
one_if b = cond b 1 0

byte_is : (b : Bool) → from_bool b ≡ one_if b
byte_is true = refl
byte_is false = refl

at_most : (count one i : ℕ) (b : Bool) → one ≡ one_if b → count ≤ i → count + one ≤ i + 1
at_most count one i true e h = omega arith
at_most count one i false e h = omega arith

pub loop-zone-preserved : goal.loop-zone-preserved
loop-zone-preserved c =
    let one : c.from-count.result ≡ one_if (is_mixed (class_at c.zone-item.result.now.shape c.args.cell)) = c.from-count.ensures ∙ byte_is c.is_mixed.result ∙ ap one_if (c.is_mixed.ensures ∙ ap is_mixed c.class_on.ensures) in (
      sum_more (λ (s : Standing). one_if (is_mixed (class_at s.shape c.args.cell))) c.args.zones.now c.loop-zone.zone-index c.zone-item.result c.loop-zone.count c.from-count.result c.loop-zone-test.true c.zone-item.is c.loop-zone.invariant.0 one,
      at_most _ _ _ c.is_mixed.result (c.from-count.ensures ∙ byte_is c.is_mixed.result) c.loop-zone.invariant.1,
    )
