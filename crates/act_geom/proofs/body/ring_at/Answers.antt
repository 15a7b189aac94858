use Rattle.std.proofs.Common.{◌+◌, ◌-◌, ◌/◌, length, arith}
use Rattle.std.proofs.lemmas.List.Sums.{sum_by-take-le}
use Rattle.act_grid.specs.declared.Point.{Point}
use Rattle.std.specs.Prelude.{List}
use Rattle.act_geom.proofs.LaidFacts.{rings_few}
use Rattle.act_geom.proofs.BodyFacts.{first_halves}
use Rattle.act_geom.proofs.body.ring_at.Goals as goal

pub loop-high-init : goal.loop-high-init
loop-high-init c =
    let h = first_halves c.args.shape.now c.args.k c.rings-high.result c.requires.after c.requires.within c.rings-high.ensures.value in
    record { order = h.0; some = omega arith; start = c.requires.after; end = h.1 }

pub overflow_add-middle-in-loop-high-2 : goal.overflow_add-middle-in-loop-high-2
overflow_add-middle-in-loop-high-2 c =
    omega (arith, rings_few c.args.shape.now c.rings-high.ensures.shape, c.rings-high.ensures.shape.few, sum_by-take-le (λ (x : List Point). length x) c.args.shape.now (c.loop-high.low + (c.loop-high.high - c.loop-high.low) / 2))
