use Rattle.std.proofs.Common.{◌≡◌, pos, ◌-ℤ◌, sym, arith}
use Rattle.std.proofs.lemmas.Int.{ints}
use Rattle.act_geom.proofs.Passing.{east_not_right, east_right}
use Rattle.act_geom.proofs.touch.right_of_east.Goals as goal

pub returns-then-p-low : goal.returns-then-p-low
returns-then-p-low c = sym (east_not_right c.args.low c.args.high c.args.p c.requires.east c.requires.up (omega (arith, ints)) c.requires.over)

pub returns : goal.returns
returns c =
    let u : pos c.span.result ≡ c.args.high.x -ℤ c.args.low.x = omega (arith, ints) in
    let v : pos c.span-2.result ≡ c.args.p.y -ℤ c.args.low.y = omega (arith, ints) in
    let w : pos c.span-3.result ≡ c.args.p.x -ℤ c.args.low.x = omega (arith, ints) in
    let t : pos c.span-4.result ≡ c.args.high.y -ℤ c.args.low.y = omega (arith, ints) in
    east_right c.args.low c.args.high c.args.p _ _ _ _ u v w t
