use Rattle.std.proofs.Common.{◌≡◌, pos, ◌-ℤ◌, sym, arith}
use Rattle.std.proofs.lemmas.Int.{ints}
use Rattle.act_geom.proofs.Passing.{west_not_left, west_left}
use Rattle.act_geom.proofs.touch.left_of_west.Goals as goal

pub returns-then-low-p : goal.returns-then-low-p
returns-then-low-p c = sym (west_not_left c.args.low c.args.high c.args.p c.requires.west c.requires.up (omega (arith, ints)) c.requires.over)

pub returns : goal.returns
returns c =
    let u : pos c.span.result ≡ c.args.low.x -ℤ c.args.high.x = omega (arith, ints) in
    let v : pos c.span-2.result ≡ c.args.p.y -ℤ c.args.low.y = omega (arith, ints) in
    let w : pos c.span-3.result ≡ c.args.low.x -ℤ c.args.p.x = omega (arith, ints) in
    let t : pos c.span-4.result ≡ c.args.high.y -ℤ c.args.low.y = omega (arith, ints) in
    west_left c.args.low c.args.high c.args.p _ _ _ _ u v w t
