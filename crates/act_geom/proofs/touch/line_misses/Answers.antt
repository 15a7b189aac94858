use Rattle.std.proofs.Common.{◌≡◌, ◌≤ℤ◌, ◌∙◌, rules, arith}
use Rattle.std.specs.Prelude.{FitsSigned}
use Rattle.std.specs.Int.{w32}
use Rattle.std.proofs.lemmas.Int.{to_z-of_z, ints}
use Rattle.act_geom.specs.Touch.{all_left}
use Rattle.act_geom.proofs.BoxFacts.{east_of_start, north_of_start, west_of_start, first_true, second_left}
use Rattle.act_geom.proofs.Corners.{IsBox, by_south_east, by_north_west, by_north_east, by_south_west}
use Rattle.act_geom.proofs.touch.line_misses.Goals as goal

pub left_of_east-requires-clause-after : goal.left_of_east-requires-clause-after
left_of_east-requires-clause-after c =
    let h : c.args.low.x ≤ℤ c.args.hull.hi.x = east_of_start c.args.hull c.args.low c.args.high c.requires.meets (grind (arith, ints)) in
    omega (arith, ints)

pub right_of_east-requires-clause-over : goal.right_of_east-requires-clause-over
right_of_east-requires-clause-over c =
    let h : c.args.low.y ≤ℤ c.args.hull.hi.y = north_of_start c.args.hull c.args.low c.args.high c.requires.meets c.requires.up in
    omega (arith, ints)

pub left_of_west-requires-clause-over : goal.left_of_west-requires-clause-over
left_of_west-requires-clause-over c = north_of_start c.args.hull c.args.low c.args.high c.requires.meets c.requires.up

pub right_of_west-requires-clause-before : goal.right_of_west-requires-clause-before
right_of_west-requires-clause-before c = west_of_start c.args.hull c.args.low c.args.high c.requires.meets (grind (arith, ints))

pub returns-then-left_of_east : goal.returns-then-left_of_east
returns-then-left_of_east c =
    let lx : FitsSigned w32 c.args.hull.lo.x = search rules in
    let ly : FitsSigned w32 c.args.hull.lo.y = search rules in
    let hx : FitsSigned w32 c.args.hull.hi.x = search rules in
    let hy : FitsSigned w32 c.args.hull.hi.y = search rules in
    let box : IsBox c.args.hull = record { wide = c.requires.wide; tall = c.requires.tall } in
    let east : c.args.low.x ≤ℤ c.args.high.x = grind (arith, ints) in
    let one : c.left_of_east.result ≡ all_left c.args.hull c.args.low c.args.high = (simp to_z-of_z at c.left_of_east.ensures) ∙ by_south_east c.args.hull c.args.low c.args.high box east c.requires.up in
    first_true _ _ _ one c.if-left_of_east.true

pub returns-else-left_of_east : goal.returns-else-left_of_east
returns-else-left_of_east c =
    let lx : FitsSigned w32 c.args.hull.lo.x = search rules in
    let ly : FitsSigned w32 c.args.hull.lo.y = search rules in
    let hx : FitsSigned w32 c.args.hull.hi.x = search rules in
    let hy : FitsSigned w32 c.args.hull.hi.y = search rules in
    let box : IsBox c.args.hull = record { wide = c.requires.wide; tall = c.requires.tall } in
    let east : c.args.low.x ≤ℤ c.args.high.x = grind (arith, ints) in
    let one : c.left_of_east.result ≡ all_left c.args.hull c.args.low c.args.high = (simp to_z-of_z at c.left_of_east.ensures) ∙ by_south_east c.args.hull c.args.low c.args.high box east c.requires.up in
    let two : c.right_of_east.result ≡ all_left c.args.hull c.args.high c.args.low = (simp to_z-of_z at c.right_of_east.ensures) ∙ by_north_west c.args.hull c.args.high c.args.low box east c.requires.up in
    second_left _ _ _ _ one c.if-left_of_east.false two

pub returns-then-left_of_west : goal.returns-then-left_of_west
returns-then-left_of_west c =
    let box : IsBox c.args.hull = record { wide = c.requires.wide; tall = c.requires.tall } in
    let west : c.args.high.x ≤ℤ c.args.low.x = grind (arith, ints) in
    let one : c.left_of_west.result ≡ all_left c.args.hull c.args.low c.args.high = c.left_of_west.ensures ∙ by_north_east c.args.hull c.args.low c.args.high box west c.requires.up in
    first_true _ _ _ one c.if-left_of_west.true

pub returns-else-left_of_west : goal.returns-else-left_of_west
returns-else-left_of_west c =
    let box : IsBox c.args.hull = record { wide = c.requires.wide; tall = c.requires.tall } in
    let west : c.args.high.x ≤ℤ c.args.low.x = grind (arith, ints) in
    let one : c.left_of_west.result ≡ all_left c.args.hull c.args.low c.args.high = c.left_of_west.ensures ∙ by_north_east c.args.hull c.args.low c.args.high box west c.requires.up in
    let two : c.right_of_west.result ≡ all_left c.args.hull c.args.high c.args.low = c.right_of_west.ensures ∙ by_south_west c.args.hull c.args.high c.args.low box west c.requires.up in
    second_left _ _ _ _ one c.if-left_of_west.false two
