use Rattle.std.proofs.Common.{rules, ◌≡◌, ◌∙◌}
use Rattle.std.specs.Prelude.{FitsSigned, int_lt}
use Rattle.std.specs.Int.{w32}
use Rattle.std.proofs.lemmas.Int.{to_z-of_z}
use Rattle.act_probe.proofs.SweepFacts.{both_same, one_side}
use Rattle.act_probe.proofs.sweep.passes_right.Goals as goal

pub returns : goal.returns
returns c =
    let px : FitsSigned w32 c.args.p.x = search rules in
    let lx : FitsSigned w32 c.args.low.x = search rules in
    let hx : FitsSigned w32 c.args.high.x = search rules in
    let one : c.is_west-right.result ≡ int_lt c.args.p.x c.args.low.x = c.is_west-right.ensures ∙ simp to_z-of_z in
    let two : c.is_west.result ≡ int_lt c.args.p.x c.args.high.x = c.is_west.ensures ∙ simp to_z-of_z in
    one_side c.args.low c.args.high c.args.p c.is_west-right.result one (both_same c.is_west-right.result c.is_west.result c.if-right-is_west.false ∙ two) c.requires.below c.requires.above
